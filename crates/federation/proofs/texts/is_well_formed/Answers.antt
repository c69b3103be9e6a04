use Rattle.std.proofs.Common.{◌≡◌, ℤ, true, rules, subst, to_z, of_z, w64}
use Rattle.value_text.specs.Numbers.{is_in_range}
use Rattle.federation.proofs.texts.is_well_formed.Goals as goal

pub returns : goal.returns
returns c =
    let same : to_z w64 (of_z w64 c.args.row.now.moment) ≡ c.args.row.now.moment = search rules in
    record {
      set = c.are_texts.ensures.set;
      texts = c.are_texts.ensures.texts;
      value = c.bytes.ensures.value;
      moment = subst (λ (z : ℤ). is_in_range z ≡ true) same c.is_moment.ensures;
    }
