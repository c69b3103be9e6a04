-- Where no rule is refused, no field of any rule is.
use Rattle.std.proofs.Common.{◌≡◌, ℕ, ◌+◌, List, [], ◌∷◌, Option, None, Some, refl, All, arith}
use Rattle.std.specs.Prelude.{option_map}
use Rattle.std.specs.Option.{option_or}
use Rattle.std.proofs.lemmas.List.Elements.{All-cons}
use Rattle.rule_conf.specs.Refusals.{rule_fault, first_bad_rule, HasNoBadField}
use Rattle.rule_conf.specs.declared.conf.RuleConf.{RuleConf}
use Rattle.rule_conf.specs.declared.conf.RuleField.{RuleField}

both_none : (n : ℕ) (o : Option RuleField) (p : Option (ℕ × RuleField)) → option_or (option_map (λ field. (n, field)) o) p ≡ None → (o ≡ None) × (p ≡ None)
both_none n None p e = (refl, e)
both_none n (Some x) p e = absurd cc

pub all_fine : (n : ℕ) (rs : List RuleConf) → first_bad_rule n rs ≡ None → All HasNoBadField rs
all_fine n [] e = λ k d h. absurd (omega arith)
all_fine n (r ∷ rs) e =
    let parts = both_none n (rule_fault r) (first_bad_rule (n + 1) rs) e in
    All-cons HasNoBadField r rs parts.0 (all_fine (n + 1) rs parts.1)
