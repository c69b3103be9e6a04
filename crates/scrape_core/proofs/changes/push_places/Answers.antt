use Rattle.std.proofs.Common.{◌+◌, ◌++◌, ◌∷◌, [], ◌∙◌, List, ℕ, append_assoc, sym, ap, arith}
use Rattle.std.specs.List.{range_with_len}
use Rattle.scrape_core.proofs.StateLemmas.{range_push}
use Rattle.scrape_core.proofs.changes.push_places.Goals as goal

pub loop-more-preserved : goal.loop-more-preserved
loop-more-preserved c =
    let n = c.args.first + c.loop-more.more in
    record {
      items = c.push_reserved.ensures.items ∙ ap (λ (zs : List ℕ). zs ++ n ∷ []) c.loop-more.invariant.items
          ∙ append_assoc c.args.places.now.items (range_with_len c.args.first c.loop-more.more) (n ∷ [])
          ∙ ap (λ zs. c.args.places.now.items ++ zs) (sym (range_push c.args.first c.loop-more.more));
      len = omega (arith, c.push_reserved.ensures.len, c.loop-more.invariant.len);
      room = c.push_reserved.ensures.capacity ∙ c.loop-more.invariant.room;
    }
