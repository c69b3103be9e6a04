use Rattle.std.proofs.Common.{length, List, sym, ap, ◌∙◌}
use Rattle.label_set.specs.declared.texts.Pair.{Pair}
use Rattle.series_cache.proofs.HashLemmas.{kept_length}
use Rattle.series_cache.proofs.rising.RisingSets.len.Goals as goal

pub returns : goal.returns
returns c =
    c.len.ensures.len ∙ sym (kept_length c.self.inside.sets.keys c.len.ensures.unique) ∙ ap (λ (xs : List (List Pair)). length xs) c.self.view_is
