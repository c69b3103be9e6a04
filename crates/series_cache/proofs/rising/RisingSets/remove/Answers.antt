use Rattle.std.proofs.Common.{List, [], ◌∷◌, ap, ◌∙◌}
use Rattle.label_set.specs.declared.texts.Pair.{Pair}
use Rattle.series_cache.specs.Sets.{gone}
use Rattle.series_cache.proofs.HashLemmas.{removed_kept}
use Rattle.series_cache.proofs.rising.RisingSets.remove.Goals as goal

pub returns : goal.returns
returns c =
    removed_kept c.args.set.now c.self.inside.sets c.remove.new.self c.remove.ensures.updates.0 ∙ ap (λ (xs : List (List Pair)). gone xs (c.args.set.now ∷ [])) c.self.view_is
