use Rattle.std.proofs.Common.{List, ap, ◌∙◌}
use Rattle.std.specs.BTreeSet.{insert_key}
use Rattle.label_set.specs.Sets.{set_cmp}
use Rattle.label_set.specs.declared.texts.Pair.{Pair}
use Rattle.series_cache.proofs.HashLemmas.{put_kept}
use Rattle.series_cache.proofs.rising.RisingSets.put.Goals as goal

pub returns : goal.returns
returns c =
    put_kept c.args.set c.self.inside.sets c.insert.new.self c.in_ok-insert.ensures.updates.0 ∙ ap (λ (xs : List (List Pair)). insert_key set_cmp xs c.args.set) c.self.view_is
