use Rattle.std.proofs.Common.{List, take, length, sym, ap, ◌∙◌}
use Rattle.label_set.specs.declared.texts.Pair.{Pair}
use Rattle.series_cache.specs.Caches.{text_sets}
use Rattle.series_cache.specs.Sets.{gone}
use Rattle.series_cache.proofs.AddedLemmas.{added_new}
use Rattle.series_cache.proofs.added.added.Goals as goal

pub returns : goal.returns
returns c =
    let ts = c.args.texts.now in
    let known = text_sets (take c.args.kept ts) in
    c.len.ensures ∙ ap length (c.take_known_out.ensures ∙ ap (λ (l : List (List Pair)). gone l known) c.in_ok-sets.ensures ∙ sym (added_new c.args.kept ts))
