use Rattle.std.proofs.Common.{◌≡◌, true, subst, sym, ◌∙◌}
use Rattle.instant_view.proofs.PlaceLemmas.{named_more, place_same}
use Rattle.instant_view.specs.Threads.{is_named}
use Rattle.instant_view.proofs.threads.make_place.Goals as goal

pub returns-clause-same : goal.returns-clause-same
returns-clause-same c =
    place_same c.args.ends.now c.insert.new.self c.args.series.now c.in_ok-series.series c.in_ok-series.ensures (sym c.contains_key.ensures ∙ c.if-contains_key.false)
    c.in_ok-insert.ensures.updates.0

pub returns-clause-named : goal.returns-clause-named
returns-clause-named c =
    named_more c.args.ends.now c.insert.new.self c.args.named.now c.note_name.new.named c.args.series.now c.in_ok-series.series c.in_ok-series.ensures c.in_ok-insert.ensures.updates.0
    c.requires c.note_name.ensures.others
    (subst (λ n. is_named c.note_name.new.named n c.args.series.now ≡ true) c.name_of.ensures c.in_ok-note_name.ensures.ok)
