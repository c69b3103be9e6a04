use Rattle.std.proofs.Common.{◌++◌, ◌∙◌, ap, arith, drop, map}
use Rattle.std.specs.Prelude.{◌+◌}
use Rattle.std.specs.List.{flat_map}
use Rattle.scrape_core.specs.OpenLives.{open_of, shown}
use Rattle.status_server.specs.Targets.{line}
use Rattle.status_server.proofs.TargetLemmas.{target-last, target-more}
use Rattle.status_server.proofs.targets.push_targets.Goals as goal

pub returns : goal.returns
returns c = record { added = target-last c.args.core.now c.loop-place.place c.loop-place.text.items _ (omega (arith, c.open_count-place-end.ensures, c.loop-place-test.false)) c.loop-place.invariant }

pub loop-place-preserved : goal.loop-place-preserved
loop-place-preserved c =
    ap (λ ts. ts ++ flat_map line (drop (c.loop-place.place + 1) (map shown (open_of c.args.core.now)))) c.in_ok-push_place.ensures.added
    ∙ target-more c.args.core.now c.loop-place.place c.open_count-place-end.result c.loop-place.text.items _ c.open_count-place-end.ensures c.loop-place-test.true c.loop-place.invariant
