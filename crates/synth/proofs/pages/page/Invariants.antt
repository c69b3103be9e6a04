use Rattle.std.proofs.Common.{◌≡◌}
use Rattle.std.specs.List.{flat_map}
use Rattle.synth.specs.Scripts.{upto, page_line}
use Rattle.synth.proofs.pages.page.Given as goal

abbrev pub invariant-loop-series : goal.invariant-loop-series
invariant-loop-series l = l.bytes.items ≡ flat_map (page_line l.number) (upto l.series)
