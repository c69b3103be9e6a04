use Rattle.std.proofs.Common.{◌≡◌, ◌≤◌, ◌^◌, drop}
use Rattle.value_text.specs.Durations as spec
use Rattle.value_text.proofs.DurationLemmas.{onto}
use Rattle.value_text.proofs.durations.in_units.Given as goal

abbrev pub invariant-loop-unit : goal.invariant-loop-unit
invariant-loop-unit l =
    (l.total ≤ 2 ^ 40) × (spec.within_limit (onto l.total (spec.in_units (drop l.unit-index l.units) l.rest)) ≡ spec.within_limit (spec.in_units l.units l.bytes))
