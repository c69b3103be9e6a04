use Rattle.std.proofs.Common.{◌≡◌}
use Rattle.std.specs.List.{list_all}
use Rattle.relabel.specs.Effects.{stays}
use Rattle.relabel.proofs.kept.all_kept.Given as goal

abbrev pub invariant-loop-label : goal.invariant-loop-label
invariant-loop-label l =
    (l.matching ≡ l.fn.matching) × (list_all (stays l.keep l.fn.matching) l.label-iterator ≡ list_all (stays l.keep l.fn.matching) l.fn.set)
