use Rattle.std.proofs.Common.{◌≡◌, ◌++◌, not}
use Rattle.std.specs.Prelude.{filter, map}
use Rattle.label_set.specs.Borrowed.{pair_of}
use Rattle.label_set.specs.declared.texts.Pair.{Pair}
use Rattle.target_set.specs.Outcomes.{begins_with}
use Rattle.target_set.proofs.outcomes.labels_without_front.Given as goal

abbrev pub invariant-loop-label : goal.invariant-loop-label
invariant-loop-label l =
    map pair_of l.out.items ++ filter (λ (p : Pair). not (begins_with l.front p.name)) l.label-iterator
    ≡ filter (λ (p : Pair). not (begins_with l.front p.name)) l.fn.set
