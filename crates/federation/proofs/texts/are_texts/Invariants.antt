use Rattle.std.specs.List.{AllByRecursion}
use Rattle.federation.specs.Readings.{IsLabelText}
use Rattle.federation.proofs.texts.are_texts.Given as goal

abbrev pub invariant-loop-label : goal.invariant-loop-label
invariant-loop-label l = AllByRecursion IsLabelText l.label-iterator → AllByRecursion IsLabelText l.fn.set
