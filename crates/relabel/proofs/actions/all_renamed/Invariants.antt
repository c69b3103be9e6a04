use Rattle.std.proofs.Common.{◌≡◌, ◌++◌}
use Rattle.std.specs.Prelude.{flat_map}
use Rattle.pattern_rule.specs.Patterns.{expansion}
use Rattle.label_set.specs.declared.texts.Pair.{Pair}
use Rattle.relabel.specs.Effects.{label_of}
use Rattle.relabel.proofs.actions.all_renamed.Given as goal

abbrev pub invariant-loop-label : goal.invariant-loop-label
invariant-loop-label l =
    (l.matching ≡ l.fn.matching)
    × (l.out.items ++ flat_map (λ (p : Pair). label_of (expansion l.fn.matching l.name.text p.name) p.value) l.label-iterator
    ≡ flat_map (λ (p : Pair). label_of (expansion l.fn.matching l.name.text p.name) p.value) l.fn.set)
