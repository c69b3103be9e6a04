use Rattle.std.proofs.Common.{◌≡◌, take}
use Rattle.std.specs.Prelude.{map}
use Rattle.label_set.specs.declared.labels.Label.{Label}
use Rattle.label_set.proofs.ordered.by_name.Given as goal

abbrev pub invariant-loop-label : goal.invariant-loop-label
invariant-loop-label l = l.named.items ≡ map (λ (x : Label). record { label = x }) (take l.label-index l.labels)
