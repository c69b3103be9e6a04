use Rattle.std.proofs.Common.{◌≡◌, length}
use Rattle.std.specs.List.{list_any}
use Rattle.label_set.specs.declared.texts.Pair.{Pair}
use Rattle.scrape_limits.specs.Limits.{is_past}
use Rattle.scrape_limits.proofs.limits.any_long_value.Given as goal

abbrev pub invariant-loop-label : goal.invariant-loop-label
invariant-loop-label l = list_any (λ (p : Pair). is_past l.limit (length p.value)) l.label-iterator ≡ list_any (λ (p : Pair). is_past l.limit (length p.value)) l.fn.set
