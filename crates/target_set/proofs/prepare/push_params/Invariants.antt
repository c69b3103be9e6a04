use Rattle.std.proofs.Common.{◌≡◌, ◌-◌, ◌++◌, drop}
use Rattle.target_set.specs.Walk.{param_labels}
use Rattle.target_set.proofs.prepare.push_params.Given as goal

abbrev pub invariant-loop-done : goal.invariant-loop-done
invariant-loop-done l = l.out.items ≡ l.fn.out.items ++ param_labels (drop (l.count - l.done) l.params)
