use Rattle.std.proofs.Common.{◌≡◌, ◌++◌, map, take}
use Rattle.target_set.specs.Requests.{texts, each_of}
use Rattle.target_set.proofs.requests.push_values.Given as goal

abbrev pub invariant-loop-value : goal.invariant-loop-value
invariant-loop-value l = map texts l.pairs.items ≡ map texts l.fn.pairs.items ++ each_of l.name (take l.value-index l.values)
