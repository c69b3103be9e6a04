use Rattle.std.proofs.Common.{◌≡◌, ◌++◌}
use Rattle.series_cache.proofs.rising.RisingSets.list.Given as goal

-- what was copied, and what is still to come
abbrev pub invariant-loop-set : goal.invariant-loop-set
invariant-loop-set l = l.items.items ++ l.set-iterator ≡ l.initial.set-iterator
