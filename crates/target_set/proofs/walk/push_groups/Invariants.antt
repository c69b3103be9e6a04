use Rattle.std.proofs.Common.{◌≡◌, ◌+◌, ◌++◌, take}
use Rattle.target_set.specs.Listed.{listed_count}
use Rattle.target_set.specs.Walk.{groups_walked}
use Rattle.target_set.proofs.walk.push_groups.Given as goal

abbrev pub invariant-loop-group : goal.invariant-loop-group
invariant-loop-group g l = record {
  same : l.rules ≡ l.fn.rules;
  outcomes : l.out.items ≡ l.fn.out.items ++ groups_walked l.defaults l.fn.rules (take l.group-index l.groups);
  steps : l.steps ≡ l.fn.steps + listed_count (take l.group-index l.groups);
}
