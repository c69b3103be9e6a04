use Rattle.std.proofs.Common.{◌≡◌, ◌+◌, ◌++◌, map, take}
use Rattle.target_set.specs.Walk.{group_base, outcome_from}
use Rattle.target_set.proofs.walk.push_group.Given as goal

abbrev pub invariant-loop-text : goal.invariant-loop-text
invariant-loop-text g l = record {
  same : l.rules ≡ l.fn.rules;
  outcomes : l.out.items ≡ l.fn.out.items ++ map (outcome_from l.fn.rules (group_base l.defaults l.group)) (take l.text-index l.texts);
  steps : l.steps ≡ l.fn.steps + l.text-index;
}
