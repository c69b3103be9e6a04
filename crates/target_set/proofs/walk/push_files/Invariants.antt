use Rattle.std.proofs.Common.{◌≡◌, ◌+◌, ◌++◌, take}
use Rattle.target_set.specs.Listed.{files_groups, listed_count}
use Rattle.target_set.specs.Walk.{groups_walked}
use Rattle.target_set.proofs.walk.push_files.Given as goal

abbrev pub invariant-loop-file : goal.invariant-loop-file
invariant-loop-file g l = record {
  same : l.rules ≡ l.fn.rules;
  outcomes : l.out.items ≡ l.fn.out.items ++ groups_walked l.defaults l.fn.rules (files_groups (take l.file-index l.files));
  steps : l.steps ≡ l.fn.steps + listed_count (files_groups (take l.file-index l.files));
}
