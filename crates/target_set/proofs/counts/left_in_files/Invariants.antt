use Rattle.std.proofs.Common.{◌≡◌, ◌+◌, take}
use Rattle.target_set.specs.Listed.{listed_count, files_groups}
use Rattle.target_set.proofs.counts.left_in_files.Given as goal

abbrev pub invariant-loop-file : goal.invariant-loop-file
invariant-loop-file l = l.left + listed_count (files_groups (take l.file-index l.files)) ≡ l.fn.left
