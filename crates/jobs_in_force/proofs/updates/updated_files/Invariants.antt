use Rattle.std.proofs.Common.{◌≡◌, map, take}
use Rattle.jobs_in_force.specs.Jobs.{with_groups}
use Rattle.jobs_in_force.proofs.updates.updated_files.Given as goal

abbrev pub invariant-loop-one : goal.invariant-loop-one
invariant-loop-one l = l.items.items ≡ map (with_groups l.update.file l.update.groups) (take l.one-index l.files)
