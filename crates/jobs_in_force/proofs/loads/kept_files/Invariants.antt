use Rattle.std.proofs.Common.{◌≡◌, map, take}
use Rattle.std.specs.Prelude.{option_copied}
use Rattle.jobs_in_force.specs.Jobs.{kept_file}
use Rattle.jobs_in_force.proofs.loads.kept_files.Given as goal

abbrev pub invariant-loop-file : goal.invariant-loop-file
invariant-loop-file l = l.items.items ≡ map (kept_file (option_copied l.before)) (take l.file-index l.files)
