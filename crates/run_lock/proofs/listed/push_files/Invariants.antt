use Rattle.std.specs.Prelude.{◌≡◌, ◌++◌, All, take}
use Rattle.run_lock.specs.Listed.{IsListed, files_listed}
use Rattle.run_lock.proofs.listed.push_files.Given as goal

abbrev pub invariant-loop-file : goal.invariant-loop-file
invariant-loop-file l = record {
  kept : All IsListed l.fn.listed.items → All IsListed l.listed.items;
  pushed : l.listed.items ≡ l.fn.listed.items ++ files_listed l.job (take l.file-index l.files);
}
