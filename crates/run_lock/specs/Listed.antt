-- The files that a configuration lists.
use Rattle.std.specs.Prelude.{◌&&◌, ℕ, List, [], ◌∷◌, ◌++◌, length, if◌then◌else◌}
use Rattle.control_lines.specs.Commands.{is_name}
use Rattle.jobs_in_force.specs.declared.jobs.InForce.{InForce}
use Rattle.journal_text.specs.Lines.{IsNameLength}
use Rattle.run_lock.specs.declared.listed.Listed.{Listed}

-- the names of a listed file and of its job keep their lengths
pub record IsListed (l : Listed) : Type 0 where
  pub job : IsNameLength (length l.job)
  pub file : IsNameLength (length l.file)

-- a file of a job, where both have names of such lengths, as those of a configuration that is read do
abbrev pub file_listed : List ℕ → List ℕ → List Listed
file_listed job file = if is_name job && is_name file then record { job = job; file = file } ∷ [] else []

abbrev pub files_listed : List ℕ → List (List ℕ) → List Listed
files_listed job [] = []
files_listed job (file ∷ files) = file_listed job file ++ files_listed job files

-- the files of each job, in their order
abbrev pub listed_in : List InForce → List Listed
listed_in [] = []
listed_in (j ∷ js) = files_listed j.job.conf.job_name j.job.conf.files ++ listed_in js
