-- How many targets jobs in force list: those of their static groups and those of their files ("Configuration" of the Prometheus documentation:
-- static_config, file_sd_config). A load lists those of all its jobs anew, and an update those of its job.
use Rattle.std.specs.Prelude.{ℕ, List, if◌then◌else◌}
use Rattle.std.specs.List.{sum_by}
use Rattle.jobs_in_force.specs.declared.jobs.InForce.{InForce}
use Rattle.jobs_in_force.specs.Jobs.{count_of, filed, is_named}

-- how many targets a job in force lists, and jobs list together
abbrev pub listed_in : InForce → ℕ
listed_in j = count_of (filed j.job j.files)

abbrev pub listed_by : List InForce → ℕ
listed_by jobs = sum_by listed_in jobs

-- how many the job of a name lists
abbrev pub named_count : List ℕ → InForce → ℕ
named_count name j = if is_named name j then listed_in j else 0

abbrev pub listed_by_named : List ℕ → List InForce → ℕ
listed_by_named name jobs = sum_by (named_count name) jobs
