-- How many of a kind a configuration may list: limits of this project's own.
use Rattle.std.specs.Prelude.{ℕ}

-- jobs: 1,000
abbrev pub most_jobs : ℕ
most_jobs = 1000

-- targets of one job: 10,000
abbrev pub most_targets : ℕ
most_targets = 10000

-- different files of one job: 100
abbrev pub most_files : ℕ
most_files = 100
