-- What a configuration in force is: its jobs with the groups that their files have, and what a load and an update of a file's targets make of it
-- ("Configuration" of the Prometheus documentation: scrape_config, static_config, file_sd_config; the limits of listed targets are this project's).
use Rattle.std.specs.Prelude.{◌≡◌, ◌≤◌, ℕ, ⊤, Bool, false, List, [], map, nat_lt, position, Option, Some, None, Result, Ok, Err, option_map, option_and_then, unwrap_or, if◌then◌else◌}
use Rattle.std.specs.List.{find, list_any, sum_by}
use Rattle.std.specs.Option.{option_map_or}
use Rattle.std.specs.Str.{bytes_eq}
use Rattle.label_set.specs.declared.texts.Pair.{Pair}
use Rattle.config_fields.specs.Places.{item_place}
use Rattle.config_fields.specs.declared.fault.ConfFault.{ConfFault}
use Rattle.config_fields.specs.declared.fault.ConfFault.TheVariants.{TooMany}
use Rattle.scrape_config.specs.declared.fault.ConfError.{ConfError}
use Rattle.scrape_config.specs.declared.fault.ConfError.TheVariants.{Bad, NoMemory}
use Rattle.scrape_config.specs.Counts.{most_targets}
use Rattle.scrape_config.specs.Reading.{whole_reading, groups_reading, unless_fault, jobs_place}
use Rattle.scrape_config.specs.declared.conf.Group.{Group}
use Rattle.scrape_config.specs.declared.conf.Job.{Job}
use Rattle.scrape_config.specs.declared.conf.JobConf.{JobConf}
use Rattle.scrape_config.specs.declared.conf.Conf.{Conf}
use Rattle.target_set.specs.Listed.{target_list, listed_count, listed_groups}
use Rattle.target_set.specs.declared.files.FileGroups.{FileGroups}
use Rattle.target_set.specs.declared.targets.TargetList.{TargetList}
use Rattle.jobs_in_force.specs.TargetWords.{is_target}
use Rattle.jobs_in_force.specs.declared.jobs.Filed.{Filed}
use Rattle.jobs_in_force.specs.declared.jobs.InForce.{InForce}
use Rattle.jobs_in_force.specs.declared.updates.UpdateError.{UpdateError}
use Rattle.jobs_in_force.specs.declared.updates.UpdateError.TheVariants.{NoJob, NoFile}
use Rattle.jobs_in_force.specs.declared.updates.UpdateError.TheVariants as update

-- a job with the groups that its files have
abbrev pub filed : Job → List FileGroups → Filed
filed j files = record { job = j; files = files }

-- a job in force: its targets are those that its static groups list, and behind them those of its files
abbrev pub with_targets : Filed → TargetList → InForce
with_targets f list = record { job = f.job; files = f.files; kept = list.kept; over = list.over }

unfoldable pub in_force : Filed → InForce
in_force f = with_targets f (target_list f.job.conf f.job.target_rules (listed_groups f.job.conf f.files))

-- the job of a name
abbrev pub is_named : List ℕ → InForce → Bool
is_named name j = bytes_eq name j.job.conf.job_name

abbrev pub job_named : List ℕ → List InForce → Option InForce
job_named name jobs = find (is_named name) jobs

-- the groups that a file of a job has; none before an update gives them
abbrev pub is_of_file : List ℕ → FileGroups → Bool
is_of_file file f = bytes_eq file f.file

abbrev pub groups_in : List ℕ → List FileGroups → Option (List Group)
groups_in file files = option_map (λ (f : FileGroups). f.groups) (find (is_of_file file) files)

abbrev pub groups_before : Option InForce → List ℕ → List Group
groups_before before file = unwrap_or (option_and_then (λ (j : InForce). groups_in file j.files) before) []

-- a load keeps the groups of each file that the earlier job of the same name listed and the new one lists
abbrev pub kept_file : Option InForce → List ℕ → FileGroups
kept_file before file = record { file = file; groups = groups_before before file }

abbrev pub kept_files : List InForce → JobConf → List FileGroups
kept_files jobs conf = map (kept_file (job_named conf.job_name jobs)) conf.files

abbrev pub loaded_job : List InForce → Job → Filed
loaded_job jobs j = filed j (kept_files jobs j.conf)

-- an update gives one file of one job its groups
abbrev pub with_groups : List ℕ → List Group → FileGroups → FileGroups
with_groups file groups f = if bytes_eq file f.file then record { file = f.file; groups = groups } else f

abbrev pub updated_files : List ℕ → List Group → List FileGroups → List FileGroups
updated_files file groups files = map (with_groups file groups) files

abbrev pub updated_job : List ℕ → List ℕ → List Group → InForce → Filed
updated_job name file groups j = filed j.job (if is_named name j then updated_files file groups j.files else j.files)

-- how many targets a job lists, and whether these are too many for a job
abbrev pub count_of : Filed → ℕ
count_of f = listed_count (listed_groups f.job.conf f.files)

unfoldable pub is_crowd : Filed → Bool
is_crowd f = nat_lt most_targets (count_of f)

-- how many targets all jobs may list together: 100,000
abbrev pub most_targets_of_all : ℕ
most_targets_of_all = 100000

-- too many targets: those of the first job that lists more than one job may, reported at its place; else those of all jobs, where they list more than all may
abbrev pub crowd_by : (ℕ → List ℕ) → ℕ → Option ℕ → Option ConfFault
crowd_by at total (Some n) = Some (TooMany (at n) most_targets)
crowd_by at total None = if nat_lt most_targets_of_all total then Some (TooMany [] most_targets_of_all) else None

unfoldable pub crowd_in : (ℕ → List ℕ) → List Filed → Option ConfFault
crowd_in at fs = crowd_by at (sum_by count_of fs) (position is_crowd fs)

-- the jobs of a load, and of an update
abbrev pub filed_by_load : List InForce → List Job → List Filed
filed_by_load jobs js = map (loaded_job jobs) js

abbrev pub filed_by_update : List InForce → List ℕ → List ℕ → List Group → List Filed
filed_by_update jobs name file groups = map (updated_job name file groups) jobs

-- what a load says: jobs, or the fault for which it is refused; too many targets come behind every other fault
unfoldable pub load_crowd : List Filed → Option ConfFault
load_crowd fs = crowd_in (item_place jobs_place) fs

abbrev pub filed_or_crowd : List Filed → Result (List Filed) ConfFault
filed_or_crowd fs = unless_fault (load_crowd fs) fs

abbrev pub loaded_by : List InForce → Result Conf ConfFault → Result (List Filed) ConfFault
loaded_by jobs (Err fault) = Err fault
loaded_by jobs (Ok c) = filed_or_crowd (filed_by_load jobs c.jobs)

unfoldable pub loaded : List InForce → List ℕ → Result (List Filed) ConfFault
loaded jobs text = loaded_by jobs (whole_reading text)

-- out of memory, or the fault of what was said
abbrev pub IsLoadCause : Result (List Filed) ConfFault → ConfError → Type 0
IsLoadCause said (Bad fault) = said ≡ Err fault
IsLoadCause said NoMemory = ⊤

-- the jobs in force after an update: only the targets of its job are listed anew
abbrev pub renewed : List ℕ → List ℕ → List Group → InForce → InForce
renewed name file groups j = if is_named name j then in_force (updated_job name file groups j) else j

unfoldable pub jobs_updated : List InForce → List ℕ → List ℕ → List Group → List InForce
jobs_updated jobs name file groups = map (renewed name file groups) jobs

-- a job lists no more targets than it may
abbrev pub IsFew : Filed → Type 0
IsFew f = count_of f ≤ most_targets

-- why an update isn't taken: no job has the name, the job doesn't list the file, or its text is refused
pub data Unlisted : Type 0 where
  UnknownJob : Unlisted
  UnknownFile : Unlisted
  Faulty : ConfFault → Unlisted

abbrev pub no_place : ℕ → List ℕ
no_place n = []

abbrev pub unless_crowd : Option ConfFault → List Group → Result (List Group) Unlisted
unless_crowd (Some fault) groups = Err (Faulty fault)
unless_crowd None groups = Ok groups

abbrev pub update_or_crowd : List InForce → List ℕ → List ℕ → List Group → Result (List Group) Unlisted
update_or_crowd jobs name file groups = unless_crowd (crowd_in no_place (filed_by_update jobs name file groups)) groups

abbrev pub groups_or_crowd : List InForce → List ℕ → List ℕ → Result (List Group) ConfFault → Result (List Group) Unlisted
groups_or_crowd jobs name file (Err fault) = Err (Faulty fault)
groups_or_crowd jobs name file (Ok groups) = update_or_crowd jobs name file groups

abbrev pub update_of : List InForce → List ℕ → List ℕ → List ℕ → Option InForce → Result (List Group) Unlisted
update_of jobs name file text None = Err UnknownJob
update_of jobs name file text (Some j) =
    if list_any (bytes_eq file) j.job.conf.files then groups_or_crowd jobs name file (groups_reading file text) else Err UnknownFile

-- what an update says: the groups of the file, or why it isn't taken
unfoldable pub updated : List InForce → List ℕ → List ℕ → List ℕ → Result (List Group) Unlisted
updated jobs name file text = update_of jobs name file text (job_named name jobs)

-- out of memory, or why the update isn't taken
abbrev pub IsUpdateCause : Result (List Group) Unlisted → UpdateError → Type 0
IsUpdateCause said NoJob = said ≡ Err UnknownJob
IsUpdateCause said NoFile = said ≡ Err UnknownFile
IsUpdateCause said (update.Bad fault) = said ≡ Err (Faulty fault)
IsUpdateCause said update.NoMemory = ⊤

-- out of memory, or the fault of the list of a file
abbrev pub IsReadCause : Result (List Group) ConfFault → UpdateError → Type 0
IsReadCause said NoJob = ⊥
IsReadCause said NoFile = ⊥
IsReadCause said (update.Bad fault) = said ≡ Err fault
IsReadCause said update.NoMemory = ⊤

-- a target of this identity is kept
abbrev pub has_target : List Pair → InForce → Bool
has_target identity j = list_any (is_target identity) j.kept

-- a job has more targets than its limit
abbrev pub is_crowded : Option InForce → Bool
is_crowded o = option_map_or (λ (j : InForce). j.over) o false
