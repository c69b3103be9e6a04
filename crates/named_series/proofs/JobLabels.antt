-- The jobs in force: their rules have no bad field, and the labels of their groups and of their targets have names.
use Rattle.std.proofs.Common.{ℕ, Bool, true, false, List, [], find, All, IfSome, IfOk, Option, Some, None, Result, Ok, Err, option_map, unwrap_or, bytes_eq}
use Rattle.std.specs.Prelude.{if◌then◌else◌}
use Rattle.std.specs.List.{list_any}
use Rattle.std.proofs.lemmas.List.Elements.{All-append, All-map, All-nil, All-weaker}
use Rattle.config_fields.specs.declared.fault.ConfFault.{ConfFault}
use Rattle.journal_text.specs.declared.events.Event.{Event}
use Rattle.journal_text.specs.declared.events.Event.TheVariants.{Load, Targets, Tick, Sweep, Finish, Halt}
use Rattle.scrape_config.specs.Reading.{groups_reading, unless_fault, whole_reading}
use Rattle.scrape_config.specs.declared.conf.Conf.{Conf}
use Rattle.scrape_config.specs.declared.conf.Group.{Group}
use Rattle.scrape_config.specs.declared.conf.Job.{Job}
use Rattle.scrape_config.specs.declared.conf.JobConf.{JobConf}
use Rattle.target_set.specs.Listed.{files_groups, listed_groups}
use Rattle.target_set.specs.declared.files.FileGroups.{FileGroups}
use Rattle.jobs_in_force.specs.declared.jobs.Filed.{Filed}
use Rattle.jobs_in_force.specs.declared.jobs.InForce.{InForce}
use Rattle.jobs_in_force.specs.Jobs.{UnknownFile, Unlisted, crowd_in, filed_by_load, filed_by_update, groups_or_crowd, in_force, is_named, is_of_file, job_named, jobs_updated, kept_file, kept_files, load_crowd, loaded, loaded_by, loaded_job, no_place, renewed, unless_crowd, update_of, updated, updated_files, updated_job, with_groups}
use Rattle.scrape_machine.specs.Machine.{after_load, after_update, new_jobs}
use Rattle.named_series.proofs.LabelLemmas.{every-all, found-all, joined-all}
use Rattle.named_series.proofs.ConfLabels.{ConfLabelled, GroupLabelled, HasGoodRules, JobLabelled, conf-labels, groups-labels}
use Rattle.named_series.proofs.TargetLabels.{TargetLabelled, list-labels}

-- the groups of a file
abbrev pub FileLabelled : FileGroups → Type 0
FileLabelled f = All GroupLabelled f.groups

-- a job with its files
abbrev FiledLabelled : Filed → Type 0
FiledLabelled f = JobLabelled f.job × All FileLabelled f.files

-- and a job in force
abbrev pub InForceLabelled : InForce → Type 0
InForceLabelled j = JobLabelled j.job × All FileLabelled j.files × All TargetLabelled j.kept

pub good-rules : (j : InForce) → InForceLabelled j → HasGoodRules j.job
good-rules j h = h.0.0

force-labels : (f : Filed) → FiledLabelled f → InForceLabelled (in_force f)
unfolding in_force
force-labels f h = (
  h.0,
  h.1,
  list-labels f.job.conf f.job.target_rules h.0.0.0 (listed_groups f.job.conf f.files)
      (All-append GroupLabelled f.job.conf.groups (files_groups f.files) h.0.1
      (joined-all GroupLabelled (λ (g : FileGroups). g.groups) f.files h.1)),
)

-- a load keeps the groups of files
module _ (jobs : List InForce) (h : All InForceLabelled jobs) where
  before-labels : (o : Option InForce) → IfSome o InForceLabelled → (file : List ℕ) → FileLabelled (kept_file o file)
  before-labels None k file = All-nil GroupLabelled
  before-labels (Some j) k file =
      by (find (is_of_file file) j.files) (found-all FileLabelled (is_of_file file) j.files k.1)
    where
      by : (o : Option FileGroups) → IfSome o FileLabelled →
          All GroupLabelled (unwrap_or (option_map (λ (f : FileGroups). f.groups) o) [])
      by None k = All-nil GroupLabelled
      by (Some f) k = k

  kept-labels : (conf : JobConf) → All FileLabelled (kept_files jobs conf)
  kept-labels conf =
      let before = job_named conf.job_name jobs in
      let found = found-all InForceLabelled (is_named conf.job_name) jobs h in
      All-map FileLabelled (kept_file before) conf.files
      (every-all (λ (file : List ℕ). FileLabelled (kept_file before file)) (before-labels before found) conf.files)

  loaded-labels : (j : Job) → JobLabelled j → FiledLabelled (loaded_job jobs j)
  loaded-labels j k = (k, kept-labels j.conf)

  unless-crowd : (o : Option ConfFault) (fs : List Filed) → All FiledLabelled fs →
      IfOk (unless_fault o fs) (All FiledLabelled)
  unless-crowd None fs k = k
  unless-crowd (Some fault) fs k = tt

  load-labels : (r : Result Conf ConfFault) → IfOk r ConfLabelled → IfOk (loaded_by jobs r) (All FiledLabelled)
  load-labels (Err fault) k = tt
  load-labels (Ok c) k =
      unless-crowd (load_crowd (filed_by_load jobs c.jobs)) (filed_by_load jobs c.jobs)
      (All-map FiledLabelled (loaded_job jobs) c.jobs
      (All-weaker JobLabelled (λ (j : Job). FiledLabelled (loaded_job jobs j)) loaded-labels c.jobs k))

  text-labels : (text : List ℕ) → IfOk (loaded jobs text) (All FiledLabelled)
  unfolding loaded
  text-labels text = load-labels (whole_reading text) (conf-labels text)

  after-load : (r : Result (List Filed) ConfFault) → IfOk r (All FiledLabelled) →
      IfSome (after_load r) (All InForceLabelled)
  after-load (Err fault) k = tt
  after-load (Ok fs) k =
      All-map InForceLabelled in_force fs
      (All-weaker FiledLabelled (λ (f : Filed). InForceLabelled (in_force f)) force-labels fs k)

-- an update gives one of them its groups
module _ (name file : List ℕ) where
  crowd-labels : (o : Option ConfFault) (gs : List Group) → All GroupLabelled gs →
      IfOk (unless_crowd o gs) (All GroupLabelled)
  crowd-labels None gs k = k
  crowd-labels (Some fault) gs k = tt

  read-labels : (jobs : List InForce) (r : Result (List Group) ConfFault) → IfOk r (All GroupLabelled) →
      IfOk (groups_or_crowd jobs name file r) (All GroupLabelled)
  read-labels jobs (Err fault) k = tt
  read-labels jobs (Ok gs) k = crowd-labels (crowd_in no_place (filed_by_update jobs name file gs)) gs k

  update-by : (jobs : List InForce) (text : List ℕ) (o : Option InForce) →
      IfOk (update_of jobs name file text o) (All GroupLabelled)
  update-by jobs text None = tt
  update-by jobs text (Some j) = by (list_any (bytes_eq file) j.job.conf.files)
    where
      by : (b : Bool) →
          IfOk (if b then groups_or_crowd jobs name file (groups_reading file text) else Err UnknownFile) (All GroupLabelled)
      by true = read-labels jobs (groups_reading file text) (groups-labels file text)
      by false = tt

  update-labels : (jobs : List InForce) (text : List ℕ) → IfOk (updated jobs name file text) (All GroupLabelled)
  unfolding updated
  update-labels jobs text = update-by jobs text (job_named name jobs)

  module _ (gs : List Group) (k : All GroupLabelled gs) where
    with-labels : (f : FileGroups) → FileLabelled f → FileLabelled (with_groups file gs f)
    with-labels f h = by (bytes_eq file f.file)
      where
        by : (b : Bool) → FileLabelled (if b then record { file = f.file; groups = gs } else f)
        by true = k
        by false = h

    files-labels : (fs : List FileGroups) → All FileLabelled fs → All FileLabelled (updated_files file gs fs)
    files-labels fs h =
        All-map FileLabelled (with_groups file gs) fs
        (All-weaker FileLabelled (λ (f : FileGroups). FileLabelled (with_groups file gs f)) with-labels fs h)

    filed-labels : (j : InForce) → InForceLabelled j → FiledLabelled (updated_job name file gs j)
    filed-labels j h = (h.0, by (is_named name j))
      where
        by : (b : Bool) → All FileLabelled (if b then updated_files file gs j.files else j.files)
        by true = files-labels j.files h.1
        by false = h.1

    renewed-labels : (j : InForce) → InForceLabelled j → InForceLabelled (renewed name file gs j)
    renewed-labels j h = by (is_named name j)
      where
        by : (b : Bool) → InForceLabelled (if b then in_force (updated_job name file gs j) else j)
        by true = force-labels (updated_job name file gs j) (filed-labels j h)
        by false = h

    all-renewed : (jobs : List InForce) → All InForceLabelled jobs →
        All InForceLabelled (jobs_updated jobs name file gs)
    unfolding jobs_updated
    all-renewed jobs h =
        All-map InForceLabelled (renewed name file gs) jobs
        (All-weaker InForceLabelled (λ (j : InForce). InForceLabelled (renewed name file gs j)) renewed-labels jobs h)

  after-update : (jobs : List InForce) (r : Result (List Group) Unlisted) → All InForceLabelled jobs →
      IfOk r (All GroupLabelled) →
      IfSome (after_update jobs name file r) (All InForceLabelled)
  after-update jobs (Err why) h k = tt
  after-update jobs (Ok gs) h k = all-renewed gs k jobs h

-- the jobs in force after an event that changes them
pub jobs-labels : (jobs : List InForce) (e : Event) → All InForceLabelled jobs →
    IfSome (new_jobs jobs e) (All InForceLabelled)
jobs-labels jobs (Load m text) h = after-load jobs h (loaded jobs text) (text-labels jobs h text)
jobs-labels jobs (Targets m name file text) h =
    after-update name file jobs (updated jobs name file text) h (update-labels name file jobs text)
jobs-labels jobs (Tick m k) h = tt
jobs-labels jobs (Sweep m) h = tt
jobs-labels jobs (Finish k took r) h = tt
jobs-labels jobs (Halt m) h = tt
