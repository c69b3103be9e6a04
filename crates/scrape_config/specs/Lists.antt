-- The faults of lists of objects, of jobs and of a whole text, in the order of the walk.
use Rattle.std.specs.Prelude.{ℕ, ◌+◌, ℤ, List, [], ◌∷◌, ◌++◌, length, nat_lt, codes, Option, Some, None, option_to_list, if◌then◌else◌}
use Rattle.std.specs.List.{list_any}
use Rattle.std.specs.Str.{bytes_eq}
use Rattle.serde_json.specs.Data.{Data, Items, no_items, item, Members, no_members, member}
use Rattle.serde_json.specs.Find.{as_array, as_object}
use Rattle.config_fields.specs.Places.{field_place, item_place}
use Rattle.config_fields.specs.Faults.{placed}
use Rattle.config_fields.specs.Tables.{job_field, top_field}
use Rattle.config_fields.specs.Walks.{flaws, of_shape, field_faults, missing_before, owed_after, missing_at_end, object_faults}
use Rattle.scrape_config.specs.Counts.{most_jobs, most_targets, most_files}
use Rattle.scrape_config.specs.Defaults.{text_under, item_count, target_count, files_in, action_in, interval_in, base_of}
use Rattle.config_fields.specs.declared.fault.ConfFault.{ConfFault}
use Rattle.config_fields.specs.declared.fault.ConfFault.TheVariants.{TwiceNamed}
use Rattle.config_fields.specs.declared.fault.Flaw.{Flaw}
use Rattle.config_fields.specs.declared.fault.Flaw.TheVariants as flaw
use Rattle.scrape_config.specs.declared.defaults.Base.{Base}
use Rattle.config_fields.specs.declared.tables.ListKind.{ListKind}
use Rattle.config_fields.specs.declared.tables.ListKind.TheVariants as list
use Rattle.config_fields.specs.declared.tables.JobField.{JobField}
use Rattle.config_fields.specs.declared.tables.JobField.TheVariants as job
use Rattle.config_fields.specs.declared.tables.TopField.{TopField}
use Rattle.config_fields.specs.declared.tables.TopField.TheVariants as top
use Rattle.config_fields.specs.declared.tables.ObjectKind.{ObjectKind}
use Rattle.config_fields.specs.declared.tables.ObjectKind.TheVariants as object
use Rattle.config_fields.specs.declared.tables.Key.TheVariants as required
use Rattle.config_fields.specs.declared.tables.Owed.{Owed}

-- the object of an item of a list
unfoldable pub object_in : ListKind → Data → ObjectKind
object_in list.Rules d = object.Rule (action_in d)
object_in list.StaticGroups d = object.Group
object_in list.FileGroups d = object.Group
object_in list.FileLists d = object.FileList

-- a list that has too many static targets, or too many different files
unfoldable pub crowd : ListKind → Items → Option Flaw
crowd list.Rules ds = None
crowd list.StaticGroups ds = if nat_lt most_targets (target_count ds) then Some (flaw.TooMany most_targets) else None
crowd list.FileGroups ds = None
crowd list.FileLists ds = if nat_lt most_files (length (files_in ds)) then Some (flaw.TooMany most_files) else None

-- the items, the first of them with number n
abbrev pub objects_faults : ListKind → List ℕ → ℕ → Items → List ConfFault
objects_faults list place n no_items = []
objects_faults list place n (item d ds) = object_faults (object_in list d) (item_place place n) d ++ objects_faults list place (n + 1) ds

-- a list of objects
unfoldable pub list_faults : ListKind → List ℕ → Data → List ConfFault
list_faults list place d = of_shape place (as_array d) (λ ds. flaws place (crowd list ds) ++ objects_faults list place 0 ds)

-- a field of a job
unfoldable pub job_field_faults : JobField → List ℕ → Data → List ConfFault
job_field_faults (job.Plain field) place d = field_faults field place d
job_field_faults (job.List list) place d = list_faults list place d

-- the fields of a job whose interval is most, and the required ones that are still to come
abbrev pub job_members_faults : ℤ → List ℕ → Owed → Members → List ConfFault
job_members_faults most place owed no_members = missing_at_end place owed
job_members_faults most place owed (member key d ms) =
    missing_before place owed key ++ (job_field_faults (job_field most key) (field_place place key) d ++ job_members_faults most place (owed_after owed key) ms)

-- a job's one required field
abbrev pub owed_by_job : Owed
owed_by_job = record { first = Some required.JobName; second = None }

-- a job
unfoldable pub job_faults : Base → List ℕ → Data → List ConfFault
job_faults base place d =
    of_shape place (as_object d) (job_members_faults (interval_in base d) place owed_by_job)

-- the jobs, the first of them with number n
abbrev pub jobs_walk : Base → List ℕ → ℕ → Items → List ConfFault
jobs_walk base place n no_items = []
jobs_walk base place n (item d ds) = job_faults base (item_place place n) d ++ jobs_walk base place (n + 1) ds

-- the first name that an earlier job has
abbrev pub name_again : List (List ℕ) → List (List ℕ) → Option (List ℕ)
name_again seen [] = None
name_again seen (name ∷ names) = if list_any (bytes_eq name) seen then Some name else name_again (seen ++ name ∷ []) names

-- the names of the jobs that have one
abbrev pub names_of : Items → List (List ℕ)
names_of no_items = []
names_of (item d ds) = option_to_list (text_under (codes "job_name") d) ++ names_of ds

-- a job's name that an earlier job has
abbrev pub twice_named : Option (List ℕ) → List ConfFault
twice_named None = []
twice_named (Some name) = TwiceNamed name ∷ []

-- too many jobs
abbrev pub job_crowd : ℕ → Option Flaw
job_crowd n = if nat_lt most_jobs n then Some (flaw.TooMany most_jobs) else None

-- the list of jobs
unfoldable pub jobs_faults : Base → List ℕ → Data → List ConfFault
jobs_faults base place d =
    of_shape place (as_array d) (λ ds. twice_named (name_again [] (names_of ds)) ++ (flaws place (job_crowd (item_count ds)) ++ jobs_walk base place 0 ds))

-- a field of the whole text
unfoldable pub top_field_faults : Base → TopField → List ℕ → Data → List ConfFault
top_field_faults base top.Global place d = object_faults (object.Global base.interval) place d
top_field_faults base top.Jobs place d = jobs_faults base place d
top_field_faults base top.PassedOver place d = []
top_field_faults base top.Unknown place d = placed flaw.Unknown place ∷ []

-- the fields of the whole text
abbrev pub top_members_faults : Base → Members → List ConfFault
top_members_faults base no_members = []
top_members_faults base (member key d ms) = top_field_faults base (top_field key) (field_place [] key) d ++ top_members_faults base ms

-- the faults of a configuration
unfoldable pub conf_faults : Data → List ConfFault
conf_faults d = of_shape [] (as_object d) (top_members_faults (base_of d))

-- the faults of the list of a file
unfoldable pub groups_faults : Data → List ConfFault
groups_faults d = list_faults list.FileGroups [] d
