-- The fields of each object, as a table ("Configuration" of the Prometheus documentation: configuration file, global, scrape_config,
-- relabel_config, static_config, file_sd_config).
use Rattle.std.specs.Prelude.{ℕ, ℤ, Bool, true, false, ◌||◌, List, codes, Option, Some, None, if◌then◌else◌}
use Rattle.std.specs.Str.{bytes_eq}
use Rattle.rule_conf.specs.declared.conf.Action.{Action}
use Rattle.rule_conf.specs.declared.conf.Action.TheVariants as action
use Rattle.config_fields.specs.declared.forms.Kind.TheVariants as kind
use Rattle.config_fields.specs.declared.forms.TextForm.{TextForm}
use Rattle.config_fields.specs.declared.forms.TextForm.TheVariants as form
use Rattle.config_fields.specs.declared.tables.Field.{Field}
use Rattle.config_fields.specs.declared.tables.Field.TheVariants as field
use Rattle.config_fields.specs.declared.tables.ListKind.TheVariants as list
use Rattle.config_fields.specs.declared.tables.JobField.{JobField}
use Rattle.config_fields.specs.declared.tables.JobField.TheVariants as job
use Rattle.config_fields.specs.declared.tables.TopField.{TopField}
use Rattle.config_fields.specs.declared.tables.TopField.TheVariants as top
use Rattle.config_fields.specs.declared.tables.ObjectKind.{ObjectKind}
use Rattle.config_fields.specs.declared.tables.ObjectKind.TheVariants as object
use Rattle.config_fields.specs.declared.tables.Key.{Key}
use Rattle.config_fields.specs.declared.tables.Key.TheVariants as required
use Rattle.config_fields.specs.declared.tables.Owed.{Owed}

-- a text of a form
abbrev pub text : TextForm → Field
text form = field.Plain (kind.Text form)

-- the six limits of a job
unfoldable pub is_limit_key : List ℕ → Bool
is_limit_key key =
    bytes_eq key (codes "sample_limit") || (bytes_eq key (codes "label_limit")
    || (bytes_eq key (codes "label_name_length_limit") || (bytes_eq key (codes "label_value_length_limit")
    || (bytes_eq key (codes "body_size_limit") || bytes_eq key (codes "target_limit")))))

-- `global`: most is the interval, which the timeout may not pass
unfoldable pub global_field : ℤ → List ℕ → Field
global_field most key =
    if bytes_eq key (codes "scrape_interval") then text form.Duration
    else if bytes_eq key (codes "scrape_timeout") then text (form.Timeout most)
    else if is_limit_key key then field.Plain kind.Limit
    else if bytes_eq key (codes "evaluation_interval") then field.Plain kind.Any
    else if bytes_eq key (codes "external_labels") then field.Plain kind.Any
    else if bytes_eq key (codes "query_log_file") then field.Plain kind.Any
    else field.Unknown

-- `static_configs`, and the list of a file
unfoldable pub group_field : List ℕ → Field
group_field key =
    if bytes_eq key (codes "targets") then field.Texts form.Any
    else if bytes_eq key (codes "labels") then field.Labels
    else field.Unknown

-- `file_sd_configs`
unfoldable pub file_list_field : List ℕ → Field
file_list_field key =
    if bytes_eq key (codes "files") then field.Texts form.ShortName
    else if bytes_eq key (codes "refresh_interval") then text form.Duration
    else field.Unknown

-- the actions that set or compare one label
abbrev pub sets_one_label : Action → Bool
sets_one_label action.HashMod = true
sets_one_label action.Lowercase = true
sets_one_label action.Uppercase = true
sets_one_label action.KeepEqual = true
sets_one_label action.DropEqual = true
sets_one_label _ = false

-- what a rule's `target_label` may be: `replace` wants some text, the actions that set or compare one label a label name
unfoldable pub target_form : Option Action → TextForm
target_form None = form.Any
target_form (Some action.Replace) = form.Filled
target_form (Some a) = if sets_one_label a then form.LabelName else form.Any

-- `relabel_configs` and `metric_relabel_configs`
unfoldable pub rule_field : Option Action → List ℕ → Field
rule_field action key =
    if bytes_eq key (codes "source_labels") then field.Texts form.LabelName
    else if bytes_eq key (codes "separator") then text form.Any
    else if bytes_eq key (codes "regex") then text form.Any
    else if bytes_eq key (codes "modulus") then field.Plain kind.Modulus
    else if bytes_eq key (codes "target_label") then text (target_form action)
    else if bytes_eq key (codes "replacement") then text form.Any
    else if bytes_eq key (codes "action") then text form.Action
    else field.Unknown

-- the fields of an object
unfoldable pub field_of : ObjectKind → List ℕ → Field
field_of (object.Global most) key = global_field most key
field_of object.Group key = group_field key
field_of object.FileList key = file_list_field key
field_of (object.Rule action) key = rule_field action key

-- a job's fields without further objects: most is the interval, which the timeout may not pass
unfoldable pub job_plain_field : ℤ → List ℕ → Field
job_plain_field most key =
    if bytes_eq key (codes "job_name") then text form.ShortName
    else if bytes_eq key (codes "scrape_interval") then text form.Duration
    else if bytes_eq key (codes "scrape_timeout") then text (form.Timeout most)
    else if bytes_eq key (codes "metrics_path") then text form.Any
    else if bytes_eq key (codes "scheme") then text form.Scheme
    else if bytes_eq key (codes "honor_labels") then field.Plain kind.Truth
    else if bytes_eq key (codes "honor_timestamps") then field.Plain kind.Truth
    else if bytes_eq key (codes "track_timestamps_staleness") then field.Plain kind.Truth
    else if bytes_eq key (codes "extra_scrape_metrics") then field.Plain kind.Truth
    else if bytes_eq key (codes "params") then field.Params
    else if is_limit_key key then field.Plain kind.Limit
    else field.Unknown

-- `scrape_configs`
unfoldable pub job_field : ℤ → List ℕ → JobField
job_field most key =
    if bytes_eq key (codes "relabel_configs") then job.List list.Rules
    else if bytes_eq key (codes "metric_relabel_configs") then job.List list.Rules
    else if bytes_eq key (codes "static_configs") then job.List list.StaticGroups
    else if bytes_eq key (codes "file_sd_configs") then job.List list.FileLists
    else job.Plain (job_plain_field most key)

-- fields of the whole text that are accepted and not read
unfoldable pub is_passed_over : List ℕ → Bool
is_passed_over key =
    bytes_eq key (codes "rule_files") || (bytes_eq key (codes "alerting")
    || (bytes_eq key (codes "remote_write") || (bytes_eq key (codes "remote_read")
    || (bytes_eq key (codes "storage") || bytes_eq key (codes "tracing")))))

-- the whole text
unfoldable pub top_field : List ℕ → TopField
top_field key =
    if bytes_eq key (codes "global") then top.Global
    else if bytes_eq key (codes "scrape_configs") then top.Jobs
    else if is_passed_over key then top.PassedOver
    else top.Unknown

-- how a required field is spelled
unfoldable pub key_text : Key → List ℕ
key_text required.JobName = codes "job_name"
key_text required.Files = codes "files"
key_text required.Modulus = codes "modulus"
key_text required.TargetLabel = codes "target_label"

-- a field where it is required
abbrev pub where_needed : Bool → Key → Option Key
where_needed true key = Some key
where_needed false key = None

-- `hashmod` needs a modulus
abbrev pub needs_modulus : Option Action → Bool
needs_modulus (Some action.HashMod) = true
needs_modulus _ = false

-- `replace` and the actions that set or compare one label need a target
abbrev pub needs_target : Option Action → Bool
needs_target None = false
needs_target (Some action.Replace) = true
needs_target (Some a) = sets_one_label a

-- the required fields of an object, by rising key
unfoldable pub owed_by : ObjectKind → Owed
owed_by (object.Global most) = record { first = None; second = None }
owed_by object.Group = record { first = None; second = None }
owed_by object.FileList = record { first = Some required.Files; second = None }
owed_by (object.Rule action) =
    record { first = where_needed (needs_modulus action) required.Modulus; second = where_needed (needs_target action) required.TargetLabel }
