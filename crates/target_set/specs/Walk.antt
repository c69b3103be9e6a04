-- A walk through listed targets: what a job adds is made once, and the set of a group once for its targets.
use Rattle.std.specs.Prelude.{ℕ, List, [], ◌∷◌, ◌++◌, map, flat_map, codes, if◌then◌else◌}
use Rattle.std.specs.List.{list_all}
use Rattle.label_set.specs.Bytes.{is_name_byte}
use Rattle.label_set.specs.Sets.{with_label}
use Rattle.label_set.specs.Lasts.{with_labels}
use Rattle.label_set.specs.declared.texts.Pair.{Pair}
use Rattle.relabel.specs.Relabelling.{relabelled}
use Rattle.rule_conf.specs.declared.conf.RuleConf.{RuleConf}
use Rattle.scrape_config.specs.declared.conf.Group.{Group}
use Rattle.scrape_config.specs.declared.conf.Param.{Param}
use Rattle.scrape_config.specs.declared.conf.JobConf.{JobConf}
use Rattle.outside.specs.Schemes.{scheme_text}
use Rattle.target_set.specs.Prepared.{address_label, scheme_label, path_label, param_prefix, with_file}
use Rattle.target_set.specs.Outcomes.{judged}
use Rattle.target_set.specs.declared.targets.Outcome.{Outcome}

-- a label of a value that isn't empty
abbrev pub valued : List ℕ → List ℕ → List Pair
valued name [] = []
valued name (b ∷ bs) = record { name = name; value = b ∷ bs } ∷ []

-- the label of the first value of a parameter whose name can stand in a label's name
abbrev pub first_label : List ℕ → List (List ℕ) → List Pair
first_label name [] = []
first_label name (v ∷ vs) = if list_all is_name_byte name then valued (param_prefix ++ name) v else []

-- those of some parameters, the last of them first: of one name the last stands where labels are put in one after another
abbrev pub param_labels : List Param → List Pair
param_labels [] = []
param_labels (p ∷ ps) = param_labels ps ++ first_label p.name p.values

-- what a job adds where nothing else is set, the last first
unfoldable pub default_labels : JobConf → List Pair
default_labels conf =
    param_labels conf.params ++ (valued path_label conf.metrics_path ++ (valued scheme_label (scheme_text conf.scheme) ++ valued (codes "job") conf.job_name))

unfoldable pub default_set : JobConf → List Pair
default_set conf = with_labels [] (default_labels conf)

-- what each target of a group is given
unfoldable pub group_set : Group → List Pair
group_set group = with_file (with_labels [] group.labels) group.file

-- that, over what the job adds
unfoldable pub group_base : List Pair → Group → List Pair
group_base defaults group = with_labels defaults (group_set group)

-- what becomes of a target, by the set of its group's targets
unfoldable pub outcome_from : List RuleConf → List Pair → List ℕ → Outcome
outcome_from rules base text = judged (relabelled rules (with_label base address_label text))

-- what becomes of the targets of a group, and of groups, by what their job adds
abbrev pub group_walked : List Pair → List RuleConf → Group → List Outcome
group_walked defaults rules group = map (outcome_from rules (group_base defaults group)) group.targets

abbrev pub groups_walked : List Pair → List RuleConf → List Group → List Outcome
groups_walked defaults rules groups = flat_map (group_walked defaults rules) groups
