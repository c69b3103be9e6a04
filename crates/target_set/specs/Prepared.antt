-- The label set of a listed target before its job's rules ("Configuration", scrape_config and static_config).
use Rattle.std.specs.Prelude.{ℕ, List, [], ◌∷◌, ◌++◌, codes, Option, Some, None, is_some, if◌then◌else◌}
use Rattle.std.specs.List.{list_all}
use Rattle.label_set.specs.Bytes.{is_name_byte}
use Rattle.label_set.specs.Sets.{value_of, with_label}
use Rattle.label_set.specs.Lasts.{with_labels}
use Rattle.label_set.specs.declared.texts.Pair.{Pair}
use Rattle.outside.specs.Schemes.{scheme_text}
use Rattle.scrape_config.specs.declared.conf.Param.{Param}
use Rattle.scrape_config.specs.declared.conf.Group.{Group}
use Rattle.scrape_config.specs.declared.conf.JobConf.{JobConf}

-- the labels that say where and how a target is scraped
abbrev pub address_label : List ℕ
address_label = codes "__address__"

abbrev pub scheme_label : List ℕ
scheme_label = codes "__scheme__"

abbrev pub path_label : List ℕ
path_label = codes "__metrics_path__"

-- what stands in front of a parameter's name in the label of its first value
abbrev pub param_prefix : List ℕ
param_prefix = codes "__param_"

-- the name of the file that lists a group
abbrev pub with_file : List Pair → Option (List ℕ) → List Pair
with_file set None = set
with_file set (Some file) = with_label set (codes "__meta_filepath") file

-- what a target starts with: the labels of its group, and its text as `__address__`
unfoldable pub listed_set : Group → List ℕ → List Pair
listed_set group text = with_label (with_file (with_labels [] group.labels) group.file) address_label text

-- a label that is set only where the set has no value for it
unfoldable pub with_default : List Pair → List ℕ → List ℕ → List Pair
with_default set name value = if is_some (value_of set name) then set else with_label set name value

-- the first value of a parameter whose name can stand in a label's name
abbrev pub with_first : List Pair → List ℕ → List (List ℕ) → List Pair
with_first set name [] = set
with_first set name (v ∷ vs) = if list_all is_name_byte name then with_default set (param_prefix ++ name) v else set

abbrev pub with_params : List Pair → List Param → List Pair
with_params set [] = set
with_params set (p ∷ ps) = with_params (with_first set p.name p.values) ps

-- what a job adds where nothing else is set
unfoldable pub with_defaults : JobConf → List Pair → List Pair
with_defaults conf set =
    with_params
    (with_default (with_default (with_default set (codes "job") conf.job_name) scheme_label (scheme_text conf.scheme)) path_label conf.metrics_path)
    conf.params

-- the set of a target that a group of a job lists
abbrev pub prepared : JobConf → Group → List ℕ → List Pair
prepared conf group text = with_defaults conf (listed_set group text)
