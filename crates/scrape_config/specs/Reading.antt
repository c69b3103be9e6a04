-- What the bytes of a configuration, or of the list of a file, are read as: a value or one fault.
use Rattle.std.specs.Prelude.{◌≡◌, ℕ, ◌+◌, List, [], ◌∷◌, Option, Some, None, Result, Ok, Err, codes, option_map, ⊤, if◌then◌else◌}
use Rattle.std.specs.Option.{option_or}
use Rattle.std.specs.Str.{is_utf8}
use Rattle.serde_json.specs.Data.{Data}
use Rattle.serde_json.specs.Read.{read}
use Rattle.relabel.specs.Refusals.{first_bad_pattern}
use Rattle.rule_conf.specs.declared.conf.RuleConf.{RuleConf}
use Rattle.config_fields.specs.Places.{field_place, item_place}
use Rattle.config_fields.specs.Faults.{reported}
use Rattle.scrape_config.specs.Lists.{conf_faults, groups_faults}
use Rattle.scrape_config.specs.Values.{conf_of, file_groups_of}
use Rattle.config_fields.specs.declared.fault.ConfFault.{ConfFault}
use Rattle.config_fields.specs.declared.fault.ConfFault.TheVariants.{NotJson, Rule}
use Rattle.scrape_config.specs.declared.fault.ConfError.{ConfError}
use Rattle.scrape_config.specs.declared.fault.ConfError.TheVariants.{Bad, NoMemory}
use Rattle.scrape_config.specs.declared.conf.Group.{Group}
use Rattle.scrape_config.specs.declared.conf.Job.{Job}
use Rattle.scrape_config.specs.declared.conf.Conf.{Conf}

-- the JSON of bytes that are UTF-8, at most 127 levels deep
unfoldable pub json_of : List ℕ → Option Data
json_of bytes = if is_utf8 bytes then read bytes else None

-- the fault, or the value where there is none
abbrev pub unless_fault : {A : Type 0} → Option ConfFault → A → Result A ConfFault
unless_fault (Some fault) value = Err fault
unless_fault None value = Ok value

-- what JSON says, or none
abbrev pub conf_in : Option Data → Result Conf ConfFault
conf_in None = Err NotJson
conf_in (Some d) = unless_fault (reported (conf_faults d)) (conf_of d)

-- the reading of a configuration, whatever its patterns
unfoldable pub reading : List ℕ → Result Conf ConfFault
reading bytes = conf_in (json_of bytes)

abbrev pub groups_in : List ℕ → Option Data → Result (List Group) ConfFault
groups_in file None = Err NotJson
groups_in file (Some d) = unless_fault (reported (groups_faults d)) (file_groups_of file d)

-- the reading of the list of a file
unfoldable pub groups_reading : List ℕ → List ℕ → Result (List Group) ConfFault
groups_reading file bytes = groups_in file (json_of bytes)

-- the place of the list of jobs
unfoldable pub jobs_place : List ℕ
jobs_place = field_place [] (codes "scrape_configs")

-- the place of a list of rules of the job with number n
unfoldable pub rules_place : ℕ → List ℕ → List ℕ
rules_place n key = field_place (item_place jobs_place n) key

-- the place of the first pattern of these rules that isn't one
abbrev pub rules_pattern : List ℕ → List RuleConf → Option (List ℕ)
rules_pattern list rules = option_map (λ n. field_place (item_place list n) (codes "regex")) (first_bad_pattern 0 rules)

-- the same of a job's two lists of rules, where the job has number n
abbrev pub job_pattern : ℕ → Job → Option (List ℕ)
job_pattern n job =
    option_or (rules_pattern (rules_place n (codes "metric_relabel_configs")) job.conf.metric_relabel)
    (rules_pattern (rules_place n (codes "relabel_configs")) job.conf.relabel)

-- the same of jobs, where the first has number n
abbrev pub jobs_pattern : ℕ → List Job → Option (List ℕ)
jobs_pattern n [] = None
jobs_pattern n (job ∷ jobs) = option_or (job_pattern n job) (jobs_pattern (n + 1) jobs)

abbrev pub with_patterns : Result Conf ConfFault → Result Conf ConfFault
with_patterns (Err fault) = Err fault
with_patterns (Ok conf) = unless_fault (option_map (λ place. Rule place) (jobs_pattern 0 conf.jobs)) conf

-- the whole reading of a configuration: where it has no other fault, the first pattern that isn't one is its fault
unfoldable pub whole_reading : List ℕ → Result Conf ConfFault
whole_reading bytes = with_patterns (reading bytes)

-- out of memory, or the fault of the first pattern that isn't one
abbrev pub IsPatternCause : Option (List ℕ) → ConfError → Type 0
IsPatternCause first (Bad fault) = option_map (λ place. Rule place) first ≡ Some fault
IsPatternCause first NoMemory = ⊤

-- what a refusal says: out of memory, or the fault of the reading
abbrev pub IsCause : {A : Type 0} → Result A ConfFault → ConfError → Type 0
IsCause said (Bad fault) = said ≡ Err fault
IsCause said NoMemory = ⊤
