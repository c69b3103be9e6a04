-- When two jobs have the same settings: as a fact, and as a truth value.
use Rattle.std.specs.Prelude.{◌≡◌, ℕ, Bool, true, false, not, ◌&&◌, ◌==◌, List, codes, if◌then◌else◌}
use Rattle.std.specs.Bool.{Decides}
use Rattle.std.specs.Ordering.{int_eq}
use Rattle.std.specs.Str.{bytes_eq}
use Rattle.std.specs.Cmp.Lexicographic.{pointwise}
use Rattle.rule_conf.specs.declared.conf.Action.{Action}
use Rattle.rule_conf.specs.declared.conf.Action.TheVariants as action
use Rattle.rule_conf.specs.declared.conf.RuleConf.{RuleConf}
use Rattle.scrape_limits.specs.declared.limits.Limits.{Limits}
use Rattle.outside.specs.declared.requests.Scheme.{Scheme}
use Rattle.outside.specs.declared.requests.Scheme.TheVariants as scheme
use Rattle.scrape_config.specs.declared.conf.Param.{Param}
use Rattle.scrape_config.specs.declared.conf.JobConf.{JobConf}

-- two jobs have the same names, flags and scheme
abbrev pub HasSameReach : JobConf → JobConf → Type 0
HasSameReach a b =
    (a.job_name ≡ b.job_name) × (a.honor_labels ≡ b.honor_labels) × (a.honor_timestamps ≡ b.honor_timestamps)
    × (a.track_timestamps_staleness ≡ b.track_timestamps_staleness)
    × (a.extra_scrape_metrics ≡ b.extra_scrape_metrics) × (a.metrics_path ≡ b.metrics_path)
    × (a.scheme ≡ b.scheme)

-- two jobs have the same parameters and rules
abbrev pub HasSameLists : JobConf → JobConf → Type 0
HasSameLists a b = (a.params ≡ b.params) × (a.relabel ≡ b.relabel) × (a.metric_relabel ≡ b.metric_relabel)

-- the settings of two jobs are equal that say how targets are scraped and samples named, after defaults
unfoldable pub Compatible : JobConf → JobConf → Type 0
Compatible a b = HasSameReach a b × HasSameLists a b

-- all settings are equal; groups and files of groups are none
unfoldable pub Same : JobConf → JobConf → Type 0
Same a b = Compatible a b × (a.scrape_interval ≡ b.scrape_interval) × (a.scrape_timeout ≡ b.scrape_timeout) × (a.limits ≡ b.limits)

-- two truth values are the same
abbrev pub agree : Bool → Bool → Bool
agree a b = if a then b else not b

-- two lists of texts are the same
abbrev pub are_same_texts : List (List ℕ) → List (List ℕ) → Bool
are_same_texts = pointwise bytes_eq

-- the name of an action
abbrev pub action_name : Action → List ℕ
action_name action.Replace = codes "replace"
action_name action.Keep = codes "keep"
action_name action.Drop = codes "drop"
action_name action.KeepEqual = codes "keepequal"
action_name action.DropEqual = codes "dropequal"
action_name action.HashMod = codes "hashmod"
action_name action.LabelMap = codes "labelmap"
action_name action.LabelDrop = codes "labeldrop"
action_name action.LabelKeep = codes "labelkeep"
action_name action.Lowercase = codes "lowercase"
action_name action.Uppercase = codes "uppercase"

unfoldable pub is_same_action : Action → Action → Bool
is_same_action a b = bytes_eq (action_name a) (action_name b)

-- two rules are the same, in fields that their actions don't use as well
unfoldable pub is_same_rule : RuleConf → RuleConf → Bool
is_same_rule a b =
    are_same_texts a.sources b.sources && (bytes_eq a.separator b.separator && (bytes_eq a.regex b.regex && ((a.modulus == b.modulus)
    && (bytes_eq a.target b.target && (bytes_eq a.replacement b.replacement && is_same_action a.action b.action)))))

-- two parameters have the same name and values
unfoldable pub is_same_param : Param → Param → Bool
is_same_param a b = bytes_eq a.name b.name && are_same_texts a.values b.values

abbrev pub is_same_scheme : Scheme → Scheme → Bool
is_same_scheme scheme.Http scheme.Http = true
is_same_scheme scheme.Http scheme.Https = false
is_same_scheme scheme.Https scheme.Http = false
is_same_scheme scheme.Https scheme.Https = true

unfoldable pub are_same_limits : Limits → Limits → Bool
are_same_limits a b =
    (a.sample == b.sample) && ((a.label == b.label) && ((a.name_length == b.name_length) && ((a.value_length == b.value_length)
    && ((a.body_size == b.body_size) && (a.target == b.target)))))

unfoldable pub has_same_reach : JobConf → JobConf → Bool
has_same_reach a b =
    bytes_eq a.job_name b.job_name && (agree a.honor_labels b.honor_labels && (agree a.honor_timestamps b.honor_timestamps
    && (agree a.track_timestamps_staleness b.track_timestamps_staleness && (agree a.extra_scrape_metrics b.extra_scrape_metrics
    && (bytes_eq a.metrics_path b.metrics_path && is_same_scheme a.scheme b.scheme)))))

unfoldable pub has_same_lists : JobConf → JobConf → Bool
has_same_lists a b =
    pointwise is_same_param a.params b.params && (pointwise is_same_rule a.relabel b.relabel && pointwise is_same_rule a.metric_relabel b.metric_relabel)

-- whether the settings of two jobs are equal that say how targets are scraped and samples named, after defaults
unfoldable pub is_compatible : JobConf → JobConf → Bool
is_compatible a b = has_same_reach a b && has_same_lists a b

-- whether all settings are equal
unfoldable pub is_same : JobConf → JobConf → Bool
is_same a b =
    is_compatible a b && (int_eq a.scrape_interval b.scrape_interval && (int_eq a.scrape_timeout b.scrape_timeout && are_same_limits a.limits b.limits))

-- for all settings the truth values say the facts
abbrev pub CompatibleIsDecided : Type 0
CompatibleIsDecided = (a b : JobConf) → Decides (is_compatible a b) (Compatible a b)

abbrev pub SameIsDecided : Type 0
SameIsDecided = (a b : JobConf) → Decides (is_same a b) (Same a b)

-- the same settings are compatible ones
abbrev pub SameIsCompatible : Type 0
SameIsCompatible = (a b : JobConf) → is_same a b ≡ true → is_compatible a b ≡ true
