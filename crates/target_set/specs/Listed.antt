-- What becomes of all targets that a job lists: a scan of the list.
use Rattle.std.specs.Prelude.{ℕ, ◌+◌, ◌-◌, Bool, not, List, [], ◌∷◌, ◌++◌, filter, map, flat_map, length, nat_le, Option, Some, None, if◌then◌else◌}
use Rattle.std.specs.List.{sum_by}
use Rattle.std.specs.Ordering.{is_eq}
use Rattle.label_set.specs.Sets.{set_cmp}
use Rattle.label_set.specs.declared.texts.Pair.{Pair}
use Rattle.rule_conf.specs.declared.conf.RuleConf.{RuleConf}
use Rattle.scrape_limits.specs.Limits.{is_past}
use Rattle.scrape_config.specs.declared.conf.Group.{Group}
use Rattle.scrape_config.specs.declared.conf.JobConf.{JobConf}
use Rattle.target_set.specs.Outcomes.{outcome_of, labels_of}
use Rattle.target_set.specs.declared.files.FileGroups.{FileGroups}
use Rattle.target_set.specs.declared.targets.Outcome.{Outcome}
use Rattle.target_set.specs.declared.targets.Outcome.TheVariants.{Dropped, Refused, Kept}
use Rattle.target_set.specs.declared.targets.Target.{Target}
use Rattle.target_set.specs.declared.targets.RefusedTarget.{RefusedTarget}
use Rattle.target_set.specs.declared.targets.TargetList.{TargetList}

-- how many targets a group lists, and groups list
abbrev pub group_count : Group → ℕ
group_count group = length group.targets

abbrev pub listed_count : List Group → ℕ
listed_count groups = sum_by group_count groups

-- the groups of files, file after file
abbrev pub files_groups : List FileGroups → List Group
files_groups files = flat_map (λ (f : FileGroups). f.groups) files

-- the groups of a job: its own, and then those of its files
abbrev pub listed_groups : JobConf → List FileGroups → List Group
listed_groups conf files = conf.groups ++ files_groups files

-- a number that is at most most
abbrev pub within : ℕ → ℕ → Option ℕ
within most n = if nat_le n most then Some n else None

-- what becomes of each target of a group, and of groups, in their order
abbrev pub group_outcomes : JobConf → List RuleConf → Group → List Outcome
group_outcomes conf rules group = map (outcome_of conf rules group) group.targets

abbrev pub outcomes_of : JobConf → List RuleConf → List Group → List Outcome
outcomes_of conf rules groups = flat_map (group_outcomes conf rules) groups

-- the identity of a kept target
abbrev pub kept_in : Outcome → List (List Pair)
kept_in Dropped = []
kept_in (Refused cause) = []
kept_in (Kept identity) = identity ∷ []

-- two label sets are the same
abbrev pub is_same : List Pair → List Pair → Bool
is_same x y = is_eq (set_cmp x y)

-- each set once, at its first place
abbrev pub distinct : List (List Pair) → List (List Pair)
distinct [] = []
distinct (x ∷ xs) = x ∷ filter (λ y. not (is_same x y)) (distinct xs)

-- a kept target of an identity
abbrev pub target_of : List Pair → Target
target_of identity = record { identity = identity; labels = labels_of identity }

-- the kept targets, each once
abbrev pub kept_of : List Outcome → List Target
kept_of outcomes = map target_of (distinct (flat_map kept_in outcomes))

-- the refused targets by place, where the first has place n
abbrev pub refused_in : ℕ → Outcome → List RefusedTarget
refused_in n Dropped = []
refused_in n (Refused cause) = record { place = n; cause = cause } ∷ []
refused_in n (Kept identity) = []

abbrev pub refused_from : ℕ → List Outcome → List RefusedTarget
refused_from n [] = []
refused_from n (o ∷ os) = refused_in n o ++ refused_from (n + 1) os

-- how many are dropped
abbrev pub dropped_in : Outcome → ℕ
dropped_in Dropped = 1
dropped_in (Refused cause) = 0
dropped_in (Kept identity) = 0

abbrev pub dropped_of : List Outcome → ℕ
dropped_of outcomes = sum_by dropped_in outcomes

-- the lists of these outcomes, under a limit of kept targets where that isn't 0
unfoldable pub sorted_out : ℕ → List Outcome → TargetList
sorted_out limit outcomes =
    record { kept = kept_of outcomes; refused = refused_from 0 outcomes; dropped = dropped_of outcomes; over = is_past limit (length (kept_of outcomes)) }

-- what becomes of the targets of a job
unfoldable pub target_list : JobConf → List RuleConf → List Group → TargetList
target_list conf rules groups = sorted_out conf.limits.target (outcomes_of conf rules groups)
