-- The labels of a kept target have names: those that its group lists, those that its job adds, and those that
-- relabelling sets.
use Rattle.std.proofs.Common.{ℕ, Bool, true, false, not, List, [], ◌∷◌, ◌++◌, filter, flat_map, All, IfSome, Option, Some, None, is_some, unwrap_or, codes}
use Rattle.std.specs.Prelude.{if◌then◌else◌}
use Rattle.std.specs.List.{list_all}
use Rattle.std.proofs.lemmas.List.Elements.{All-nil, All-cons, All-head, All-tail, All-filter, All-map, All-weaker}
use Rattle.label_set.specs.Bytes.{is_name_byte}
use Rattle.label_set.specs.Lasts.{with_labels}
use Rattle.label_set.specs.Sets.{value_of, with_label}
use Rattle.label_set.specs.declared.texts.Pair.{Pair}
use Rattle.outside.specs.Schemes.{scheme_text}
use Rattle.relabel.specs.Relabelling.{relabelled}
use Rattle.rule_conf.specs.Refusals.{HasNoBadField}
use Rattle.rule_conf.specs.declared.conf.RuleConf.{RuleConf}
use Rattle.scrape_config.specs.declared.conf.Group.{Group}
use Rattle.scrape_config.specs.declared.conf.JobConf.{JobConf}
use Rattle.scrape_config.specs.declared.conf.Param.{Param}
use Rattle.target_set.specs.Listed.{distinct, group_outcomes, is_same, kept_in, kept_of, outcomes_of, sorted_out, target_list, target_of}
use Rattle.target_set.specs.Outcomes.{cause_of, identity_of, judged, judged_by, labels_of, outcome_of, without_front}
use Rattle.target_set.specs.Prepared.{address_label, listed_set, param_prefix, path_label, prepared, scheme_label, with_default, with_defaults, with_file, with_first, with_params}
use Rattle.target_set.specs.declared.targets.Outcome.{Outcome}
use Rattle.target_set.specs.declared.targets.Outcome.TheVariants.{Dropped, Refused, Kept}
use Rattle.target_set.specs.declared.targets.Target.{Target}
use Rattle.target_set.specs.declared.targets.TargetCause.{TargetCause}
use Rattle.named_series.specs.Named.{HasLabels}
use Rattle.named_series.proofs.LabelLemmas.{IsFilled, IsLabelled, byte-filled, every-all, joined-all, label-with, labels-with}
use Rattle.named_series.proofs.RuleLabels.{rules-labels}
use Rattle.named_series.proofs.ConfLabels.{GroupLabelled}

-- what a target starts with
file-labels : (set : List Pair) (o : Option (List ℕ)) → HasLabels set → HasLabels (with_file set o)
file-labels set None h = h
file-labels set (Some file) h = label-with set (codes "__meta_filepath") file (byte-filled _ _) h

listed-labels : (g : Group) (text : List ℕ) → GroupLabelled g → HasLabels (listed_set g text)
unfolding listed_set
listed-labels g text h =
    label-with (with_file (with_labels [] g.labels) g.file) address_label text (byte-filled _ _)
    (file-labels (with_labels [] g.labels) g.file (labels-with [] g.labels (All-nil IsLabelled) h))

-- what its job adds
default-labels : (set : List Pair) (name value : List ℕ) → IsFilled name → HasLabels set →
    HasLabels (with_default set name value)
unfolding with_default
default-labels set name value n h = by (is_some (value_of set name))
  where
    by : (b : Bool) → HasLabels (if b then set else with_label set name value)
    by true = h
    by false = label-with set name value n h

first-labels : (set : List Pair) (name : List ℕ) (values : List (List ℕ)) → HasLabels set →
    HasLabels (with_first set name values)
first-labels set name [] h = h
first-labels set name (v ∷ vs) h = by (list_all is_name_byte name)
  where
    by : (b : Bool) → HasLabels (if b then with_default set (param_prefix ++ name) v else set)
    by true = default-labels set (param_prefix ++ name) v (byte-filled _ _) h
    by false = h

params-labels : (set : List Pair) (ps : List Param) → HasLabels set → HasLabels (with_params set ps)
params-labels set [] h = h
params-labels set (p ∷ ps) h = params-labels (with_first set p.name p.values) ps (first-labels set p.name p.values h)

added-labels : (conf : JobConf) (set : List Pair) → HasLabels set → HasLabels (with_defaults conf set)
unfolding with_defaults
added-labels conf set h =
    let named = default-labels set (codes "job") conf.job_name (byte-filled _ _) h in
    let spoken = default-labels _ scheme_label (scheme_text conf.scheme) (byte-filled _ _) named in
    params-labels _ conf.params (default-labels _ path_label conf.metrics_path (byte-filled _ _) spoken)

-- what becomes of it
abbrev OutcomeLabelled : Outcome → Type 0
OutcomeLabelled Dropped = Unit {0}
OutcomeLabelled (Refused cause) = Unit {0}
OutcomeLabelled (Kept identity) = HasLabels identity

front-labels : (front : List ℕ) (set : List Pair) → HasLabels set → HasLabels (without_front front set)
unfolding without_front
front-labels front set h = All-filter _ IsLabelled set h

identity-labels : (set : List Pair) → HasLabels set → HasLabels (identity_of set)
unfolding identity_of
identity-labels set h =
    front-labels (codes "__meta_") (with_default set (codes "instance") (unwrap_or (value_of set address_label) []))
    (default-labels set (codes "instance") (unwrap_or (value_of set address_label) []) (byte-filled _ _) h)

by-cause : (set : List Pair) (o : Option TargetCause) → HasLabels set → OutcomeLabelled (judged_by set o)
by-cause set None h = identity-labels set h
by-cause set (Some cause) h = tt

judged-labels : (o : Option (List Pair)) → IfSome o HasLabels → OutcomeLabelled (judged o)
judged-labels None h = tt
judged-labels (Some set) h = by-cause set (cause_of set) h

-- the identities of those that are kept, each once
kept-labels : (o : Outcome) → OutcomeLabelled o → All HasLabels (kept_in o)
kept-labels Dropped h = All-nil HasLabels
kept-labels (Refused cause) h = All-nil HasLabels
kept-labels (Kept identity) h = All-cons HasLabels identity [] h (All-nil HasLabels)

distinct-labels : (xs : List (List Pair)) → All HasLabels xs → All HasLabels (distinct xs)
distinct-labels [] h = h
distinct-labels (x ∷ xs) h =
    All-cons HasLabels x (filter (λ y. not (is_same x y)) (distinct xs)) (All-head HasLabels x xs h)
    (All-filter (λ y. not (is_same x y)) HasLabels (distinct xs) (distinct-labels xs (All-tail HasLabels x xs h)))

abbrev pub TargetLabelled : Target → Type 0
TargetLabelled t = HasLabels t.labels

target-labels : (identity : List Pair) → HasLabels identity → TargetLabelled (target_of identity)
unfolding labels_of
target-labels identity h = front-labels (codes "__") identity h

all-kept : (outcomes : List Outcome) → All OutcomeLabelled outcomes → All TargetLabelled (kept_of outcomes)
all-kept outcomes h =
    let each = All-weaker OutcomeLabelled (λ (o : Outcome). All HasLabels (kept_in o)) kept-labels outcomes h in
    let once = distinct-labels (flat_map kept_in outcomes) (joined-all HasLabels kept_in outcomes each) in
    All-map TargetLabelled target_of (distinct (flat_map kept_in outcomes))
    (All-weaker HasLabels (λ (x : List Pair). TargetLabelled (target_of x)) target-labels _ once)

-- the targets of a job, whose rules have no bad field
module _ (conf : JobConf) (rules : List RuleConf) (good : All HasNoBadField rules) where
  outcome-labels : (g : Group) → GroupLabelled g → (text : List ℕ) → OutcomeLabelled (outcome_of conf rules g text)
  unfolding outcome_of
  outcome-labels g h text =
      judged-labels (relabelled rules (prepared conf g text))
      (rules-labels rules (prepared conf g text) good (added-labels conf (listed_set g text) (listed-labels g text h)))

  group-labels : (g : Group) → GroupLabelled g → All OutcomeLabelled (group_outcomes conf rules g)
  group-labels g h =
      All-map OutcomeLabelled (outcome_of conf rules g) g.targets
      (every-all (λ (text : List ℕ). OutcomeLabelled (outcome_of conf rules g text)) (outcome-labels g h) g.targets)

  pub list-labels : (gs : List Group) → All GroupLabelled gs → All TargetLabelled (target_list conf rules gs).kept
  unfolding target_list sorted_out
  list-labels gs h =
      all-kept (outcomes_of conf rules gs)
      (joined-all OutcomeLabelled (group_outcomes conf rules) gs
      (All-weaker GroupLabelled (λ (g : Group). All OutcomeLabelled (group_outcomes conf rules g)) group-labels gs h))
