-- The walk through listed targets.
use Rattle.std.proofs.Common.{◌≡◌, ℕ, ◌+◌, ◌<◌, ◌≤◌, suc, drop, drop-cons, List, [], ◌∷◌, ◌++◌, length, take, get_or, append_assoc, map, refl, sym, ap, ◌∙◌, arith, length-append, take-append-drop}
use Rattle.std.specs.Prelude.{flat_map, Option, Some, None, IfNone}
use Rattle.std.proofs.lemmas.List.{length-map, map-append, take_more}
use Rattle.std.proofs.lemmas.List.Sums.{sum_by-append, sum_by-cons, sum_by-take-drop}
use Rattle.std.proofs.lemmas.Grind.{flat_map-append}
use Rattle.std.specs.List.{sum_by}
use Rattle.rule_conf.specs.declared.conf.RuleConf.{RuleConf}
use Rattle.scrape_config.specs.declared.conf.Group.{Group}
use Rattle.scrape_config.specs.declared.conf.JobConf.{JobConf}
use Rattle.relabel.specs.Relabelling.{relabelled}
use Rattle.target_set.specs.Outcomes.{judged, outcome_of}
use Rattle.target_set.specs.Listed.{listed_count, files_groups, listed_groups, outcomes_of, group_outcomes, group_count}
use Rattle.target_set.specs.Walk.{default_set, group_base, outcome_from, group_walked, groups_walked}
use Rattle.target_set.proofs.OverlayLemmas.{prepared_from}
use Rattle.target_set.specs.declared.files.FileGroups.{FileGroups}
use Rattle.target_set.specs.declared.targets.Outcome.{Outcome}
use Rattle.label_set.specs.declared.texts.Pair.{Pair}

from_group : (conf : JobConf) (rules : List RuleConf) (group : Group) (text : List ℕ) → outcome_from rules (group_base (default_set conf) group) text ≡ outcome_of conf rules group text
unfolding outcome_of outcome_from
from_group conf rules group text = ap (λ set. judged (relabelled rules set)) (prepared_from conf group text)

map_alike : (f g : List ℕ → Outcome) → ((text : List ℕ) → f text ≡ g text) → (texts : List (List ℕ)) → map f texts ≡ map g texts
map_alike f g h [] = refl
map_alike f g h (t ∷ ts) = λ i. h t i ∷ map_alike f g h ts i

walked_group : (conf : JobConf) (rules : List RuleConf) (group : Group) → group_walked (default_set conf) rules group ≡ group_outcomes conf rules group
walked_group conf rules group =
    map_alike (outcome_from rules (group_base (default_set conf) group)) (outcome_of conf rules group) (from_group conf rules group) group.targets

-- the walk says what becomes of the targets
pub walked_groups : (conf : JobConf) (rules : List RuleConf) (groups : List Group) → groups_walked (default_set conf) rules groups ≡ outcomes_of conf rules groups
walked_groups conf rules [] = refl
walked_groups conf rules (g ∷ gs) = λ i. walked_group conf rules g i ++ walked_groups conf rules gs i

pub outcome_count : (conf : JobConf) (rules : List RuleConf) (groups : List Group) → length (outcomes_of conf rules groups) ≡ listed_count groups
outcome_count conf rules [] = refl
outcome_count conf rules (g ∷ gs) = grind (arith, sum_by-cons group_count g gs, length-append (group_outcomes conf rules g) (outcomes_of conf rules gs), length-map g.targets (outcome_of conf rules g), outcome_count conf rules gs)

-- a group's targets are some of those of all groups from it on
pub counted_next : (groups : List Group) (i : ℕ) (g : Group) → i < length groups → g ≡ get_or groups i g → listed_count (take i groups) + group_count g ≤ listed_count groups
counted_next groups i g h is =
    let split : sum_by group_count (take i groups) + sum_by group_count (drop i groups) ≡ sum_by group_count groups = sum_by-take-drop group_count groups i in
    let behind : sum_by group_count (drop i groups) ≡ group_count g + sum_by group_count (drop (suc i) groups) =
    ap (sum_by group_count) (drop-cons groups i g h ∙ ap (λ x. x ∷ drop (suc i) groups) (sym is)) ∙ sum_by-cons group_count g (drop (suc i) groups) in
    omega arith

-- the groups of one more file come last
groups_nil : (gs : List Group) → gs ++ [] ≡ gs
groups_nil [] = refl
groups_nil (g ∷ gs) = ap (λ hs. g ∷ hs) (groups_nil gs)

abbrev groups_in : FileGroups → List Group
groups_in f = f.groups

files_more : (files : List FileGroups) (i : ℕ) (f : FileGroups) → i < length files → f ≡ get_or files i f → files_groups (take (i + 1) files) ≡ files_groups (take i files) ++ f.groups
files_more files i f h is =
    ap files_groups (take_more files i f h ∙ ap (λ x. take i files ++ x ∷ []) (sym is))
    ∙ flat_map-append groups_in (take i files) (f ∷ [])
    ∙ ap (λ gs. files_groups (take i files) ++ gs) (groups_nil f.groups)

pub files_counted : (files : List FileGroups) (i : ℕ) (f : FileGroups) → i < length files → f ≡ get_or files i f →
    listed_count (files_groups (take (i + 1) files)) ≡ listed_count (files_groups (take i files)) + listed_count f.groups
files_counted files i f h is = ap listed_count (files_more files i f h is) ∙ sum_by-append group_count (files_groups (take i files)) f.groups

-- a file's groups are some of those of all files from it on
pub files_part : (files : List FileGroups) (i : ℕ) (f : FileGroups) → i < length files → f ≡ get_or files i f →
    listed_count (files_groups (take i files)) + listed_count f.groups ≤ listed_count (files_groups files)
files_part files i f h is =
    let next = files_counted files i f h is in
    let split : listed_count (files_groups files) ≡ listed_count (files_groups (take (i + 1) files)) + listed_count (files_groups (drop (i + 1) files)) =
    ap (λ fs. listed_count (files_groups fs)) (sym (take-append-drop (i + 1) files))
    ∙ ap listed_count (flat_map-append groups_in (take (i + 1) files) (drop (i + 1) files))
    ∙ sum_by-append group_count (files_groups (take (i + 1) files)) (files_groups (drop (i + 1) files)) in
    omega arith

pub files_walked : (defaults : List Pair) (rules : List RuleConf) (files : List FileGroups) (i : ℕ) (f : FileGroups) → i < length files → f ≡ get_or files i f →
    groups_walked defaults rules (files_groups (take (i + 1) files)) ≡ groups_walked defaults rules (files_groups (take i files)) ++ groups_walked defaults rules f.groups
files_walked defaults rules files i f h is =
    ap (groups_walked defaults rules) (files_more files i f h is) ∙ flat_map-append (group_walked defaults rules) (files_groups (take i files)) f.groups

-- a job's own groups and those of its files
pub listed_counted : (conf : JobConf) (files : List FileGroups) → listed_count (listed_groups conf files) ≡ listed_count conf.groups + listed_count (files_groups files)
listed_counted conf files = sum_by-append group_count conf.groups (files_groups files)

pub listed_walked : (conf : JobConf) (rules : List RuleConf) (files : List FileGroups) →
    groups_walked (default_set conf) rules conf.groups ++ groups_walked (default_set conf) rules (files_groups files) ≡ outcomes_of conf rules (listed_groups conf files)
listed_walked conf rules files =
    sym (flat_map-append (group_walked (default_set conf) rules) conf.groups (files_groups files)) ∙ walked_groups conf rules (listed_groups conf files)

-- what holds anyway holds where there is none
pub none_so : {A : Type 0} (P : Type 0) → P → (r : Option A) → IfNone r P
none_so P p None = p
none_so P p (Some a) = tt
