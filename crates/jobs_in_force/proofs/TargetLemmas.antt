-- The kept targets of a job: their labels have no `__name__`.
use Rattle.std.proofs.Common.{◌≡◌, ◌||◌, if◌then◌else◌, true≢false, codes, ℕ, List, [], ◌∷◌, map, Bool, true, false, refl, sym, ap, ap₂, ◌∙◌}
use Rattle.std.specs.Prelude.{All, not, filter}
use Rattle.std.specs.List.{flat_map}
use Rattle.std.proofs.lemmas.List.Elements.{All-nil, All-cons}
use Rattle.label_set.specs.declared.texts.Pair.{Pair}
use Rattle.label_set.specs.SetText.{metric_label}
use Rattle.label_conflict.specs.Merging.{bears}
use Rattle.rule_conf.specs.declared.conf.RuleConf.{RuleConf}
use Rattle.scrape_config.specs.declared.conf.Group.{Group}
use Rattle.scrape_config.specs.declared.conf.JobConf.{JobConf}
use Rattle.std.specs.Str.{bytes_eq}
use Rattle.std.specs.Cmp.Lexicographic.{same_text}
use Rattle.target_set.specs.Outcomes.{begins_with, without_front, labels_of}
use Rattle.target_set.specs.Listed.{target_list, sorted_out, target_of, distinct, kept_in, outcomes_of}
use Rattle.jobs_in_force.specs.TargetWords.{HasNoName}

-- `__name__` begins with `__`
other_name : (name : List ℕ) → begins_with (codes "__") name ≡ false → bytes_eq name metric_label ≡ false
unfolding begins_with
other_name name e = by_name (bytes_eq name metric_label) refl
  where
    by_name : (b : Bool) → bytes_eq name metric_label ≡ b → b ≡ false
    by_name true h = absurd (true≢false (sym (ap (begins_with (codes "__")) (same_text name metric_label (sym h))) ∙ e))
    by_name false h = refl

bears_without : (set : List Pair) → bears (without_front (codes "__") set) metric_label ≡ false
unfolding without_front
bears_without [] = refl
bears_without (p ∷ ps) = by_front (begins_with (codes "__") p.name) refl (bears_without ps)
  where
    rest : List Pair
    rest = filter (λ (q : Pair). not (begins_with (codes "__") q.name)) ps

    by_front : (b : Bool) → begins_with (codes "__") p.name ≡ b → bears rest metric_label ≡ false →
        bears (if not b then p ∷ rest else rest) metric_label ≡ false
    by_front true h e = e
    by_front false h e = ap₂ (λ x y. x || y) (other_name p.name h) e

no_name : (identity : List Pair) → bears (labels_of identity) metric_label ≡ false
unfolding labels_of
no_name identity = bears_without identity

-- the labels of kept targets have none
no_names_in : (ids : List (List Pair)) → All HasNoName (map target_of ids)
no_names_in [] = All-nil HasNoName
no_names_in (x ∷ xs) = All-cons HasNoName (target_of x) (map target_of xs) (no_name x) (no_names_in xs)

pub no_names : (conf : JobConf) (rules : List RuleConf) (gs : List Group) → All HasNoName (target_list conf rules gs).kept
unfolding target_list sorted_out
no_names conf rules gs = no_names_in (distinct (flat_map kept_in (outcomes_of conf rules gs)))
