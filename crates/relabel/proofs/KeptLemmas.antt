-- Laws of the plain steps.
use Rattle.std.proofs.Common.{◌≡◌, Bool, true, false, List, [], ◌∷◌, refl, ap, ◌∙◌}
use Rattle.std.specs.Prelude.{filter, flat_map, ◌++◌, ℕ, Option, None, Some, if◌then◌else◌}
use Rattle.std.specs.List.{list_all}
use Rattle.std.proofs.lemmas.Bool.{and_parts, cond-true}
use Rattle.label_set.specs.Sets.{with_label}
use Rattle.label_set.specs.declared.texts.Pair.{Pair}
use Rattle.label_set.specs.Lasts.{with_labels}
use Rattle.relabel.specs.Effects.{label_of}
use Rattle.relabel.specs.Relabelling.{mapped, with_expanded}
use Rattle.rule_conf.specs.declared.conf.RuleConf.{RuleConf}
use Rattle.pattern_rule.specs.Patterns.{expansion}
use Rattle.label_set.specs.Bytes.{is_label_name}
use Rattle.std.proofs.lemmas.List.Concat.{flat_map-cons}

-- where all labels stay, nothing changes
pub all_stay : {X : Type 0} (f : X → Bool) (xs : List X) → list_all f xs ≡ true → filter f xs ≡ xs
all_stay f [] e = refl
all_stay f (x ∷ xs) e =
    let parts = and_parts (f x) (list_all f xs) e in
    cond-true (f x) (x ∷ filter f xs) (filter f xs) parts.0 ∙ ap (λ ys. x ∷ ys) (all_stay f xs parts.1)

-- what a label gives under `labelmap`
abbrev given_by : RuleConf → Pair → List Pair
given_by r p = label_of (expansion r.regex r.replacement p.name) p.value

module _ (value : List ℕ) (rest set : List Pair) (after : List Pair → List Pair) (more : (s : List Pair) → with_labels s rest ≡ after s) where
  by_name : (b : Bool) (name : List ℕ) →
      with_labels set ((if b then record { name = name; value = value } ∷ [] else []) ++ rest) ≡ after (if b then with_label set name value else set)
  by_name true name = more (with_label set name value)
  by_name false name = more set

  one_given : (o : Option (List ℕ)) → with_labels set (label_of o value ++ rest) ≡ after (with_expanded set o (Some value))
  one_given None = more set
  one_given (Some name) = by_name (is_label_name name) name

-- `labelmap` sets the labels that all labels give
pub mapped_is : (r : RuleConf) (ps set : List Pair) →
    with_labels set (flat_map (λ (p : Pair). label_of (expansion r.regex r.replacement p.name) p.value) ps) ≡ mapped r ps set
mapped_is r [] set = refl
mapped_is r (p ∷ ps) set =
    ap (with_labels set) (flat_map-cons (given_by r) p ps)
    ∙ one_given p.value (flat_map (given_by r) ps) set (mapped r ps) (mapped_is r ps) (expansion r.regex r.replacement p.name)
