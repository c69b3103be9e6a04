-- Labels put one after another, and the last of each name.
use Rattle.std.proofs.Common.{arith, ◌≡◌, ℕ, Bool, true, false, List, [], ◌∷◌, ◌++◌, length, refl, sym, ap, ◌∙◌, subst, append_assoc, cond, ◌<◌}
use Rattle.std.proofs.Common.{get_or, drop, drop-cons, ◌+◌, ◌-◌, ◌==◌, take, add-one}
use Rattle.std.proofs.lemmas.List.{take_rest, take_more}
use Rattle.std.proofs.lemmas.Bool.Decides.{nat_tests}
use Rattle.label_set.specs.Borrowed.{pair_of}
use Rattle.std.specs.Prelude.{map}
use Rattle.label_set.specs.declared.ordered.Named.{Named}
use Rattle.label_set.specs.Named.{named_pair}
use Rattle.label_set.specs.declared.texts.Pair.{Pair}
use Rattle.label_set.specs.Flat.{flat, flat_label, IsLabel, AreLabels}
use Rattle.label_set.specs.Lasts.{some_label, named_first, lasts, Encodes}
use Rattle.label_set.proofs.SplitLemmas.{flat_none, flat_more, labels_more}

-- the bytes of those that were picked so far, and what is left to pick
pub record Picked (bs : List ℕ) (rest all : List Pair) : Type 0 where
  pub done : List Pair
  pub made : Encodes bs done
  pub left : done ++ lasts rest ≡ lasts all

pub picked_none : (bs : List ℕ) (all : List Pair) → bs ≡ [] → Picked bs all all
picked_none bs all e = record { done = []; made = record { bytes = e ∙ sym flat_none; labels = tt }; left = refl }

pairs_nil : (xs : List Pair) → xs ++ [] ≡ xs
pairs_nil [] = refl
pairs_nil (x ∷ xs) = ap (λ ys. x ∷ ys) (pairs_nil xs)

pub picked_all : (bs : List ℕ) (all : List Pair) → Picked bs [] all → Encodes bs (lasts all)
picked_all bs all k = subst (Encodes bs) (sym (pairs_nil k.done) ∙ k.left) k.made

-- a label that another of its name follows, or with no value, is passed over
passed : (b : Bool) (p : Pair) (value : List ℕ) (ps : List Pair) → (b ≡ true) → cond b ps (some_label p value ps) ≡ ps
passed true p value ps e = refl
passed false p value ps e = absurd cc

pub picked_again : (bs : List ℕ) (p : Pair) (ps all : List Pair) → Picked bs (p ∷ ps) all → named_first p.name ps ≡ true → Picked bs ps all
picked_again bs p ps all k e = record { done = k.done; made = k.made; left = ap (λ xs. k.done ++ xs) (sym (passed (named_first p.name ps) p p.value (lasts ps) e)) ∙ k.left }

empty_passed : (b : Bool) (p : Pair) (value : List ℕ) (ps : List Pair) → length value ≡ 0 → cond b ps (some_label p value ps) ≡ ps
empty_passed true p value ps e = refl
empty_passed false p [] ps e = refl
empty_passed false p (v ∷ vs) ps e = absurd (omega arith)

pub picked_empty : (bs : List ℕ) (p : Pair) (ps all : List Pair) → Picked bs (p ∷ ps) all → length p.value ≡ 0 → Picked bs ps all
picked_empty bs p ps all k e = record { done = k.done; made = k.made; left = ap (λ xs. k.done ++ xs) (sym (empty_passed (named_first p.name ps) p p.value (lasts ps) e)) ∙ k.left }

taken : (b : Bool) (p : Pair) (value : List ℕ) (ps : List Pair) → b ≡ false → 0 < length value → cond b ps (some_label p value ps) ≡ p ∷ ps
taken true p value ps e h = absurd cc
taken false p [] ps e h = absurd (omega arith)
taken false p (v ∷ vs) ps e h = refl

pub picked_more : (bs new : List ℕ) (p : Pair) (ps all : List Pair) → Picked bs (p ∷ ps) all → named_first p.name ps ≡ false → 0 < length p.value → new ≡ bs ++ flat_label p → IsLabel p → Picked new ps all
picked_more bs new p ps all k e h more is = record {
  done = k.done ++ p ∷ [];
  made = record { bytes = more ∙ ap (λ xs. xs ++ flat_label p) k.made.bytes ∙ sym (flat_more k.done p); labels = labels_more k.done p k.made.labels is };
  left = append_assoc k.done (p ∷ []) (lasts ps) ∙ ap (λ xs. k.done ++ xs) (sym (taken (named_first p.name ps) p p.value (lasts ps) e h)) ∙ k.left;
}

pub next_named : (xs : List Named) (i : ℕ) (d : Named) → i < length xs → map named_pair (drop i xs) ≡ named_pair (get_or xs i d) ∷ map named_pair (drop (i + 1) xs)
next_named xs i d h = rw (add-one, drop-cons xs i d h) refl

some_by : (v : List ℕ) (b : Bool) → b ≡ (length v == 0) → b ≡ false → 0 < length v
some_by v b e f = grind (arith, nat_tests)

-- a label is picked
pub named_more : (bs new : List ℕ) (xs : List Named) (i : ℕ) (d : Named) (b c : Bool) → i < length xs → Picked bs (map named_pair (drop i xs)) (map named_pair xs) → b ≡ named_first (get_or xs i d).label.name.now (map named_pair (take (length xs - (i + 1)) (drop (i + 1) xs))) → b ≡ false → c ≡ (length (get_or xs i d).label.value.now == 0) → c ≡ false → new ≡ bs ++ flat_label (pair_of (get_or xs i d).label) → IsLabel (pair_of (get_or xs i d).label) → Picked new (map named_pair (drop (i + 1) xs)) (map named_pair xs)
named_more bs new xs i d b c h k e f g l more is =
    let p = named_pair (get_or xs i d) in
    let first : named_first p.name (map named_pair (drop (i + 1) xs)) ≡ false = ap (λ ys. named_first p.name (map named_pair ys)) (sym (take_rest xs (i + 1))) ∙ sym e ∙ f in
    let here : Picked bs (p ∷ map named_pair (drop (i + 1) xs)) (map named_pair xs) = subst (λ (ps : List Pair). Picked bs ps (map named_pair xs)) (next_named xs i d h) k in
    picked_more bs new p (map named_pair (drop (i + 1) xs)) (map named_pair xs) here first (some_by p.value c g l) more is

pub encodes_none : (bs : List ℕ) → bs ≡ [] → Encodes bs []
encodes_none bs e = record { bytes = e ∙ sym flat_none; labels = tt }

-- one more label in the bytes
pub encodes_more : (xs : List Pair) (i : ℕ) (p q : Pair) (old new : List ℕ) → i < length xs → Encodes old (take i xs) → p ≡ get_or xs i p → q ≡ p → new ≡ old ++ flat_label q → IsLabel q → Encodes new (take (i + 1) xs)
encodes_more xs i p q old new h k at same more is =
    let next : take (i + 1) xs ≡ take i xs ++ q ∷ [] = take_more xs i p h ∙ ap (λ r. take i xs ++ r ∷ []) (sym at ∙ sym same) in
    record {
      bytes = more ∙ ap (λ bs. bs ++ flat_label q) k.bytes ∙ sym (flat_more (take i xs) q) ∙ ap flat (sym next);
      labels = subst AreLabels (sym next) (labels_more (take i xs) q k.labels is);
    }
