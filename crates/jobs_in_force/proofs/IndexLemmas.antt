-- One identity more in a hashed look-up.
use Rattle.std.proofs.Common.{◌≡◌, ℕ, ◌+◌, ◌<◌, Bool, true, false, ◌||◌, List, [], ◌∷◌, ◌++◌, length, take, get_or, refl, sym, ap, ap₂, ◌∙◌}
use Rattle.std.specs.List.{list_any}
use Rattle.std.specs.Ordering.{is_eq}
use Rattle.std.proofs.lemmas.List.{take_more}
use Rattle.std.proofs.lemmas.List.Folds.{list_any-append}
use Rattle.indexmap.specs.IndexSet.{insert_key}
use Rattle.label_set.specs.Sets.{set_cmp}
use Rattle.label_set.specs.Same.{sets_decide}
use Rattle.label_set.specs.declared.texts.Pair.{Pair}
use Rattle.target_set.specs.declared.targets.Target.{Target}
use Rattle.life_roll.proofs.SeatLemmas.{any_insert}
use Rattle.jobs_in_force.specs.TargetWords.{is_target, IsIndexed}

or_comm : (a b : Bool) → (a || (b || false)) ≡ (b || a)
or_comm true true = refl
or_comm true false = refl
or_comm false true = refl
or_comm false false = refl

pub any_more : {X : Type 0} (f : X → Bool) (xs : List X) (i : ℕ) (x : X) → i < length xs → x ≡ get_or xs i x →
    list_any f (take (i + 1) xs) ≡ (f x || list_any f (take i xs))
any_more f xs i x lt at =
    ap (list_any f) (take_more xs i x lt ∙ ap (λ y. take i xs ++ y ∷ []) (sym at))
    ∙ list_any-append f (take i xs) (x ∷ []) ∙ or_comm (list_any f (take i xs)) (f x)

pub indexed_more : (ts : List Target) (i : ℕ) (t : Target) (keys more : List (List Pair)) (s : List Pair) → i < length ts → t ≡ get_or ts i t →
    IsIndexed (take i ts) keys → s ≡ t.identity → more ≡ insert_key (λ (x y : List Pair). is_eq (set_cmp x y)) keys s → IsIndexed (take (i + 1) ts) more
indexed_more ts i t keys more s lt at h hs hm = λ (identity : List Pair).
    ap (list_any (λ (x : List Pair). is_eq (set_cmp identity x))) hm
    ∙ any_insert (λ (x : List Pair). is_eq (set_cmp identity x)) (λ (x y : List Pair). is_eq (set_cmp x y)) keys s
    (λ k e. ap (λ (y : List Pair). is_eq (set_cmp identity y)) ((sets_decide s k).0 e))
    ∙ ap₂ (λ a b. a || b) (ap (λ (y : List Pair). is_eq (set_cmp identity y)) hs) (h identity)
    ∙ sym (any_more (is_target identity) ts i t lt at)
