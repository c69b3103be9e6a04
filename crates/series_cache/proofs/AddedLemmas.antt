-- Which sets a scrape adds: those of texts that are new, without those that a text of the last good scrape has.
use Rattle.std.proofs.Common.{◌≡◌, ℕ, zero, suc, ◌<◌, Bool, true, false, ◌||◌, List, [], ◌∷◌, ◌++◌, drop, take, slice_get, Option, None, Some, refl, ap, ◌∙◌, arith}
use Rattle.std.proofs.lemmas.List.Folds.{list_any-append}
use Rattle.std.specs.Map.{values_of}
use Rattle.std.specs.Option.{option_to_list}
use Rattle.std.specs.Ordering.{is_eq}
use Rattle.label_set.specs.Sets.{set_cmp}
use Rattle.label_set.specs.declared.texts.Pair.{Pair}
use Rattle.series_cache.specs.declared.known.Known.{Known}
use Rattle.series_cache.specs.Caches.{set_if, shown_sets, text_sets}
use Rattle.series_cache.specs.Sets.{gone, has, rising}
use Rattle.series_cache.proofs.VanishLemmas.{has-behind, has-first, put-had}

-- what is known of a text in front
pub front_at : (n : ℕ) (ts : List (List ℕ × Known)) (i : ℕ) → i < n → slice_get (values_of (take n ts)) i ≡ slice_get (values_of ts) i
front_at zero ts i h = absurd (omega arith)
front_at (suc n) [] i h = refl
front_at (suc n) (t ∷ ts) zero h = refl
front_at (suc n) (t ∷ ts) (suc i) h = front_at n ts i (omega (arith, h))

-- behind so many in front there are none
pub none_behind : (n : ℕ) (ts : List (List ℕ × Known)) → drop n (take n ts) ≡ []
none_behind zero ts = refl
none_behind (suc n) [] = refl
none_behind (suc n) (t ∷ ts) = none_behind n ts

has-before : (x : List Pair) (xs ys : List (List Pair)) → has x xs ≡ true → has x (xs ++ ys) ≡ true
has-before x xs ys h = list_any-append (λ (y : List Pair). is_eq (set_cmp x y)) xs ys ∙ ap (λ b. b || has x ys) h

-- others have each of some sets
abbrev Had : List (List Pair) → List (List Pair) → Type 0
Had xs ys = (x : List Pair) → has x xs ≡ true → has x ys ≡ true

one_had : (shown : Bool) (set : Option (List Pair)) (xs ys : List (List Pair)) → Had (option_to_list set) ys → gone (rising (set_if shown set ++ xs)) ys ≡ gone (rising xs) ys
one_had false set xs ys f = refl
one_had true None xs ys f = refl
one_had true (Some s) xs ys f = put-had s (rising xs) ys (f s (has-first s []))

front_had : (n : ℕ) (ts : List (List ℕ × Known)) (ys : List (List Pair)) → Had (text_sets (take n ts)) ys → gone (rising (shown_sets ts)) ys ≡ gone (rising (shown_sets (drop n ts))) ys
front_had zero ts ys f = refl
front_had (suc n) [] ys f = refl
front_had (suc n) (t ∷ ts) ys f =
    one_had t.1.shown t.1.set (shown_sets ts) ys (λ x h. f x (has-before x (option_to_list t.1.set) (text_sets (take n ts)) h))
    ∙ front_had n ts ys (λ x h. f x (has-behind x (option_to_list t.1.set) (text_sets (take n ts)) h))

-- what is added are sets of new texts
pub added_new : (n : ℕ) (ts : List (List ℕ × Known)) → gone (rising (shown_sets ts)) (text_sets (take n ts)) ≡ gone (rising (shown_sets (drop n ts))) (text_sets (take n ts))
added_new n ts = front_had n ts (text_sets (take n ts)) (λ x h. h)
