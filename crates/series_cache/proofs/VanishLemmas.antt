-- Which sets vanish: those of texts that are lost, without those that other texts have.
use Rattle.std.proofs.Common.{◌≡◌, ℕ, zero, suc, Bool, true, false, cond, not, ◌||◌, ◌&&◌, flat_map, List, [], ◌∷◌, ◌++◌, drop, slice_get, Option, None, Some, refl, sym, ap, ap₂, ◌∙◌, unwrap_or, true≢false}
use Rattle.std.proofs.lemmas.List.Folds.{list_any-append}
use Rattle.std.specs.BTreeSet.{insert_key}
use Rattle.std.specs.Ordering.{match_ordering}
use Rattle.std.specs.Set.{remove_key}
use Rattle.std.specs.List.{AllByRecursion}
use Rattle.std.specs.List.Sorted.{IsStrictlySortedBy}
use Rattle.std.specs.Map.{values_of}
use Rattle.std.specs.Ordering.{is_eq, ordering_reverse}
use Rattle.std.specs.declared.cmp.Ordering.{Ordering}
use Rattle.std.specs.declared.cmp.Ordering.TheVariants.{Less, Equal, Greater}
use Rattle.label_set.specs.Sets.{set_cmp, sets_total}
use Rattle.label_set.specs.declared.texts.Pair.{Pair}
use Rattle.series_cache.specs.declared.known.Known.{Known}
use Rattle.series_cache.specs.Caches.{now_sets, set_if, was_sets}
use Rattle.series_cache.specs.Sets.{IsRising, gone, has, rising}
use Rattle.series_cache.specs.Vanished.{lost_sets}
use Rattle.series_cache.proofs.OrderLemmas.{above, above-more, turned}

-- equal sets are among the same ones
has-equal : (x z : List Pair) (ys : List (List Pair)) → set_cmp x z ≡ Equal → has x ys ≡ has z ys
has-equal x z [] e = refl
has-equal x z (y ∷ ys) e = ap₂ (λ a b. a || b) (ap is_eq (sets_total.congr x z y e)) (has-equal x z ys e)

own : (x : List Pair) (o : Ordering) → set_cmp x x ≡ o → o ≡ ordering_reverse o → is_eq o ≡ true
own x Less e h = absurd cc
own x Equal e h = refl
own x Greater e h = absurd cc

-- a set is among those that it begins
pub has-first : (x : List Pair) (ys : List (List Pair)) → has x (x ∷ ys) ≡ true
has-first x ys = ap (λ b. b || has x ys) (own x (set_cmp x x) refl (sets_total.antisymm x x))

pub has-behind : (x : List Pair) (xs ys : List (List Pair)) → has x ys ≡ true → has x (xs ++ ys) ≡ true
has-behind x xs ys h = list_any-append (λ (y : List Pair). is_eq (set_cmp x y)) xs ys ∙ ap (λ b. has x xs || b) h ∙ or_true (has x xs)
  where
    or_true : (b : Bool) → (b || true) ≡ true
    or_true true = refl
    or_true false = refl

-- nothing is gone from nothing
pub gone_none : (xs : List (List Pair)) → gone xs [] ≡ xs
gone_none [] = refl
gone_none (x ∷ xs) = ap (λ (l : List (List Pair)). x ∷ l) (gone_none xs)

-- what is gone of two lists goes one after the other
pub gone-twice : (xs ys zs : List (List Pair)) → gone (gone xs ys) zs ≡ gone xs (zs ++ ys)
gone-twice [] ys zs = refl
gone-twice (x ∷ xs) ys zs = by (has x ys) (has x zs) refl refl (list_any-append (λ (y : List Pair). is_eq (set_cmp x y)) zs ys) (gone-twice xs ys zs)
  where
    by : (b c : Bool) → has x ys ≡ b → has x zs ≡ c → has x (zs ++ ys) ≡ (has x zs || has x ys) → gone (gone xs ys) zs ≡ gone xs (zs ++ ys) → gone (gone (x ∷ xs) ys) zs ≡ gone (x ∷ xs) (zs ++ ys)
    by true true e f h rest = rw (e, h ∙ ap₂ (λ a b. a || b) f e) rest
    by true false e f h rest = rw (e, h ∙ ap₂ (λ a b. a || b) f e) rest
    by false true e f h rest = rw (e, f, h ∙ ap₂ (λ a b. a || b) f e) rest
    by false false e f h rest = rw (e, f, h ∙ ap₂ (λ a b. a || b) f e) (ap (λ (l : List (List Pair)). x ∷ l) rest)

-- a set that is below others isn't one of them
others_stay : (s : List Pair) (xs : List (List Pair)) → above s xs → gone xs (s ∷ []) ≡ xs
unfolding above
others_stay s [] a = refl
others_stay s (x ∷ xs) a = rw (turned x s Less a.0) (ap (λ (l : List (List Pair)). x ∷ l) (others_stay s xs a.1))

pub above-equal : (x z : List Pair) (ys : List (List Pair)) → set_cmp x z ≡ Equal → above x ys → above z ys
unfolding above
above-equal x z [] e a = tt
above-equal x z (y ∷ ys) e a = (sym (sets_total.congr x z y e) ∙ a.0, above-equal x z ys e a.1)

-- of rising sets the first that is a set is the only one
pub removed : (s : List Pair) (xs : List (List Pair)) → IsRising xs → remove_key (λ (x : List Pair). is_eq (set_cmp s x)) xs ≡ gone xs (s ∷ [])
unfolding IsStrictlySortedBy above
removed s [] r = refl
removed s (x ∷ xs) r = by (set_cmp s x) refl (removed s xs r.1)
  where
    by : (o : Ordering) → set_cmp s x ≡ o → remove_key (λ (y : List Pair). is_eq (set_cmp s y)) xs ≡ gone xs (s ∷ []) →
        remove_key (λ (y : List Pair). is_eq (set_cmp s y)) (x ∷ xs) ≡ gone (x ∷ xs) (s ∷ [])
    by Less e rest = rw (e, turned x s Less e) (ap (λ (l : List (List Pair)). x ∷ l) rest)
    by Equal e rest = rw (e, turned x s Equal e) (sym (others_stay s xs (above-equal x s xs (turned x s Equal e) r.0)))
    by Greater e rest = rw (e, turned x s Greater e) (ap (λ (l : List (List Pair)). x ∷ l) rest)

-- a set that is put in its order
put_first : (s : List Pair) (xs : List (List Pair)) → above s xs → insert_key set_cmp xs s ≡ s ∷ xs
unfolding above
put_first s [] a = refl
put_first s (x ∷ xs) a = rw a.0 refl

above-put : (x s : List Pair) (xs : List (List Pair)) → set_cmp x s ≡ Less → above x xs → above x (insert_key set_cmp xs s)
unfolding above
above-put x s [] e a = (e, tt)
above-put x s (y ∷ ys) e a = by (set_cmp s y) refl (above-put x s ys e a.1)
  where
    by : (o : Ordering) → set_cmp s y ≡ o → above x (insert_key set_cmp ys s) → above x (insert_key set_cmp (y ∷ ys) s)
    by Less f rest = rw f (e, a)
    by Equal f rest = rw f a
    by Greater f rest = rw f (a.0, rest)

pub put_rises : (s : List Pair) (xs : List (List Pair)) → IsRising xs → IsRising (insert_key set_cmp xs s)
unfolding IsStrictlySortedBy above
put_rises s [] r = (tt, tt)
put_rises s (x ∷ xs) r = by (set_cmp s x) refl (put_rises s xs r.1)
  where
    by : (o : Ordering) → set_cmp s x ≡ o → IsRising (insert_key set_cmp xs s) → IsRising (insert_key set_cmp (x ∷ xs) s)
    by Less e rest = rw e ((e, above-more s x xs e r.0), r)
    by Equal e rest = rw e r
    by Greater e rest = rw e (above-put x s xs (turned x s Greater e) r.0, rest)

pub rising_rises : (xs : List (List Pair)) → IsRising (rising xs)
unfolding IsStrictlySortedBy
rising_rises [] = tt
rising_rises (x ∷ xs) = put_rises x (rising xs) (rising_rises xs)

above-gone : (s : List Pair) (xs ys : List (List Pair)) → above s xs → above s (gone xs ys)
unfolding above
above-gone s [] ys a = tt
above-gone s (x ∷ xs) ys a = by (has x ys) refl (above-gone s xs ys a.1)
  where
    by : (b : Bool) → has x ys ≡ b → above s (gone xs ys) → above s (gone (x ∷ xs) ys)
    by true e rest = rw e rest
    by false e rest = rw e (a.0, rest)

-- a set that others have isn't gone, wherever it is put
pub put-had : (s : List Pair) (xs ys : List (List Pair)) → has s ys ≡ true → gone (insert_key set_cmp xs s) ys ≡ gone xs ys
put-had s [] ys h = rw h refl
put-had s (x ∷ xs) ys h = by (set_cmp s x) refl (put-had s xs ys h)
  where
    by : (o : Ordering) → set_cmp s x ≡ o → gone (insert_key set_cmp xs s) ys ≡ gone xs ys → gone (insert_key set_cmp (x ∷ xs) s) ys ≡ gone (x ∷ xs) ys
    by Less e rest = rw e (ap (λ b. cond (not b) (s ∷ gone (x ∷ xs) ys) (gone (x ∷ xs) ys)) h)
    by Equal e rest = rw e refl
    by Greater e rest = rw e (ap (λ (l : List (List Pair)). cond (not (has x ys)) (x ∷ l) l) rest)

-- and one that they don't have is gone at its place
put-gone : (s : List Pair) (xs ys : List (List Pair)) → has s ys ≡ false → IsRising xs → gone (insert_key set_cmp xs s) ys ≡ insert_key set_cmp (gone xs ys) s
unfolding IsStrictlySortedBy above
put-gone s [] ys h r = rw h refl
put-gone s (x ∷ xs) ys h r = by (set_cmp s x) (has x ys) refl refl (put-gone s xs ys h r.1)
  where
    by : (o : Ordering) (b : Bool) → set_cmp s x ≡ o → has x ys ≡ b → gone (insert_key set_cmp xs s) ys ≡ insert_key set_cmp (gone xs ys) s →
        gone (insert_key set_cmp (x ∷ xs) s) ys ≡ insert_key set_cmp (gone (x ∷ xs) ys) s
    by Less b e f rest =
        let first = sym (put_first s (gone (x ∷ xs) ys) (above-gone s (x ∷ xs) ys (e, above-more s x xs e r.0))) in
        ap (λ o. gone (match_ordering o (s ∷ x ∷ xs) (x ∷ xs) (x ∷ insert_key set_cmp xs s)) ys) e ∙ ap (λ c. cond (not c) (s ∷ gone (x ∷ xs) ys) (gone (x ∷ xs) ys)) h ∙ first
    by Equal true e f rest = absurd (true≢false (sym f ∙ sym (has-equal s x ys e) ∙ h))
    by Equal false e f rest = rw (e, f, e) refl
    by Greater true e f rest = rw (e, f) rest
    by Greater false e f rest = rw (e, f, e) (ap (λ (l : List (List Pair)). x ∷ l) rest)

-- others have each of some sets
abbrev AreHad : List (List Pair) → List (List Pair) → Type 0
AreHad xs ys = AllByRecursion (λ (x : List Pair). has x ys ≡ true) xs

-- of sets of which a number is had by others, what is gone is what is gone of the rest
put_same : (was tracked : Bool) (set : Option (List Pair)) (xs zs ys : List (List Pair)) → AreHad (set_if tracked set) ys → gone (rising xs) ys ≡ gone (rising zs) ys →
    gone (rising (set_if was set ++ xs)) ys ≡ gone (rising (set_if (was && not tracked) set ++ zs)) ys
put_same false tracked set xs zs ys h rest = rest
put_same true tracked None xs zs ys h rest = by tracked
  where
    by : (c : Bool) → gone (rising xs) ys ≡ gone (rising (set_if (not c) None ++ zs)) ys
    by true = rest
    by false = rest
put_same true true (Some s) xs zs ys h rest = put-had s (rising xs) ys h.0 ∙ rest
put_same true false (Some s) xs zs ys h rest = by (has s ys) refl
  where
    by : (b : Bool) → has s ys ≡ b → gone (insert_key set_cmp (rising xs) s) ys ≡ gone (insert_key set_cmp (rising zs) s) ys
    by true e = put-had s (rising xs) ys e ∙ rest ∙ sym (put-had s (rising zs) ys e)
    by false e =
        put-gone s (rising xs) ys e (rising_rises xs) ∙ ap (λ (l : List (List Pair)). insert_key set_cmp l s) rest ∙ sym (put-gone s (rising zs) ys e (rising_rises zs))

had_here : (tracked : Bool) (set : Option (List Pair)) (rest ys : List (List Pair)) → ((x : List Pair) → has x (set_if tracked set ++ rest) ≡ true → has x ys ≡ true) → AreHad (set_if tracked set) ys
had_here true (Some s) rest ys f = (f s (has-first s rest), tt)
had_here true None rest ys f = tt
had_here false set rest ys f = tt

lost_same : (ts : List (List ℕ × Known)) (ys : List (List Pair)) → ((x : List Pair) → has x (now_sets ts) ≡ true → has x ys ≡ true) → gone (rising (was_sets ts)) ys ≡ gone (rising (lost_sets ts)) ys
lost_same [] ys f = refl
lost_same (t ∷ ts) ys f =
    put_same t.1.was_tracked t.1.tracked t.1.set (was_sets ts) (lost_sets ts) ys (had_here t.1.tracked t.1.set (now_sets ts) ys f)
    (lost_same ts ys (λ x h. f x (has-behind x (set_if t.1.tracked t.1.set) (now_sets ts) h)))

-- what vanishes are lost sets that no other text has
pub vanished_lost : (ts : List (List ℕ × Known)) → gone (rising (lost_sets ts)) (now_sets ts) ≡ gone (rising (was_sets ts)) (now_sets ts)
vanished_lost ts = sym (lost_same ts (now_sets ts) (λ x h. h))

-- texts from a place on
pub sets_behind : (f : Known → List (List Pair)) (ts : List (List ℕ × Known)) (i k : ℕ) (v : Known) → k ≡ suc i → slice_get (values_of ts) i ≡ Some v →
    flat_map (λ (t : List ℕ × Known). f t.1) (drop i ts) ≡ f v ++ flat_map (λ (t : List ℕ × Known). f t.1) (drop k ts)
sets_behind f [] i k v e h = absurd cc
sets_behind f (t ∷ ts) zero k v e h =
    ap (λ (u : Known). f u ++ flat_map (λ (u : List ℕ × Known). f u.1) ts) (ap (λ (o : Option Known). unwrap_or o v) h)
    ∙ ap (λ (n : ℕ). f v ++ flat_map (λ (u : List ℕ × Known). f u.1) (drop n (t ∷ ts))) (sym e)
sets_behind f (t ∷ ts) (suc i) k v e h =
    sets_behind f ts i (suc i) v refl h ∙ ap (λ (n : ℕ). f v ++ flat_map (λ (u : List ℕ × Known). f u.1) (drop n (t ∷ ts))) (sym e)
