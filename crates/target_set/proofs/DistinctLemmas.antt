-- Sets inserted one after another are each kept once, at their first places.
use Rattle.std.proofs.Common.{◌≡◌, ℕ, Bool, true, false, cond, not, ◌&&◌, ◌||◌, ◌+◌, ◌<◌, ◌≤◌, length, take, get_or, List, [], ◌∷◌, ◌++◌, refl, sym, ap, ◌∙◌, append_assoc}
use Rattle.std.specs.Prelude.{filter, flat_map}
use Rattle.std.proofs.lemmas.List.{take_more, take_all}
use Rattle.std.proofs.lemmas.Grind.{flat_map-append}
use Rattle.std.specs.List.{list_any}
use Rattle.std.specs.Cmp.{IsEquivalence, eq_by_cmp_equiv}
use Rattle.indexmap.specs.IndexSet.{insert_all, insert_key}
use Rattle.label_set.specs.Sets.{sets_total}
use Rattle.label_set.specs.declared.texts.Pair.{Pair}
use Rattle.target_set.specs.Listed.{is_same, distinct, kept_in}
use Rattle.target_set.specs.declared.targets.Outcome.{Outcome}

module _ {K : Type 0} where
  filter_cond : (P : K → Bool) (q : Bool) (y : K) (l : List K) → filter P (cond q (y ∷ l) l) ≡ cond q (cond (P y) (y ∷ filter P l) (filter P l)) (filter P l)
  filter_cond P true y l = refl
  filter_cond P false y l = refl

  within_step : (p q : Bool) (y : K) (a b : List K) → (p ≡ true → q ≡ true) → a ≡ b → cond q (cond p (y ∷ a) a) a ≡ cond p (y ∷ b) b
  within_step true true y a b h e = ap (λ l. y ∷ l) e
  within_step true false y a b h e = absurd (let f = h refl in cc)
  within_step false true y a b h e = e
  within_step false false y a b h e = e

  filter_within : (P Q : K → Bool) → ((y : K) → P y ≡ true → Q y ≡ true) → (l : List K) → filter P (filter Q l) ≡ filter P l
  filter_within P Q h [] = refl
  filter_within P Q h (y ∷ ys) = filter_cond P (Q y) y (filter Q ys) ∙ within_step (P y) (Q y) y _ _ (h y) (filter_within P Q h ys)

  both_step : (p q : Bool) (y : K) (a b : List K) → a ≡ b → cond (p && q) (y ∷ a) a ≡ cond q (cond p (y ∷ b) b) b
  both_step true true y a b e = ap (λ l. y ∷ l) e
  both_step true false y a b e = e
  both_step false true y a b e = e
  both_step false false y a b e = e

  filter_both : (R P Q : K → Bool) → ((y : K) → R y ≡ (P y && Q y)) → (l : List K) → filter R l ≡ filter P (filter Q l)
  filter_both R P Q h [] = refl
  filter_both R P Q h (y ∷ ys) =
      ap (λ r. cond r (y ∷ filter R ys) (filter R ys)) (h y) ∙ both_step (P y) (Q y) y _ _ (filter_both R P Q h ys) ∙ sym (filter_cond P (Q y) y (filter Q ys))

  any_push : (f : K → Bool) (xs : List K) (y : K) → list_any f (xs ++ y ∷ []) ≡ (list_any f xs || f y)
  any_push f [] y = or_false (f y)
    where
      or_false : (b : Bool) → (b || false) ≡ b
      or_false true = refl
      or_false false = refl
  any_push f (x ∷ xs) y = ap (λ r. f x || r) (any_push f xs y) ∙ assoc (f x) (list_any f xs) (f y)
    where
      assoc : (a b c : Bool) → (a || (b || c)) ≡ ((a || b) || c)
      assoc true b c = refl
      assoc false b c = refl

  any_alike : (f g : K → Bool) → ((z : K) → f z ≡ g z) → (xs : List K) → list_any f xs ≡ list_any g xs
  any_alike f g h [] = refl
  any_alike f g h (x ∷ xs) = λ i. h x i || any_alike f g h xs i

neither : (a b : Bool) → not (a || b) ≡ (not a && not b)
neither true b = refl
neither false b = refl

not_true : (a : Bool) → not a ≡ true → a ≡ false
not_true true e = absurd cc
not_true false e = refl

same : IsEquivalence is_same
same = eq_by_cmp_equiv sets_total

-- whether a set is none of those seen
abbrev is_new : List (List Pair) → List Pair → Bool
is_new seen y = not (list_any (is_same y) seen)

-- what is new differs from what was seen
apart : (seen : List (List Pair)) (x y : List Pair) → list_any (is_same x) seen ≡ true → is_new seen y ≡ true → not (is_same x y) ≡ true
apart seen x y among new = by (is_same x y) refl
  where
    by : (b : Bool) → is_same x y ≡ b → not b ≡ true
    by false e = refl
    by true e =
        let alike = any_alike (is_same x) (is_same y) (λ z. same.congr x y z e) seen in
        let other = not_true (list_any (is_same y) seen) new in
        absurd (let k : true ≡ false = sym among ∙ alike ∙ other in cc)

new_push : (seen : List (List Pair)) (x y : List Pair) → is_new (seen ++ x ∷ []) y ≡ (is_new seen y && not (is_same x y))
new_push seen x y =
    ap not (any_push (is_same y) seen x ∙ ap (λ r. list_any (is_same y) seen || r) (same.symm y x)) ∙ neither (list_any (is_same y) seen) (is_same x y)

-- the sets that come after x
abbrev rest_of : List Pair → List (List Pair) → List (List Pair)
rest_of x xs = filter (λ y. not (is_same x y)) (distinct xs)

-- one more set, by whether it is among those seen
one_more : (seen : List (List Pair)) (x : List Pair) (xs : List (List Pair)) (b : Bool) → list_any (is_same x) seen ≡ b →
    insert_all is_same seen xs ≡ seen ++ filter (is_new seen) (distinct xs) →
    insert_all is_same (seen ++ x ∷ []) xs ≡ (seen ++ x ∷ []) ++ filter (is_new (seen ++ x ∷ [])) (distinct xs) →
    insert_all is_same (cond b seen (seen ++ x ∷ [])) xs ≡ seen ++ cond (not b) (x ∷ filter (is_new seen) (rest_of x xs)) (filter (is_new seen) (rest_of x xs))
one_more seen x xs true e same_seen more = same_seen ∙ ap (λ l. seen ++ l) (sym (filter_within (is_new seen) (λ y. not (is_same x y)) (λ y. apart seen x y e) (distinct xs)))
one_more seen x xs false e same_seen more =
    more
    ∙ append_assoc seen (x ∷ []) (filter (is_new (seen ++ x ∷ [])) (distinct xs))
    ∙ ap (λ l. seen ++ x ∷ l) (filter_both (is_new (seen ++ x ∷ [])) (is_new seen) (λ y. not (is_same x y)) (new_push seen x) (distinct xs))

append_none : (l : List (List Pair)) → l ++ [] ≡ l
append_none [] = refl
append_none (y ∷ ys) = ap (λ l. y ∷ l) (append_none ys)

insert_all_from : (seen xs : List (List Pair)) → insert_all is_same seen xs ≡ seen ++ filter (is_new seen) (distinct xs)
insert_all_from seen [] = sym (append_none seen)
insert_all_from seen (x ∷ xs) = one_more seen x xs (list_any (is_same x) seen) refl (insert_all_from seen xs) (insert_all_from (seen ++ x ∷ []) xs)

all_new : (xs : List (List Pair)) → filter (is_new []) xs ≡ xs
all_new [] = refl
all_new (x ∷ xs) = ap (λ l. x ∷ l) (all_new xs)

inserted : (xs : List (List Pair)) → insert_all is_same [] xs ≡ distinct xs
inserted xs = insert_all_from [] xs ∙ all_new (distinct xs)

inserted_append : (seen xs ys : List (List Pair)) → insert_all is_same seen (xs ++ ys) ≡ insert_all is_same (insert_all is_same seen xs) ys
inserted_append seen [] ys = refl
inserted_append seen (x ∷ xs) ys = inserted_append (insert_key is_same seen x) xs ys

kept_push : (os : List Outcome) (o : Outcome) → flat_map kept_in (os ++ o ∷ []) ≡ flat_map kept_in os ++ kept_in o
kept_push os o = flat_map-append kept_in os (o ∷ []) ∙ ap (λ l. flat_map kept_in os ++ l) (append_none (kept_in o))

-- the keys after one more outcome
pub kept_more : (os : List Outcome) (i : ℕ) (o : Outcome) (keys more : List (List Pair)) → i < length os → o ≡ get_or os i o →
    keys ≡ insert_all is_same [] (flat_map kept_in (take i os)) → more ≡ insert_all is_same keys (kept_in o) →
    more ≡ insert_all is_same [] (flat_map kept_in (take (i + 1) os))
kept_more os i o keys more h is was now =
    now
    ∙ ap (λ ks. insert_all is_same ks (kept_in o)) was
    ∙ sym (inserted_append [] (flat_map kept_in (take i os)) (kept_in o))
    ∙ ap (insert_all is_same []) (sym (ap (flat_map kept_in) (take_more os i o h ∙ ap (λ q. take i os ++ q ∷ []) (sym is)) ∙ kept_push (take i os) o))

-- the keys after all outcomes
pub kept_all : (os : List Outcome) (i : ℕ) (keys : List (List Pair)) → length os ≤ i → keys ≡ insert_all is_same [] (flat_map kept_in (take i os)) →
    keys ≡ distinct (flat_map kept_in os)
kept_all os i keys h is = is ∙ ap (λ l. insert_all is_same [] (flat_map kept_in l)) (take_all i os h) ∙ inserted (flat_map kept_in os)
