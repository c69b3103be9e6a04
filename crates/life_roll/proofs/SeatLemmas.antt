-- One target more in a hashed set.
use Rattle.std.proofs.Common.{◌≡◌, ℕ, Bool, true, false, ◌&&◌, ◌||◌, List, [], ◌∷◌, ◌++◌, refl, sym, ap, ap₂, ◌∙◌}
use Rattle.std.specs.Prelude.{nat_eq, if◌then◌else◌}
use Rattle.std.specs.List.{list_any}
use Rattle.std.specs.Ordering.{is_eq}
use Rattle.std.proofs.lemmas.Bool.{false≢true}
use Rattle.indexmap.specs.IndexSet.{insert_key}
use Rattle.label_set.specs.Same.{sets_decide}
use Rattle.label_set.specs.Sets.{set_cmp}
use Rattle.label_set.specs.declared.texts.Pair.{Pair}
use Rattle.life_roll.specs.declared.seats.Seat.{Seat}
use Rattle.life_roll.specs.Seats.{is_seat}

or_true : (b : Bool) → (b || true) ≡ true
or_true true = refl
or_true false = refl

or_twice : (a b : Bool) → (a || b) ≡ (a || (a || b))
or_twice true b = refl
or_twice false b = refl

or_other : (a b c : Bool) → c ≡ (b || c) → (a || c) ≡ (b || (a || c))
or_other true b c e = sym (or_true b)
or_other false b c e = e

or_false : (a : Bool) → (a || false) ≡ a
or_false true = refl
or_false false = refl

or_swap : (a b c : Bool) → (a || (b || c)) ≡ (b || (a || c))
or_swap true b c = sym (or_true b)
or_swap false b c = refl

any_push : {K : Type 0} (p : K → Bool) (xs : List K) (y : K) → list_any p (xs ++ y ∷ []) ≡ (p y || list_any p xs)
any_push p [] y = refl
any_push p (x ∷ xs) y = ap (λ r. p x || r) (any_push p xs y) ∙ or_swap (p x) (p y) (list_any p xs)

-- what equals an element that is there is there
any_same : {K : Type 0} (p e : K → Bool) (s : K) → ((k : K) → e k ≡ true → p s ≡ p k) → (ks : List K) → list_any e ks ≡ true →
    list_any p ks ≡ (p s || list_any p ks)
any_same p e s same [] h = absurd (false≢true h)
any_same p e s same (k ∷ ks) h = by (any_same p e s same ks) (e k) refl
  where
    by : (list_any e ks ≡ true → list_any p ks ≡ (p s || list_any p ks)) → (b : Bool) → e k ≡ b → (p k || list_any p ks) ≡ (p s || (p k || list_any p ks))
    by rest true at = or_twice (p k) (list_any p ks) ∙ ap (λ b. b || (p k || list_any p ks)) (sym (same k at))
    by rest false at = or_other (p k) (p s) (list_any p ks) (rest (ap (λ b. b || list_any e ks) (sym at) ∙ h))

pub any_insert : {K : Type 0} (p : K → Bool) (eq : K → K → Bool) (ks : List K) (s : K) → ((k : K) → eq s k ≡ true → p s ≡ p k) →
    list_any p (insert_key eq ks s) ≡ (p s || list_any p ks)
any_insert p eq ks s same = by (list_any (eq s) ks) refl
  where
    by : (b : Bool) → list_any (eq s) ks ≡ b → list_any p (if b then ks else ks ++ s ∷ []) ≡ (p s || list_any p ks)
    by true at = any_same p (eq s) s same ks at
    by false at = any_push p ks s

-- equal targets are the same for each test
pub seats_alike : (job : ℕ) (identity : List Pair) (s k : Seat) → s.job ≡ k.job → is_eq (set_cmp s.identity k.identity) ≡ true →
    is_seat job identity s ≡ is_seat job identity k
seats_alike job identity s k a b =
    ap₂ (λ n (x : List Pair). nat_eq job n && is_eq (set_cmp identity x)) a ((sets_decide s.identity k.identity).0 b)
