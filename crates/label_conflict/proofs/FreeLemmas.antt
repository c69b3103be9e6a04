-- A free name comes, and the search for it may stop early.
use Rattle.std.proofs.Common.{◌≡◌, ℕ, zero, suc, ◌+◌, ◌<◌, ◌≤◌, Bool, true, false, not, cond, List, [], ◌∷◌, length, refl, ap, subst, ◌∙◌, arith, nat_lt, Option, Some}
use Rattle.std.specs.Prelude.{find, ◌||◌, IsSome}
use Rattle.std.specs.Str.{bytes_eq}
use Rattle.std.proofs.lemmas.Bool.Decides.{nat_tests}
use Rattle.std.proofs.lemmas.Slice.Eq.{bytes_eq-Decides}
use Rattle.label_set.specs.declared.texts.Pair.{Pair}
use Rattle.label_conflict.specs.Merging.{bears, exported, exported_names, free_name}

-- how many labels have a name that is no shorter
abbrev pub reach : List Pair → List ℕ → ℕ
reach [] name = 0
reach (p ∷ ps) name = cond (nat_lt (length p.name) (length name)) 0 1 + reach ps name

reach_small : (labels : List Pair) (name : List ℕ) → reach labels name ≤ length labels
reach_small [] name = omega arith
reach_small (p ∷ ps) name = grind (arith, nat_tests, reach_small ps name)

no_more : (labels : List Pair) (n c : List ℕ) → length n < length c → reach labels c ≤ reach labels n
no_more [] n c h = omega arith
no_more (p ∷ ps) n c h = grind (arith, nat_tests, no_more ps n c h)

fewer_at : (b : Bool) (p : Pair) (ps : List Pair) (n c : List ℕ) → length n < length c → bytes_eq p.name n ≡ b →
    (b ≡ false → reach ps c < reach ps n) → reach (p ∷ ps) c < reach (p ∷ ps) n
fewer_at true p ps n c h e more =
    let long : length p.name ≡ length n = ap length ((bytes_eq-Decides p.name n).0 e) in
    let rest = no_more ps n c h in
    grind (arith, nat_tests, long, rest, h)
fewer_at false p ps n c h e more =
    let rest = more refl in
    grind (arith, nat_tests, rest, h)

-- where a label bears a name, fewer labels have names as long as a longer one
pub fewer : (labels : List Pair) (n c : List ℕ) → length n < length c → bears labels n ≡ true → reach labels c < reach labels n
fewer [] n c h e = absurd cc
fewer (p ∷ ps) n c h e =
    fewer_at (bytes_eq p.name n) p ps n c h refl (λ f. fewer ps n c h (rest_bears (bytes_eq p.name n) (bears ps n) e f))
  where
    rest_bears : (a b : Bool) → (a || b) ≡ true → a ≡ false → b ≡ true
    rest_bears true b e f = absurd cc
    rest_bears false b e f = e

pub longer : (name : List ℕ) → length name < length (exported name)
longer name = omega arith

-- where a label bears the next name, fewer labels reach the one after
less : (labels : List Pair) (name : List ℕ) → bears labels (exported name) ≡ true → reach labels (exported (exported name)) < reach labels (exported name)
less labels name e = fewer labels (exported name) (exported (exported name)) (longer (exported name)) e

abbrev pub is_free : List Pair → List ℕ → Bool
is_free labels n = not (bears labels n)

found_at : (b : Bool) (x : List ℕ) (r : Option (List ℕ)) → (b ≡ true → IsSome r) → IsSome (cond (not b) (Some x) r)
found_at true x r h = h refl
found_at false x r h = refl

always : (k : ℕ) (labels : List Pair) (name : List ℕ) → reach labels (exported name) < k → IsSome (find (is_free labels) (exported_names k name))
always zero labels name h = absurd (omega (arith, h))
always (suc k) labels name h =
    found_at (bears labels (exported name)) (exported name) (find (is_free labels) (exported_names k (exported name)))
    (λ e. always k labels (exported name) (omega (arith, h, less labels name e)))

-- within as many prefixes as there are labels and one more
pub free_name_found : (labels : List Pair) (name : List ℕ) → IsSome (free_name labels name)
unfolding free_name
free_name_found labels name = always (suc (length labels)) labels name (omega (arith, reach_small labels (exported name)))

same_at : (b : Bool) (x : List ℕ) (r s : Option (List ℕ)) → (b ≡ true → r ≡ s) → cond (not b) (Some x) r ≡ cond (not b) (Some x) s
same_at true x r s h = h refl
same_at false x r s h = refl

-- more prefixes find nothing else
same : (k m : ℕ) (labels : List Pair) (name : List ℕ) → reach labels (exported name) < k → reach labels (exported name) < m →
    find (is_free labels) (exported_names k name) ≡ find (is_free labels) (exported_names m name)
same zero m labels name h j = absurd (omega (arith, h))
same (suc k) zero labels name h j = absurd (omega (arith, j))
same (suc k) (suc m) labels name h j =
    same_at (bears labels (exported name)) (exported name) _ _
    (λ e. same k m labels (exported name) (omega (arith, h, less labels name e)) (omega (arith, j, less labels name e)))

-- the free name, where the search goes on at a name
unfoldable pub free_from : List Pair → List ℕ → Option (List ℕ)
free_from labels n = find (is_free labels) (n ∷ exported_names (suc (length labels)) n)

pub next_name : (labels : List Pair) (name : List ℕ) → free_name labels name ≡ free_from labels (exported name)
unfolding free_name free_from
next_name labels name =
    same_at (bears labels (exported name)) (exported name) _ _
    (λ e. same (length labels) (suc (length labels)) labels (exported name)
    (omega (arith, reach_small labels (exported name), less labels name e)) (omega (arith, reach_small labels (exported name), less labels name e)))

pub passed_on : (labels : List Pair) (n : List ℕ) → bears labels n ≡ true → free_from labels n ≡ free_from labels (exported n)
unfolding free_from free_name
passed_on labels n e = rest_of (bears labels n) n _ e ∙ next_name labels n
  where
    rest_of : (b : Bool) (x : List ℕ) (r : Option (List ℕ)) → b ≡ true → cond (not b) (Some x) r ≡ r
    rest_of true x r e = refl
    rest_of false x r e = absurd cc

pub stops_at : (labels : List Pair) (n : List ℕ) → bears labels n ≡ false → free_from labels n ≡ Some n
unfolding free_from
stops_at labels n e = first_of (bears labels n) n _ e
  where
    first_of : (b : Bool) (x : List ℕ) (r : Option (List ℕ)) → b ≡ false → cond (not b) (Some x) r ≡ Some x
    first_of true x r e = absurd cc
    first_of false x r e = refl

some_is : (x y : List ℕ) → Some x ≡ Some y → x ≡ y
some_is x y e = cc

free_at : (labels : List Pair) (m n : List ℕ) (r : Option (List ℕ)) (b : Bool) → bears labels m ≡ b → (r ≡ Some n → bears labels n ≡ false) →
    cond (not b) (Some m) r ≡ Some n → bears labels n ≡ false
free_at labels m n r true is more e = more e
free_at labels m n r false is more e = subst (λ x. bears labels x ≡ false) (some_is m n e) is

found_free : (labels : List Pair) (names : List (List ℕ)) (n : List ℕ) → find (is_free labels) names ≡ Some n → bears labels n ≡ false
found_free labels [] n e = absurd cc
found_free labels (m ∷ ms) n e = free_at labels m n (find (is_free labels) ms) (bears labels m) refl (found_free labels ms n) e

-- no label bears the free name
pub free_name_is_free : (labels : List Pair) (name n : List ℕ) → free_name labels name ≡ Some n → bears labels n ≡ false
unfolding free_name
free_name_is_free labels name n e = found_free labels (exported_names (suc (length labels)) name) n e
