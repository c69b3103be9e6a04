-- One name more in a list with the places of names.
use Rattle.std.proofs.Common.{◌≡◌, ℕ, suc, ◌+◌, Bool, true, false, cond, List, [], ◌∷◌, ◌++◌, length, Option, Some, None, position, refl, sym, ap, ap₂, ◌∙◌, arith}
use Rattle.std.specs.Prelude.{is_some, option_map, if◌then◌else◌}
use Rattle.std.specs.Str.{bytes_eq}
use Rattle.std.proofs.lemmas.Bool.{false≢true}
use Rattle.std.proofs.lemmas.Slice.Eq.{bytes_eq-Decides}
use Rattle.life_roll.specs.Names.{noted, place_in}

noted_next : (o : Option ℕ) (b : Bool) (q r : ℕ) → r ≡ q + 1 → option_map (λ p. p + 1) (noted o b q) ≡ noted (option_map (λ p. p + 1) o) b r
noted_next (Some p) b q r h = refl
noted_next None true q r h = ap (λ n. Some n) (sym h)
noted_next None false q r h = refl

pub place_push : (n : List ℕ) (xs : List (List ℕ)) (x : List ℕ) → place_in n (xs ++ x ∷ []) ≡ noted (place_in n xs) (bytes_eq n x) (length xs)
place_push n [] x = refl
place_push n (y ∷ ys) x = of (place_push n ys x) (bytes_eq n y)
  where
    of : place_in n (ys ++ x ∷ []) ≡ noted (place_in n ys) (bytes_eq n x) (length ys) → (b : Bool) →
        (if b then Some 0 else option_map (λ p. p + 1) (place_in n (ys ++ x ∷ [])))
        ≡ noted (if b then Some 0 else option_map (λ p. p + 1) (place_in n ys)) (bytes_eq n x) (suc (length ys))
    of e true = refl
    of e false = ap (option_map (λ p. p + 1)) e ∙ noted_next (place_in n ys) (bytes_eq n x) (length ys) _ (omega arith)

-- what a look-up gives after a new name, and after one that is there
module _ (f : List ℕ → Option ℕ) (name n : List ℕ) (q : ℕ) where
  same_value : bytes_eq name n ≡ true → f n ≡ f name
  same_value e = ap f (sym ((bytes_eq-Decides name n).0 e))

  turned : (b : Bool) → bytes_eq name n ≡ b → bytes_eq n name ≡ b
  turned true e = (bytes_eq-Decides n name).1 (sym ((bytes_eq-Decides name n).0 e))
  turned false e = of (bytes_eq n name) refl
    where
      of : (b : Bool) → bytes_eq n name ≡ b → bytes_eq n name ≡ false
      of false h = h
      of true h = absurd (false≢true (sym e ∙ (bytes_eq-Decides name n).1 (sym ((bytes_eq-Decides n name).0 h))))

  none_of : (o : Option ℕ) → is_some o ≡ false → o ≡ None
  none_of None h = refl
  none_of (Some p) h = absurd (false≢true (sym h))

  other : (o : Option ℕ) → o ≡ noted o false q
  other None = refl
  other (Some p) = refl

  pub noted_new : (b : Bool) → bytes_eq name n ≡ b → is_some (f name) ≡ false → cond b (Some q) (f n) ≡ noted (f n) (bytes_eq n name) q
  noted_new true e h = ap₂ (λ o b. noted o b q) (sym (same_value e ∙ none_of (f name) h)) (sym (turned true e))
  noted_new false e h = other (f n) ∙ ap (λ b. noted (f n) b q) (sym (turned false e))

  there : (o : Option ℕ) (b : Bool) → is_some o ≡ true → o ≡ noted o b q
  there (Some p) b h = refl
  there None b h = absurd (false≢true h)

  pub noted_again : (b : Bool) → bytes_eq name n ≡ b → is_some (f name) ≡ true → f n ≡ noted (f n) (bytes_eq n name) q
  noted_again true e h = there (f n) (bytes_eq n name) (ap is_some (same_value e) ∙ h)
  noted_again false e h = other (f n) ∙ ap (λ b. noted (f n) b q) (sym (turned false e))
