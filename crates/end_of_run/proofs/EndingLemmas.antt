-- Of the ending of a life among those that were added.
use Rattle.std.proofs.Common.{◌≡◌, ℕ, suc, ℤ, Bool, true, false, eqb, List, [], ◌∷◌, ◌++◌, ◌<◌, ◌≤◌, length, get_or, set, refl, sym, ap, ◌∙◌, subst, arith}
use Rattle.std.specs.Prelude.{Option, Some, None, slice_get}
use Rattle.std.specs.List.{position_or_len}
use Rattle.std.specs.Option.{option_map_or}
use Rattle.std.proofs.lemmas.Bool.{eqb-false, eqb-true}
use Rattle.std.proofs.lemmas.Option.{slice_get-get_or, slice_get_past}
use Rattle.report_samples.specs.declared.closing.Closing.{Closing}
use Rattle.end_of_run.specs.Endings.{EndingView, IsOneEach, ending_of, is_due, is_life_due, is_of, swept, swept_life, untaken}

-- how many stand before that of a life
abbrev pub place : ℕ → List EndingView → ℕ
place life es = position_or_len (is_of life) es

-- one more does, in front of the others
place-more : (life : ℕ) (e : EndingView) (es : List EndingView) → is_of life e ≡ false → place life (e ∷ es) ≡ suc (place life es)
place-more life e es h = rw h (omega arith)

place-here : (life : ℕ) (e : EndingView) (es : List EndingView) → is_of life e ≡ true → place life (e ∷ es) ≡ 0
place-here life e es h = rw h refl

found-more : (life : ℕ) (e : EndingView) (es : List EndingView) → is_of life e ≡ false → ending_of life (e ∷ es) ≡ ending_of life es
found-more life e es h = rw h refl

found-here : (life : ℕ) (e : EndingView) (es : List EndingView) → is_of life e ≡ true → ending_of life (e ∷ es) ≡ Some e
found-here life e es h = rw h refl

-- there it stands, if it was added
pub at_place : (life : ℕ) (es : List EndingView) → slice_get es (place life es) ≡ ending_of life es
at_place life [] = refl
at_place life (e ∷ es) = by_test (at_place life es) (is_of life e) refl
  where
    by_test : slice_get es (place life es) ≡ ending_of life es → (b : Bool) → is_of life e ≡ b → slice_get (e ∷ es) (place life (e ∷ es)) ≡ ending_of life (e ∷ es)
    by_test rest true h = ap (slice_get (e ∷ es)) (place-here life e es h) ∙ sym (found-here life e es h)
    by_test rest false h = ap (slice_get (e ∷ es)) (place-more life e es h) ∙ rest ∙ sym (found-more life e es h)

-- a sweep of one life, at the first of them
swept-here : (life : ℕ) (m : ℤ) (e : EndingView) (es : List EndingView) → is_of life e ≡ true → swept_life life m (e ∷ es) ≡ swept m e ∷ swept_life life m es
swept-here life m e es h = rw h refl

swept-more : (life : ℕ) (m : ℤ) (e : EndingView) (es : List EndingView) → is_of life e ≡ false → swept_life life m (e ∷ es) ≡ e ∷ swept_life life m es
swept-more life m e es h = rw h refl

-- where that life has no ending, all are as before
pub none_swept : (life : ℕ) (m : ℤ) (es : List EndingView) → ending_of life es ≡ None → swept_life life m es ≡ es
none_swept life m [] n = refl
none_swept life m (e ∷ es) n = by_test (is_of life e) refl (none_swept life m es)
  where
    by_test : (b : Bool) → is_of life e ≡ b → (ending_of life es ≡ None → swept_life life m es ≡ es) → swept_life life m (e ∷ es) ≡ e ∷ es
    by_test true h rest = let no : Some e ≡ None = sym (found-here life e es h) ∙ n in absurd cc
    by_test false h rest = swept-more life m e es h ∙ ap (λ (l : List EndingView). e ∷ l) (rest (sym (found-more life e es h) ∙ n))

-- else the one at its place is swept
pub swept_at : (life : ℕ) (m : ℤ) (es : List EndingView) → IsOneEach es → (e : EndingView) → slice_get es (place life es) ≡ Some e →
    set es (place life es) (swept m e) ≡ swept_life life m es
swept_at life m [] one e at = refl
swept_at life m (x ∷ es) one e at = by_test (is_of life x) refl (swept_at life m es one.1 e)
  where
    by_test : (b : Bool) → is_of life x ≡ b → (slice_get es (place life es) ≡ Some e → set es (place life es) (swept m e) ≡ swept_life life m es) →
        set (x ∷ es) (place life (x ∷ es)) (swept m e) ≡ swept_life life m (x ∷ es)
    by_test true h rest =
        let first : Some x ≡ Some e = sym (ap (slice_get (x ∷ es)) (place-here life x es h)) ∙ at in
        let same : x ≡ e = cc in
        let its : ending_of life es ≡ None = subst (λ (n : ℕ). ending_of n es ≡ None) (eqb-true x.closing.life life h) one.0 in
        ap (λ (k : ℕ). set (x ∷ es) k (swept m e)) (place-here life x es h)
        ∙ ap (λ (y : EndingView). swept m y ∷ es) (sym same)
        ∙ ap (λ (l : List EndingView). swept m x ∷ l) (sym (none_swept life m es its)) ∙ sym (swept-here life m x es h)
    by_test false h rest =
        ap (λ (k : ℕ). set (x ∷ es) k (swept m e)) (place-more life x es h)
        ∙ ap (λ (l : List EndingView). x ∷ l) (rest (sym (ap (slice_get (x ∷ es)) (place-more life x es h)) ∙ at)) ∙ sym (swept-more life m x es h)

-- a sweep changes no closing
kept : (life : ℕ) (m : ℤ) (e : EndingView) → (swept m e).closing ≡ e.closing
kept life m e = by_test (is_due m e) refl
  where
    by_test : (b : Bool) → is_due m e ≡ b → (swept m e).closing ≡ e.closing
    by_test true h = rw h refl
    by_test false h = rw h refl

-- nor which lives have an ending
none_after : (life other : ℕ) (m : ℤ) (es : List EndingView) → ending_of other es ≡ None → ending_of other (swept_life life m es) ≡ None
none_after life other m [] n = refl
none_after life other m (e ∷ es) n = by_test (is_of other e) refl (is_of life e) refl (none_after life other m es)
  where
    by_test : (b : Bool) → is_of other e ≡ b → (d : Bool) → is_of life e ≡ d → (ending_of other es ≡ None → ending_of other (swept_life life m es) ≡ None) →
        ending_of other (swept_life life m (e ∷ es)) ≡ None
    by_test true h d g rest = let no : Some e ≡ None = sym (found-here other e es h) ∙ n in absurd cc
    by_test false h true g rest =
        let still : is_of other (swept m e) ≡ false = ap (λ (c : Closing). eqb c.life other) (kept life m e) ∙ h in
        ap (ending_of other) (swept-here life m e es g) ∙ found-more other (swept m e) (swept_life life m es) still
        ∙ rest (sym (found-more other e es h) ∙ n)
    by_test false h false g rest =
        ap (ending_of other) (swept-more life m e es g) ∙ found-more other e (swept_life life m es) h ∙ rest (sym (found-more other e es h) ∙ n)

-- no two are of one life after it
pub one_swept : (life : ℕ) (m : ℤ) (es : List EndingView) → IsOneEach es → IsOneEach (swept_life life m es)
one_swept life m [] one = tt
one_swept life m (e ∷ es) one = by_test (is_of life e) refl (one_swept life m es one.1)
  where
    by_test : (b : Bool) → is_of life e ≡ b → IsOneEach (swept_life life m es) → IsOneEach (swept_life life m (e ∷ es))
    by_test true h rest =
        let none : ending_of (swept m e).closing.life (swept_life life m es) ≡ None =
        ap (λ (c : Closing). ending_of c.life (swept_life life m es)) (kept life m e) ∙ none_after life e.closing.life m es one.0 in
        subst IsOneEach (sym (swept-here life m e es h)) (none, rest)
    by_test false h rest = subst IsOneEach (sym (swept-more life m e es h)) (none_after life e.closing.life m es one.0, rest)

turned : (a b : ℕ) → eqb a b ≡ false → eqb b a ≡ false
turned a b h = by_test (eqb b a) refl
  where
    by_test : (t : Bool) → eqb b a ≡ t → eqb b a ≡ false
    by_test true g = absurd (eqb-false a b h (sym (eqb-true b a g)))
    by_test false g = g

-- a life without an ending gets none from that of another
none_added : (life : ℕ) (c : Closing) (es : List EndingView) → ending_of life es ≡ None → is_of life (untaken c) ≡ false → ending_of life (es ++ untaken c ∷ []) ≡ None
none_added life c [] n other = found-more life (untaken c) [] other
none_added life c (e ∷ es) n other = by_test (is_of life e) refl (none_added life c es)
  where
    by_test : (b : Bool) → is_of life e ≡ b → (ending_of life es ≡ None → is_of life (untaken c) ≡ false → ending_of life (es ++ untaken c ∷ []) ≡ None) →
        ending_of life ((e ∷ es) ++ untaken c ∷ []) ≡ None
    by_test true h rest = let no : Some e ≡ None = sym (found-here life e es h) ∙ n in absurd cc
    by_test false h rest = found-more life e (es ++ untaken c ∷ []) h ∙ rest (sym (found-more life e es h) ∙ n) other

-- nor after one more was added
pub one_added : (c : Closing) (es : List EndingView) → ending_of c.life es ≡ None → IsOneEach es → IsOneEach (es ++ untaken c ∷ [])
one_added c [] n one = (refl, tt)
one_added c (e ∷ es) n one = by_test (is_of c.life e) refl (one_added c es)
  where
    by_test : (b : Bool) → is_of c.life e ≡ b → (ending_of c.life es ≡ None → IsOneEach es → IsOneEach (es ++ untaken c ∷ [])) → IsOneEach ((e ∷ es) ++ untaken c ∷ [])
    by_test true h rest = let no : Some e ≡ None = sym (found-here c.life e es h) ∙ n in absurd cc
    by_test false h rest =
        (none_added e.closing.life c es one.0 (turned e.closing.life c.life h), rest (sym (found-more c.life e es h) ∙ n) one.1)

-- an ending that was taken is not due again
pub taken_once : (life : ℕ) (m later : ℤ) (es : List EndingView) → is_life_due life m es ≡ true → is_life_due life later (swept_life life m es) ≡ false
taken_once life m later [] d = absurd cc
taken_once life m later (e ∷ es) d = by_test (is_of life e) refl (taken_once life m later es)
  where
    by_test : (b : Bool) → is_of life e ≡ b → (is_life_due life m es ≡ true → is_life_due life later (swept_life life m es) ≡ false) →
        is_life_due life later (swept_life life m (e ∷ es)) ≡ false
    by_test true h rest =
        let due : is_due m e ≡ true = sym (ap (λ (o : Option EndingView). option_map_or (is_due m) o false) (found-here life e es h)) ∙ d in
        let taken : swept m e ≡ record e { taken = true } = rw due refl in
        ap (is_life_due life later) (swept-here life m e es h ∙ ap (λ (y : EndingView). y ∷ swept_life life m es) taken)
        ∙ ap (λ (o : Option EndingView). option_map_or (is_due later) o false) (found-here life (record e { taken = true }) (swept_life life m es) h)
    by_test false h rest =
        let due : is_life_due life m es ≡ true = sym (ap (λ (o : Option EndingView). option_map_or (is_due m) o false) (found-more life e es h)) ∙ d in
        ap (is_life_due life later) (swept-more life m e es h)
        ∙ ap (λ (o : Option EndingView). option_map_or (is_due later) o false) (found-more life e (swept_life life m es) h) ∙ rest due

-- what stands at its place
pub there : (life : ℕ) (es : List EndingView) (i : ℕ) (e : EndingView) → i ≡ place life es → i < length es → e ≡ get_or es i e → ending_of life es ≡ Some e
there life es i e at low is = sym (at_place life es) ∙ ap (slice_get es) (sym at) ∙ slice_get-get_or es i e low ∙ ap Some (sym is)

pub none_there : (life : ℕ) (es : List EndingView) (i : ℕ) → i ≡ place life es → length es ≤ i → ending_of life es ≡ None
none_there life es i at past = sym (at_place life es) ∙ ap (slice_get es) (sym at) ∙ slice_get_past es i past

pub swept_there : (life : ℕ) (m : ℤ) (es : List EndingView) → IsOneEach es → (i : ℕ) (e new : EndingView) → i ≡ place life es → ending_of life es ≡ Some e → new ≡ swept m e →
    set es i new ≡ swept_life life m es
swept_there life m es one i e new at is new_is =
    ap (set es i) new_is ∙ ap (λ (k : ℕ). set es k (swept m e)) at ∙ swept_at life m es one e (at_place life es ∙ is)
