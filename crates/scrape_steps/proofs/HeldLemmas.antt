-- One life more among those that stay open.
use Rattle.std.proofs.Common.{◌≡◌, ℕ, ℤ, ◌+◌, ◌<◌, Bool, ◌||◌, false, true, List, [], ◌∷◌, ◌++◌, length, take, get_or, refl, sym, ap, ap₂, ◌∙◌, arith}
use Rattle.std.specs.List.{list_any}
use Rattle.std.proofs.lemmas.List.{take_more, length-take}
use Rattle.std.proofs.lemmas.List.Folds.{list_any-append}
use Rattle.label_set.specs.declared.texts.Pair.{Pair}
use Rattle.scrape_steps.specs.declared.acts.Transition.{Transition}
use Rattle.scrape_machine.specs.declared.lives.Life.{Life}
use Rattle.scrape_machine.specs.Lives.{life_after}
use Rattle.scrape_steps.specs.Plans.{local_of, after_each, sits}

after_push : (m : ℤ) (fs : List Transition) (ls : List Life) (f : Transition) (l : Life) → length fs ≡ length ls →
    after_each m (fs ++ f ∷ []) (ls ++ l ∷ []) ≡ after_each m fs ls ++ life_after (local_of m f) l ∷ []
after_push m [] [] f l h = refl
after_push m [] (k ∷ ks) f l h = absurd (omega arith)
after_push m (g ∷ gs) [] f l h = absurd (omega arith)
after_push m (g ∷ gs) (k ∷ ks) f l h = ap (λ zs. life_after (local_of m g) k ∷ zs) (after_push m gs ks f l (omega arith))

pub after_more : (m : ℤ) (fs : List Transition) (ls : List Life) (i : ℕ) (f : Transition) (l : Life) → i < length fs → i < length ls → f ≡ get_or fs i f → l ≡ get_or ls i l →
    after_each m (take (i + 1) fs) (take (i + 1) ls) ≡ after_each m (take i fs) (take i ls) ++ life_after (local_of m f) l ∷ []
after_more m fs ls i f l hf hl af al =
    ap₂ (after_each m) (take_more fs i f hf ∙ ap (λ y. take i fs ++ y ∷ []) (sym af)) (take_more ls i l hl ∙ ap (λ y. take i ls ++ y ∷ []) (sym al))
    ∙ after_push m (take i fs) (take i ls) f l (let a = length-take i fs in let b = length-take i ls in omega arith)

or_comm : (a b : Bool) → (a || (b || false)) ≡ (b || a)
or_comm true true = refl
or_comm true false = refl
or_comm false true = refl
or_comm false false = refl

pub held_more : (m : ℤ) (names : List (List ℕ)) (place : ℕ) (identity : List Pair) (fs : List Transition) (ls : List Life) (i : ℕ) (f : Transition) (l : Life) (old new : Bool) →
    i < length fs → i < length ls → f ≡ get_or fs i f → l ≡ get_or ls i l → old ≡ list_any (sits names place identity) (after_each m (take i fs) (take i ls)) →
    new ≡ (sits names place identity (life_after (local_of m f) l) || old) →
    new ≡ list_any (sits names place identity) (after_each m (take (i + 1) fs) (take (i + 1) ls))
held_more m names place identity fs ls i f l old new hf hl af al ho hn =
    hn ∙ ap (λ b. sits names place identity (life_after (local_of m f) l) || b) ho
    ∙ sym (ap (list_any (sits names place identity)) (after_more m fs ls i f l hf hl af al)
    ∙ list_any-append (sits names place identity) (after_each m (take i fs) (take i ls)) (life_after (local_of m f) l ∷ [])
    ∙ or_comm (list_any (sits names place identity) (after_each m (take i fs) (take i ls))) (sits names place identity (life_after (local_of m f) l)))
