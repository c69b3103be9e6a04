-- One more target that is wanted.
use Rattle.std.proofs.Common.{◌≡◌, ℕ, ◌+◌, ◌<◌, Bool, true, false, ◌&&◌, cond, List, [], ◌∷◌, ◌++◌, length, take, get_or, Option, Some, None, is_some, option_map, refl, sym, ap, ap₂, ◌∙◌}
use Rattle.std.specs.Option.{option_or}
use Rattle.std.proofs.lemmas.Bool.{and_parts, eqb-true, eq-eqb, false≢true}
use Rattle.std.proofs.lemmas.List.{take_more}
use Rattle.std.proofs.lemmas.List.Folds.{find-append}
use Rattle.label_set.specs.Same.{sets_decide}
use Rattle.life_roll.specs.declared.seats.Seat.{Seat}
use Rattle.life_roll.specs.declared.wanted.Terms.{Terms}
use Rattle.life_roll.specs.declared.wanted.Wanted.{Wanted}
use Rattle.life_roll.specs.Wants.{same_seat, seat_of, terms_of, terms_at}

-- targets that comparing doesn't tell apart are the same
pub same_target : (s t : Seat) → same_seat s t ≡ true → s ≡ t
same_target s t h =
    let p = and_parts _ _ h in
    let j = eqb-true s.job t.job p.0 in
    let e = (sets_decide s.identity t.identity).0 p.1 in
    λ i. record { job = j i; identity = e i }

pub same_itself : (s : Seat) → same_seat s s ≡ true
same_itself s = ap₂ ◌&&◌ (eq-eqb s.job s.job refl) ((sets_decide s.identity s.identity).1 refl)

pub same_turned : (s t : Seat) → same_seat s t ≡ same_seat t s
same_turned s t = by (same_seat s t) (same_seat t s) refl refl
  where
    by : (a b : Bool) → same_seat s t ≡ a → same_seat t s ≡ b → a ≡ b
    by true true e f = refl
    by false false e f = refl
    by true false e f = sym (same_itself s) ∙ (ap (λ x. same_seat x s) (same_target s t e) ∙ f)
    by false true e f = sym e ∙ (ap (same_seat s) (same_target t s f) ∙ same_itself s)

or_none : {X : Type 0} (o : Option X) → option_or o None ≡ o
or_none None = refl
or_none (Some x) = refl

-- a target that had no terms takes these
pub first_stands : (f g : Seat → Option Terms) (k : Seat) (t : Terms) → f k ≡ None → ((s : Seat) → g s ≡ cond (same_seat k s) (Some t) (f s)) →
    (s : Seat) → g s ≡ option_or (f s) (cond (same_seat s k) (Some t) None)
first_stands f g k t none new s = new s ∙ (ap (λ b. cond b (Some t) (f s)) (same_turned k s) ∙ by (same_seat s k) refl)
  where
    by : (b : Bool) → same_seat s k ≡ b → cond b (Some t) (f s) ≡ option_or (f s) (cond b (Some t) None)
    by true e = sym (ap (λ o. option_or o (Some t)) (ap f (same_target s k e) ∙ none))
    by false e = sym (or_none (f s))

-- one that has terms keeps them
pub first_kept : (f : Seat → Option Terms) (k : Seat) (t : Terms) → is_some (f k) ≡ true → (s : Seat) → f s ≡ option_or (f s) (cond (same_seat s k) (Some t) None)
first_kept f k t some s = by (same_seat s k) refl
  where
    kept : (o p : Option Terms) → is_some o ≡ true → o ≡ option_or o p
    kept None p e = absurd (false≢true e)
    kept (Some x) p e = refl

    by : (b : Bool) → same_seat s k ≡ b → f s ≡ option_or (f s) (cond b (Some t) None)
    by true e = kept (f s) (Some t) (ap (λ x. is_some (f x)) (same_target s k e) ∙ some)
    by false e = sym (or_none (f s))

map_or : {X Y : Type 0} (f : X → Y) (o p : Option X) → option_map f (option_or o p) ≡ option_or (option_map f o) (option_map f p)
map_or f None p = refl
map_or f (Some x) p = refl

map_if : {X Y : Type 0} (f : X → Y) (b : Bool) (x : X) → option_map f (cond b (Some x) None) ≡ cond b (Some (f x)) None
map_if f true x = refl
map_if f false x = refl

pub terms_more : (ws : List Wanted) (i : ℕ) (w : Wanted) (s : Seat) → i < length ws → w ≡ get_or ws i w →
    terms_at (take (i + 1) ws) s ≡ option_or (terms_at (take i ws) s) (cond (same_seat s (seat_of w)) (Some (terms_of w)) None)
terms_more ws i w s lt at =
    ap (λ vs. terms_at vs s) (take_more ws i w lt ∙ ap (λ x. take i ws ++ x ∷ []) (sym at))
    ∙ (ap (option_map terms_of) (find-append (λ (v : Wanted). same_seat s (seat_of v)) (take i ws) (w ∷ []))
    ∙ (map_or terms_of _ _
    ∙ ap (option_or (terms_at (take i ws) s)) (map_if terms_of (same_seat s (seat_of w)) w)))
