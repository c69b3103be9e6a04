-- Which scrapes are in flight after a finish, and after the wanted targets were looked at.
use Rattle.std.proofs.Common.{◌≡◌, ◌≢◌, ℕ, zero, suc, ℤ, Bool, true, false, not, ◌&&◌, cond, eqb, List, [], ◌∷◌, ◌++◌, map, filter, Option, Some, None, option_map, slice_get, refl, sym, ap, ◌∙◌, set}
use Rattle.std.specs.Prelude.{option_and_then}
use Rattle.std.specs.Option.{option_map_or}
use Rattle.std.proofs.lemmas.Bool.{eqb-true, eqb-false, ne_eqb}
use Rattle.std.proofs.lemmas.Option.{slice_get-map}
use Rattle.life_roll.specs.declared.schedule.InFlight.{InFlight}
use Rattle.life_roll.specs.declared.schedule.Schedule.{Schedule}
use Rattle.life_roll.specs.declared.seats.Seat.{Seat}
use Rattle.life_roll.specs.declared.wanted.Terms.{Terms}
use Rattle.life_roll.specs.declared.wanted.Wanted.{Wanted}
use Rattle.life_roll.specs.declared.lives.Life.{Life}
use Rattle.life_roll.specs.declared.lives.Start.{Start}
use Rattle.life_roll.specs.declared.answers.Flight.{Flight}
use Rattle.journal_text.specs.Lines.{number}
use Rattle.life_roll.specs.Schedules.{is_open, landed, changed_at, closed_at}
use Rattle.life_roll.specs.Wants.{terms_at}
use Rattle.life_roll.specs.Rolls.{RollView, rescheduled, open_after, schedule_after, life_after, begun_life, begins, olds_after, lives_after}
use Rattle.life_roll.specs.Flights.{is_flight, flies, flight_from, flight_of, finished, freed, goes_on, disturbs, flight_after}

-- the items, where the one at n is changed by f
abbrev changed_one : {X : Type 0} → ℕ → (X → X) → List X → List X
changed_one n f xs = option_map_or (λ x. set xs n (f x)) (slice_get xs n) xs

changed_rest : {X : Type 0} (n : ℕ) (f : X → X) (x : X) (xs : List X) (o : Option X) →
    option_map_or (λ y. set (x ∷ xs) (suc n) (f y)) o (x ∷ xs) ≡ x ∷ option_map_or (λ y. set xs n (f y)) o xs
changed_rest n f x xs None = refl
changed_rest n f x xs (Some y) = refl

at_same : {X : Type 0} (n : ℕ) (f : X → X) (xs : List X) → slice_get (changed_one n f xs) n ≡ option_map f (slice_get xs n)
at_same n f [] = refl
at_same zero f (x ∷ xs) = refl
at_same (suc n) f (x ∷ xs) = ap (λ ys. slice_get ys (suc n)) (changed_rest n f x xs (slice_get xs n)) ∙ at_same n f xs

at_other : {X : Type 0} (n j : ℕ) (f : X → X) (xs : List X) → j ≢ n → slice_get (changed_one n f xs) j ≡ slice_get xs j
at_other n j f [] ne = refl
at_other zero zero f (x ∷ xs) ne = absurd (ne refl)
at_other zero (suc j) f (x ∷ xs) ne = refl
at_other (suc n) zero f (x ∷ xs) ne = ap (λ ys. slice_get ys zero) (changed_rest n f x xs (slice_get xs n))
at_other (suc n) (suc j) f (x ∷ xs) ne = ap (λ ys. slice_get ys (suc j)) (changed_rest n f x xs (slice_get xs n)) ∙ at_other n j f xs (λ e. ne (ap suc e))

and_true : (b : Bool) → b ≡ (b && true)
and_true true = refl
and_true false = refl

and_false : (b : Bool) → false ≡ (b && false)
and_false true = refl
and_false false = refl

-- a life has one scrape in flight at most
one_flight : (t k : ℕ) (o : Option Life) → flies t o ≡ true → k ≢ t → flies k o ≡ false
one_flight t k None e ne = refl
one_flight t k (Some l) e ne = by l.schedule.flight e
  where
    by : (f : Option InFlight) → is_flight t f ≡ true → is_flight k f ≡ false
    by None e = refl
    by (Some f) e = ne_eqb f.ticket k (λ same. ne (sym same ∙ eqb-true f.ticket t e))

none_flies : (k : ℕ) (o : Option Life) → flies k (option_map (λ (l : Life). record l { schedule = landed l.schedule }) o) ≡ false
none_flies k None = refl
none_flies k (Some l) = refl

-- what a flight says of its life
abbrev Fits : List Life → ℕ → Option Flight → Type 0
Fits ls t None = Unit {0}
Fits ls t (Some f) = f.valid ≡ flies t (slice_get ls f.life)

fits : (ls : List Life) (t : ℕ) (o : Option Start) → Fits ls t (option_and_then (flight_from ls t) o)
fits ls t None = tt
fits ls t (Some s) = by s.landed
  where
    by : (b : Bool) → Fits ls t (cond b None (Some (record { life = s.life; moment = s.moment; valid = flies t (slice_get ls s.life) })))
    by true = tt
    by false = refl

freed_flies : (ls : List Life) (t k j : ℕ) (o : Option Flight) → Fits ls t o → k ≢ t → flies k (slice_get (freed o ls) j) ≡ flies k (slice_get ls j)
freed_flies ls t k j None h ne = refl
freed_flies ls t k j (Some f) h ne = by f.valid refl
  where
    here : (b : Bool) → f.valid ≡ true → eqb j f.life ≡ b → flies k (slice_get (rescheduled f.life landed ls) j) ≡ flies k (slice_get ls j)
    here true v e =
        let same = eqb-true j f.life e in
        ap (λ i. flies k (slice_get (rescheduled f.life landed ls) i)) same
        ∙ (ap (flies k) (at_same f.life (λ (l : Life). record l { schedule = landed l.schedule }) ls)
        ∙ (none_flies k (slice_get ls f.life)
        ∙ sym (ap (λ i. flies k (slice_get ls i)) same ∙ one_flight t k (slice_get ls f.life) (sym h ∙ v) ne)))
    here false v e = ap (flies k) (at_other f.life j (λ (l : Life). record l { schedule = landed l.schedule }) ls (eqb-false j f.life e))

    by : (b : Bool) → f.valid ≡ b → flies k (slice_get (cond b (rescheduled f.life landed ls) ls) j) ≡ flies k (slice_get ls j)
    by true v = here (eqb j f.life) v refl
    by false v = refl

valid_is : (l m : List Life) (k : ℕ) (o : Option Start) → ((j : ℕ) → flies k (slice_get l j) ≡ flies k (slice_get m j)) →
    option_and_then (flight_from l k) o ≡ option_and_then (flight_from m k) o
valid_is l m k None same = refl
valid_is l m k (Some s) same = ap (λ v. cond s.landed None (Some (record { life = s.life; moment = s.moment; valid = v }))) (same s.life)

landed_none : (ls : List Life) (k : ℕ) (o : Option Start) → option_and_then (flight_from ls k) (option_map (λ (s : Start). record s { landed = true }) o) ≡ None
landed_none ls k None = refl
landed_none ls k (Some s) = refl

-- a finish takes the flight of its ticket, and no other
pub landed_flights : (r : RollView) (t k : ℕ) →
    option_and_then (flight_from (freed (flight_of r t) r.lives) k) (slice_get (finished t r.started) k) ≡ cond (eqb k t) None (flight_of r k)
landed_flights r t k = by (eqb k t) refl
  where
    by : (b : Bool) → eqb k t ≡ b → option_and_then (flight_from (freed (flight_of r t) r.lives) k) (slice_get (finished t r.started) k) ≡ cond b None (flight_of r k)
    by true e =
        ap (λ i. option_and_then (flight_from (freed (flight_of r t) r.lives) k) (slice_get (finished t r.started) i)) (eqb-true k t e)
        ∙ (ap (option_and_then (flight_from (freed (flight_of r t) r.lives) k)) (at_same t (λ (s : Start). record s { landed = true }) r.started)
        ∙ landed_none (freed (flight_of r t) r.lives) k (slice_get r.started t))
    by false e =
        let ne = eqb-false k t e in
        ap (option_and_then (flight_from (freed (flight_of r t) r.lives) k)) (at_other t k (λ (s : Start). record s { landed = true }) r.started ne)
        ∙ valid_is (freed (flight_of r t) r.lives) r.lives k (slice_get r.started k)
        (λ j. freed_flies r.lives t k j (flight_of r t) (fits r.lives t (slice_get r.started t)) ne)

-- lives that have nothing in flight change no flight
flies_append : (k : ℕ) (xs ys : List Life) (j : ℕ) → ((i : ℕ) → flies k (slice_get ys i) ≡ false) → flies k (slice_get (xs ++ ys) j) ≡ flies k (slice_get xs j)
flies_append k [] ys j none = none j
flies_append k (x ∷ xs) ys zero none = refl
flies_append k (x ∷ xs) ys (suc j) none = flies_append k xs ys j none

none_new : (k : ℕ) (m : ℤ) (o : Option Wanted) → flies k (option_map (begun_life m) o) ≡ false
none_new k m None = refl
none_new k m (Some w) = refl

old_flies : (k : ℕ) (m : ℤ) (t : Option Terms) (s : Schedule) → is_flight k (schedule_after m t s).flight ≡ (is_flight k s.flight && not (is_open s && not (goes_on t)))
old_flies k m t s = by (is_open s) t
  where
    terms_by : (t : Terms) (b c : Bool) → is_flight k (cond b (cond c s (changed_at (number m) t.interval s)) (closed_at m s)).flight ≡ (is_flight k s.flight && not (not (b && c)))
    terms_by t true true = and_true (is_flight k s.flight)
    terms_by t true false = and_false (is_flight k s.flight)
    terms_by t false c = and_false (is_flight k s.flight)

    by : (b : Bool) (t : Option Terms) → is_flight k (cond b (open_after m t s) s).flight ≡ (is_flight k s.flight && not (b && not (goes_on t)))
    by false t = and_true (is_flight k s.flight)
    by true None = and_false (is_flight k s.flight)
    by true (Some t) = terms_by t t.compatible t.same

life_flies : (k : ℕ) (m : ℤ) (terms : Seat → Option Terms) (o : Option Life) →
    flies k (option_map (life_after m terms) o) ≡ (flies k o && not (option_map_or (disturbs terms) o false))
life_flies k m terms None = refl
life_flies k m terms (Some l) = old_flies k m (terms l.seat) l.schedule

lives_fly : (k : ℕ) (m : ℤ) (ws : List Wanted) (ls : List Life) (j : ℕ) →
    flies k (slice_get (lives_after m ws ls) j) ≡ (flies k (slice_get ls j) && not (option_map_or (disturbs (terms_at ws)) (slice_get ls j) false))
lives_fly k m ws ls j =
    let vs = filter (begins (olds_after m ws ls)) ws in
    flies_append k (olds_after m ws ls) (map (begun_life m) vs) j (λ i. ap (flies k) (slice_get-map (begun_life m) vs i) ∙ none_new k m (slice_get vs i))
    ∙ (ap (flies k) (slice_get-map (life_after m (terms_at ws)) ls j) ∙ life_flies k m (terms_at ws) (slice_get ls j))

-- the wanted targets cancel the flights of the lives that they close or change, and no other
pub synced_flights : (m : ℤ) (ws : List Wanted) (ls : List Life) (k : ℕ) (o : Option Start) →
    option_and_then (flight_from (lives_after m ws ls) k) o ≡ option_map (flight_after (terms_at ws) ls) (option_and_then (flight_from ls k) o)
synced_flights m ws ls k None = refl
synced_flights m ws ls k (Some s) = by s.landed
  where
    by : (b : Bool) → cond b None (Some (record { life = s.life; moment = s.moment; valid = flies k (slice_get (lives_after m ws ls) s.life) }))
        ≡ option_map (flight_after (terms_at ws) ls) (cond b None (Some (record { life = s.life; moment = s.moment; valid = flies k (slice_get ls s.life) })))
    by true = refl
    by false = ap (λ v. Some (record { life = s.life; moment = s.moment; valid = v })) (lives_fly k m ws ls s.life)
