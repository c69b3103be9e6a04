-- Each ticket was given by an event that started a scrape.
use Rattle.std.proofs.Common.{◌≡◌, ℕ, ℤ, zero, suc, ◌+◌, Bool, true, false, ◌&&◌, ◌⊎◌, cond, List, [], ◌∷◌, ◌++◌, length, take, Option, Some, None, is_some, slice_get, slice_set, inl, inr, refl, sym, ap, ap₂, ◌∙◌, arith, eq-eqb}
use Rattle.std.specs.List.{filter}
use Rattle.std.proofs.lemmas.Bool.{false≢true}
use Rattle.journal_text.specs.declared.events.Event.{Event}
use Rattle.journal_text.specs.declared.events.Event.TheVariants.{Load, Targets, Tick, Sweep, Finish, Halt}
use Rattle.journal_text.specs.Lines.{number}
use Rattle.life_roll.specs.declared.schedule.InFlight.{InFlight}
use Rattle.jobs_in_force.specs.declared.jobs.InForce.{InForce}
use Rattle.scrape_machine.specs.declared.lives.Life.{Life}
use Rattle.scrape_machine.specs.declared.lives.StartedScrape.{StartedScrape}
use Rattle.scrape_machine.specs.declared.lives.TicketState.TheVariants.{NotStarted}
use Rattle.scrape_machine.specs.Machine.{World, beginning, starts_in, ticket_in_sweep, found_start, started_by, starts_from, ticked, finished, started_after, live_step, step, run, world_of}
use Rattle.scrape_laws.specs.Flights.{start_if, Starts, IsStarted, UnstartedLaw}

-- places in lists
set_some : {A : Type 0} (xs : List A) (j k : ℕ) (a : A) → is_some (slice_get (slice_set xs j a) k) ≡ is_some (slice_get xs k)
set_some [] j k a = refl
set_some (x ∷ xs) zero zero a = refl
set_some (x ∷ xs) zero (suc k) a = refl
set_some (x ∷ xs) (suc j) zero a = refl
set_some (x ∷ xs) (suc j) (suc k) a = set_some xs j k a

finished_some : (o : Option StartedScrape) (ss : List StartedScrape) (j k : ℕ) → is_some (slice_get (finished o ss j) k) ≡ is_some (slice_get ss k)
finished_some None ss j k = refl
finished_some (Some s) ss j k = set_some ss j k (record s { finished = true })

-- a place of a list, or of what is joined to it
abbrev Behind : {A : Type 0} → List A → List A → ℕ → Type 0
Behind xs ys k = (c : ℕ) × (k ≡ length xs + c) × (is_some (slice_get ys c) ≡ true)

append_some : {A : Type 0} (xs ys : List A) (k : ℕ) → is_some (slice_get (xs ++ ys) k) ≡ true → (is_some (slice_get xs k) ≡ true) ⊎ Behind xs ys k
append_some [] ys k h = inr (k, omega arith, h)
append_some (x ∷ xs) ys zero h = inl refl
append_some (x ∷ xs) ys (suc k) h = further (append_some xs ys k h)
  where
    further : (is_some (slice_get xs k) ≡ true) ⊎ Behind xs ys k → (is_some (slice_get xs k) ≡ true) ⊎ Behind (x ∷ xs) ys (suc k)
    further (inl e) = inl e
    further (inr b) = let e = b.1 in inr (b.0, omega (arith, e), b.2)

-- the life of a start of a sweep
pub record StartAt (jobs : List InForce) (m : ℕ) (ls : List Life) (c : ℕ) : Type 0 where
  pub place : ℕ
  pub life : Life
  pub at : slice_get ls place ≡ Some life
  pub starts : starts_in jobs m life ≡ true
  pub count : c ≡ length (filter (starts_in jobs m) (take place ls))

start_at : (jobs : List InForce) (m i : ℕ) (ls : List Life) (c : ℕ) → is_some (slice_get (starts_from jobs m i ls) c) ≡ true → StartAt jobs m ls c
start_at jobs m i [] c h = absurd (false≢true h)
start_at jobs m i (x ∷ xs) c h = by (starts_in jobs m x) refl c (λ d. start_at jobs m (i + 1) xs d) h
  where
    later : (b : Bool) (d : ℕ) → starts_in jobs m x ≡ b → (s : StartAt jobs m xs d) → StartAt jobs m (x ∷ xs) (cond b (suc d) d)
    later true d e s = record {
      place = suc s.place;
      life = s.life;
      at = s.at;
      starts = s.starts;
      count = ap (λ z. suc z) s.count ∙ sym (ap (λ b. length (cond b (x ∷ filter (starts_in jobs m) (take s.place xs)) (filter (starts_in jobs m) (take s.place xs)))) e);
    }
    later false d e s = record {
      place = suc s.place;
      life = s.life;
      at = s.at;
      starts = s.starts;
      count = s.count ∙ sym (ap (λ b. length (cond b (x ∷ filter (starts_in jobs m) (take s.place xs)) (filter (starts_in jobs m) (take s.place xs)))) e);
    }

    by : (b : Bool) → starts_in jobs m x ≡ b → (c : ℕ) → ((d : ℕ) → is_some (slice_get (starts_from jobs m (i + 1) xs) d) ≡ true → StartAt jobs m xs d) →
        is_some (slice_get (started_by b i x ++ starts_from jobs m (i + 1) xs) c) ≡ true → StartAt jobs m (x ∷ xs) c
    by true e zero go h = record { place = 0; life = x; at = refl; starts = e; count = refl }
    by true e (suc d) go h = later true d e (go d h)
    by false e c go h = later false c e (go c h)

-- an event started a scrape with ticket k
pub record NewStart (w : World) (e : Event) (k : ℕ) : Type 0 where
  pub life : ℕ
  pub flight : InFlight
  pub ticket : flight.ticket ≡ k
  pub starts : Starts w e life flight

sweep_new : (w : World) (m : ℤ) (k : ℕ) → w.halted ≡ false → Behind w.started (starts_from w.jobs (number m) 0 w.lives) k → NewStart w (Sweep m) k
sweep_new w m k h b =
    let s = start_at w.jobs (number m) 0 w.lives b.0 b.2 in
    record {
      life = s.place;
      flight = record { ticket = ticket_in_sweep w (number m) s.place; moment = m };
      ticket = sym (b.1 ∙ ap (λ c. length w.started + c) s.count);
      starts = record { live = h; life = s.life; is_life = s.at; started = ap (λ z. start_if z (ticket_in_sweep w (number m) s.place) m) s.starts };
    }

tick_new : (w : World) (m : ℤ) (j k : ℕ) (o : Option Life) → w.halted ≡ false → slice_get w.lives j ≡ o → Behind w.started (ticked w.jobs (number m) j o) k → NewStart w (Tick m j) k
tick_new w m j k None h at b = absurd (false≢true b.2)
tick_new w m j k (Some l) h at b = by (starts_in w.jobs (number m) l) refl b
  where
    by : (q : Bool) → starts_in w.jobs (number m) l ≡ q → Behind w.started (started_by q j l) k → NewStart w (Tick m j) k
    by false e b = absurd (false≢true b.2)
    by true e b = first b.0 b.1 b.2
      where
        first : (c : ℕ) → k ≡ length w.started + c → is_some (slice_get (started_by true j l) c) ≡ true → NewStart w (Tick m j) k
        first (suc c) q x = absurd (false≢true x)
        first zero q x = record {
          life = j;
          flight = record { ticket = length w.started; moment = m };
          ticket = omega (arith, q);
          starts = record {
            live = h;
            life = l;
            is_life = at;
            started = ap₂ (λ y z. start_if (y && z) (length w.started) m) (eq-eqb j j refl) e;
          };
        }

new_or_old : {P : Type 0} (xs ys : List StartedScrape) (k : ℕ) → (Behind xs ys k → P) → is_some (slice_get (xs ++ ys) k) ≡ true → (is_some (slice_get xs k) ≡ true) ⊎ P
new_or_old {P} xs ys k f h = of (append_some xs ys k h)
  where
    of : (is_some (slice_get xs k) ≡ true) ⊎ Behind xs ys k → (is_some (slice_get xs k) ≡ true) ⊎ P
    of (inl e) = inl e
    of (inr b) = inr (f b)

live_new : (w : World) (e : Event) (k : ℕ) → w.halted ≡ false → is_some (slice_get (started_after w e) k) ≡ true → (is_some (slice_get w.started k) ≡ true) ⊎ NewStart w e k
live_new w (Load m text) k h s = inl s
live_new w (Targets m name file text) k h s = inl s
live_new w (Tick m j) k h s = new_or_old w.started (ticked w.jobs (number m) j (slice_get w.lives j)) k (tick_new w m j k (slice_get w.lives j) h refl) s
live_new w (Sweep m) k h s = new_or_old w.started (starts_from w.jobs (number m) 0 w.lives) k (sweep_new w m k h) s
live_new w (Finish j took r) k h s = inl (sym (finished_some (slice_get w.started j) w.started j k) ∙ s)
live_new w (Halt m) k h s = inl s

step_new : (w : World) (e : Event) (k : ℕ) → is_some (slice_get (step w e).started k) ≡ true → (is_some (slice_get w.started k) ≡ true) ⊎ NewStart w e k
unfolding step
step_new w e k s = by w.halted refl s
  where
    by : (b : Bool) → w.halted ≡ b → is_some (slice_get (cond b w (live_step w e)).started k) ≡ true → (is_some (slice_get w.started k) ≡ true) ⊎ NewStart w e k
    by true h s = inl s
    by false h s = live_new w e k h s

-- one of these events started a scrape with ticket k
pub record StartedIn (w : World) (es : List Event) (k : ℕ) : Type 0 where
  pub earlier : List Event
  pub event : Event
  pub later : List Event
  pub whole : es ≡ earlier ++ event ∷ later
  pub new : NewStart (run w earlier) event k

run_new : (es : List Event) (w : World) (k : ℕ) → is_some (slice_get (run w es).started k) ≡ true → (is_some (slice_get w.started k) ≡ true) ⊎ StartedIn w es k
run_new [] w k s = inl s
run_new (e ∷ es) w k s = of (run_new es (step w e) k s)
  where
    here : (is_some (slice_get w.started k) ≡ true) ⊎ NewStart w e k → (is_some (slice_get w.started k) ≡ true) ⊎ StartedIn w (e ∷ es) k
    here (inl h) = inl h
    here (inr n) = inr (record { earlier = []; event = e; later = es; whole = refl; new = n })

    of : (is_some (slice_get (step w e).started k) ≡ true) ⊎ StartedIn (step w e) es k → (is_some (slice_get w.started k) ≡ true) ⊎ StartedIn w (e ∷ es) k
    of (inl h) = here (step_new w e k h)
    of (inr i) = inr (record { earlier = e ∷ i.earlier; event = i.event; later = i.later; whole = ap (λ zs. e ∷ zs) i.whole; new = i.new })

started_before : (journal : List Event) (k : ℕ) → is_some (slice_get (world_of journal).started k) ≡ true → IsStarted journal k
started_before journal k s = of (run_new journal beginning k s)
  where
    of : (is_some (slice_get beginning.started k) ≡ true) ⊎ StartedIn beginning journal k → IsStarted journal k
    of (inl h) = absurd (false≢true h)
    of (inr i) = record {
      earlier = i.earlier;
      event = i.event;
      later = i.later;
      whole = i.whole;
      life = i.new.life;
      flight = i.new.flight;
      ticket = i.new.ticket;
      starts = i.new.starts;
    }

pub unstarted_law : (journal : List Event) → UnstartedLaw journal
unstarted_law journal k no_start = by (slice_get (world_of journal).started k) refl
  where
    by : (o : Option StartedScrape) → slice_get (world_of journal).started k ≡ o → found_start (world_of journal).lives k o ≡ NotStarted
    by None h = refl
    by (Some s) h = absurd (no_start (started_before journal k (ap is_some h)))
