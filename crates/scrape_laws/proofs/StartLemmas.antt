-- The start of a scrape, and what its finish comes to.
use Rattle.std.proofs.Common.{◌≡◌, ℕ, ℤ, zero, suc, ◌+◌, Bool, true, false, not, ◌&&◌, cond, List, [], ◌∷◌, ◌++◌, length, take, Option, Some, None, is_some, slice_get, refl, sym, ap, ap₂, subst, ◌∙◌, arith, eqb, eq-eqb, eqb-true}
use Rattle.std.specs.List.{filter}
use Rattle.std.proofs.lemmas.Bool.{true≢false, false≢true, and_parts, not-true}
use Rattle.outside.specs.declared.replies.Reply.{Reply}
use Rattle.journal_text.specs.declared.events.Event.{Event}
use Rattle.journal_text.specs.declared.events.Event.TheVariants.{Load, Targets, Tick, Sweep, Finish, Halt}
use Rattle.journal_text.specs.Lines.{number}
use Rattle.scrape_loop.specs.Tracked.{after_forced}
use Rattle.life_roll.specs.Schedules as schedule
use Rattle.life_roll.specs.declared.schedule.InFlight.{InFlight}
use Rattle.life_roll.specs.declared.schedule.Schedule.{Schedule}
use Rattle.jobs_in_force.specs.declared.jobs.InForce.{InForce}
use Rattle.scrape_machine.specs.declared.answers.Answer.TheVariants.{Halted}
use Rattle.scrape_machine.specs.declared.lives.Life.{Life}
use Rattle.scrape_machine.specs.declared.lives.TicketState.TheVariants.{NotStarted, Cancelled, Counts}
use Rattle.scrape_machine.specs.declared.lives.Local.TheVariants.{Nothing, Scan}
use Rattle.scrape_machine.specs.Lives.{is_open, starts, forces, scanned_life, life_after}
use Rattle.scrape_machine.specs.Machine.{World, is_over, starts_in, ticket_in_sweep, found, finish_answer, live_local, local, started_by, start_of, starts_from, ticked, started_after, live_step, step, run, live_answer, answer}
use Rattle.scrape_laws.specs.Flights.{since, life_since, in_flight_since, start_if, start_by, Starts, stays, has_finish, FlightLaw, finish_found, FinishLaw}
use Rattle.scrape_laws.proofs.WorldLemmas.{same_some, after_local, Stays, follows}
use Rattle.scrape_laws.proofs.FlightLemmas.{ticket, found_since, found_ticket, run_flies}

-- a scan that starts a scrape
due_since : (m : ℤ) (t : ℕ) (s : Schedule) (b over : Bool) → b ≡ true → over ≡ false → since t (cond b (cond over (schedule.moved m s) (schedule.started m t s)) s).flight ≡ Some m
due_since m t s true true e f = absurd (true≢false f)
due_since m t s true false e f = ap (λ z. cond z (Some m) None) (eq-eqb t t refl)
due_since m t s false over e f = absurd (false≢true e)

scan_starts : (m : ℤ) (t : ℕ) (over : Bool) (l : Life) (o : Option ℤ) → l.schedule.closed ≡ o → starts (number m) over l ≡ true →
    since t (scanned_life m t over l o).schedule.flight ≡ Some m
scan_starts m t over l None e s = by (forces (number m) over l)
  where
    p : (schedule.is_due (number m) l.schedule ≡ true) × (not over ≡ true)
    p = and_parts (schedule.is_due (number m) l.schedule) (not over) s

    due : since t (schedule.scanned m t over l.schedule).flight ≡ Some m
    due = due_since m t l.schedule (schedule.is_due (number m) l.schedule) over p.0 (not-true over p.1)

    by : (b : Bool) →
        since t (cond b (record l { state = after_forced l.state; schedule = schedule.scanned m t over l.schedule }) (record l { schedule = schedule.scanned m t over l.schedule })).schedule.flight
        ≡ Some m
    by true = due
    by false = due
scan_starts m t over l (Some c) e s =
    let d = and_parts (schedule.is_due (number m) l.schedule) (not over) s in
    let o = and_parts (schedule.is_open l.schedule) _ d.0 in
    absurd (true≢false (sym o.0 ∙ ap (λ z. not (is_some z)) e))

-- the place of a sweep's start
pub get_right : {A : Type 0} (xs ys : List A) (k c : ℕ) → k ≡ length xs + c → slice_get (xs ++ ys) k ≡ slice_get ys c
get_right [] ys k c e = let h : k ≡ c = omega arith in ap (slice_get ys) h
get_right (x ∷ xs) ys zero c e = absurd (zero_not (length xs) c e)
  where
    zero_not : (a c : ℕ) → 0 ≡ suc a + c → ⊥
    zero_not a c e = omega arith
get_right (x ∷ xs) ys (suc k) c e = get_right xs ys k c (omega arith)

start_here : (jobs : List InForce) (m i : ℕ) (l : Life) → starts_in jobs m l ≡ true → start_of jobs m i l ≡ ticket i l.settings false ∷ []
start_here jobs m i l h = ap (λ b. started_by b i l) h

starts_at : (jobs : List InForce) (m i j n : ℕ) (ls : List Life) (l : Life) → slice_get ls j ≡ Some l → starts_in jobs m l ≡ true → n ≡ i + j →
    slice_get (starts_from jobs m i ls) (length (filter (starts_in jobs m) (take j ls))) ≡ Some (ticket n l.settings false)
starts_at jobs m i j n [] l at h e = absurd (false≢true (ap is_some at))
starts_at jobs m i zero n (x ∷ xs) l at h e =
    let same : x ≡ l = same_some x l at in
    let q : i ≡ n = omega arith in
    ap (λ zs. slice_get (zs ++ starts_from jobs m (i + 1) xs) 0) (start_here jobs m i x (ap (starts_in jobs m) same ∙ h))
    ∙ ap₂ (λ k (z : Life). Some (ticket k z.settings false)) q same
starts_at jobs m i (suc j) n (x ∷ xs) l at h e = by (starts_in jobs m x) (starts_at jobs m (i + 1) j n xs l at h (omega arith))
  where
    by : (b : Bool) → slice_get (starts_from jobs m (i + 1) xs) (length (filter (starts_in jobs m) (take j xs))) ≡ Some (ticket n l.settings false) →
        slice_get (started_by b i x ++ starts_from jobs m (i + 1) xs) (length (cond b (x ∷ filter (starts_in jobs m) (take j xs)) (filter (starts_in jobs m) (take j xs))))
        ≡ Some (ticket n l.settings false)
    by true r = r
    by false r = r

-- a started scrape is in flight, and its ticket awaits its finish
pub record Begins (w : World) (e : Event) (n : ℕ) (l : Life) (f : InFlight) : Type 0 where
  pub flight : in_flight_since (step w e) n f.ticket ≡ Some f.moment
  pub started : slice_get (step w e).started f.ticket ≡ Some (ticket n l.settings false)

step_lives : (w : World) (e : Event) (n : ℕ) (l : Life) → slice_get w.lives n ≡ Some l → slice_get (step w e).lives n ≡ Some (life_after (local w e n l) l)
step_lives w e n l at = subst (λ (o : Option Life). Stays n (after_local w e n o) (slice_get (step w e).lives n)) at (follows w e n)

step_started : (w : World) (e : Event) → w.halted ≡ false → (step w e).started ≡ started_after w e
unfolding step
step_started w e h = by w.halted h
  where
    by : (b : Bool) → b ≡ false → (cond b w (live_step w e)).started ≡ started_after w e
    by true h = absurd (true≢false h)
    by false h = refl

scan_flies : (w : World) (e : Event) (n : ℕ) (m : ℤ) (t : ℕ) (l : Life) → w.halted ≡ false → slice_get w.lives n ≡ Some l → live_local w e n l ≡ Scan m t (is_over w.jobs l) →
    starts_in w.jobs (number m) l ≡ true → in_flight_since (step w e) n t ≡ Some m
scan_flies w e n m t l h at is s =
    ap (life_since t) (step_lives w e n l at)
    ∙ (ap (λ z. since t (life_after (cond z Nothing (live_local w e n l)) l).schedule.flight) h
    ∙ (ap (λ z. since t (life_after z l).schedule.flight) is
    ∙ scan_starts m t (is_over w.jobs l) l l.schedule.closed refl s))

start_is : (b : Bool) (t : ℕ) (m : ℤ) (f : InFlight) → start_if b t m ≡ Some f → (b ≡ true) × ((let g : InFlight = record { ticket = t; moment = m } in g) ≡ f)
start_is true t m f e = (refl, same_some (record { ticket = t; moment = m }) f e)
start_is false t m f e = absurd (false≢true (ap is_some e))

sweep_begins : (w : World) (m : ℤ) (n : ℕ) (l : Life) → w.halted ≡ false → slice_get w.lives n ≡ Some l → starts_in w.jobs (number m) l ≡ true →
    Begins w (Sweep m) n l (record { ticket = ticket_in_sweep w (number m) n; moment = m })
sweep_begins w m n l h at s = record {
  flight = scan_flies w (Sweep m) n m (ticket_in_sweep w (number m) n) l h at refl s;
  started = ap (λ zs. slice_get zs (ticket_in_sweep w (number m) n)) (step_started w (Sweep m) h)
      ∙ (get_right w.started (starts_from w.jobs (number m) 0 w.lives) (ticket_in_sweep w (number m) n) (length (filter (starts_in w.jobs (number m)) (take n w.lives))) refl
      ∙ starts_at w.jobs (number m) 0 n n w.lives l at s (omega arith));
}

due_open : (jobs : List InForce) (m : ℕ) (l : Life) → starts_in jobs m l ≡ true → is_open l ≡ true
due_open jobs m l s = (and_parts (schedule.is_open l.schedule) _ (and_parts (schedule.is_due m l.schedule) _ s).0).0

tick_begins : (w : World) (m : ℤ) (j n : ℕ) (l : Life) → w.halted ≡ false → slice_get w.lives n ≡ Some l → eqb j n ≡ true → starts_in w.jobs (number m) l ≡ true →
    Begins w (Tick m j) n l (record { ticket = length w.started; moment = m })
tick_begins w m j n l h at t s =
    let same : j ≡ n = eqb-true j n t in
    record {
      flight = scan_flies w (Tick m j) n m (length w.started) l h at
          (ap₂ (λ x y. cond (x && y) (Scan m (length w.started) (is_over w.jobs l)) Nothing) t (due_open w.jobs (number m) l s)) s;
      started = ap (λ zs. slice_get zs (length w.started)) (step_started w (Tick m j) h)
          ∙ (get_right w.started (ticked w.jobs (number m) j (slice_get w.lives j)) (length w.started) 0 (omega arith)
          ∙ (ap (λ i. slice_get (ticked w.jobs (number m) i (slice_get w.lives i)) 0) same
          ∙ (ap (λ o. slice_get (ticked w.jobs (number m) n o) 0) at
          ∙ ap (λ zs. slice_get zs 0) (start_here w.jobs (number m) n l s))));
    }

pub begins : (w : World) (e : Event) (n : ℕ) (l : Life) (f : InFlight) → w.halted ≡ false → slice_get w.lives n ≡ Some l → start_by w e n l ≡ Some f → Begins w e n l f
begins w (Load m text) n l f h at e = absurd (false≢true (ap is_some e))
begins w (Targets m name file text) n l f h at e = absurd (false≢true (ap is_some e))
begins w (Tick m j) n l f h at e =
    let q = start_is ((eqb j n) && starts_in w.jobs (number m) l) (length w.started) m f e in
    let p = and_parts (eqb j n) (starts_in w.jobs (number m) l) q.0 in
    subst (λ (z : InFlight). Begins w (Tick m j) n l z) q.1 (tick_begins w m j n l h at p.0 p.1)
begins w (Sweep m) n l f h at e =
    let q = start_is (starts_in w.jobs (number m) l) (ticket_in_sweep w (number m) n) m f e in
    subst (λ (z : InFlight). Begins w (Sweep m) n l z) q.1 (sweep_begins w m n l h at q.0)
begins w (Finish k took r) n l f h at e = absurd (false≢true (ap is_some e))
begins w (Halt m) n l f h at e = absurd (false≢true (ap is_some e))

-- the laws
module _ (w : World) (e : Event) (n : ℕ) (f : InFlight) (es : List Event) (s : Starts w e n f) where
  start : Begins w e n s.life f
  start = begins w e n s.life f s.live s.is_life s.started

  goes : (in_flight_since (run (step w e) es) n f.ticket ≡ cond (stays (step w e) n f.ticket es) (in_flight_since (step w e) n f.ticket) None)
      × (slice_get (run (step w e) es).started f.ticket ≡ Some (ticket n s.life.settings (has_finish (step w e) f.ticket es)))
  goes = run_flies es (step w e) n f.ticket s.life.settings false start.started (λ h. absurd (false≢true h))

  flown : in_flight_since (run (step w e) es) n f.ticket ≡ cond (stays (step w e) n f.ticket es) (Some f.moment) None
  flown = goes.0 ∙ ap (λ o. cond (stays (step w e) n f.ticket es) o None) start.flight

  pub flight_law : FlightLaw w e n f es
  flight_law = record {
    flight = flown;
    ticket = ticket n s.life.settings (has_finish (step w e) f.ticket es);
    is_ticket = goes.1;
    of_life = refl;
    finished = refl;
  }

  by_flight : (b q : Bool) → cond b NotStarted (found_since n (cond q (Some f.moment) None)) ≡ cond b NotStarted (cond q (Counts n f.moment) Cancelled)
  by_flight b true = refl
  by_flight b false = refl

  finds : found (run (step w e) es) f.ticket ≡ finish_found (step w e) n f es
  finds =
      found_ticket (run (step w e) es) f.ticket n s.life.settings (has_finish (step w e) f.ticket es) goes.1
      ∙ (ap (λ o. cond (has_finish (step w e) f.ticket es) NotStarted (found_since n o)) flown
      ∙ by_flight (has_finish (step w e) f.ticket es) (stays (step w e) n f.ticket es))

  answers : (took : ℤ) (r : Reply) → (run (step w e) es).halted ≡ false →
      answer (run (step w e) es) (Finish f.ticket took r) ≡ finish_answer (run (step w e) es) took r (finish_found (step w e) n f es)
  unfolding answer
  answers took r h =
      ap (λ b. cond b Halted (live_answer (run (step w e) es) (Finish f.ticket took r))) h ∙ ap (finish_answer (run (step w e) es) took r) finds

  pub finish_law : FinishLaw w e n f es
  finish_law = record { finds = finds; answered = answers }
