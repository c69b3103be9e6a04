-- In a journal the scrape that a life has in flight was started for it, and awaits its finish.
use Rattle.std.proofs.Common.{◌≡◌, ℕ, ℤ, Bool, true, false, not, ◌&&◌, ◌||◌, ◌⊎◌, cond, List, [], ◌∷◌, length, Option, Some, None, slice_get, inl, inr, refl, sym, ap, ap₂, subst, ◌∙◌, eqb, eq-eqb, eqb-true}
use Rattle.std.proofs.lemmas.Bool.{true≢false, false≢true}
use Rattle.outside.specs.declared.replies.Reply.{Reply}
use Rattle.journal_text.specs.declared.events.Event.{Event}
use Rattle.journal_text.specs.declared.events.Event.TheVariants.{Load, Targets, Tick, Sweep, Finish, Halt}
use Rattle.journal_text.specs.Lines.{number}
use Rattle.scrape_config.specs.declared.conf.Job.{Job}
use Rattle.scrape_loop.specs.Tracked.{after_forced}
use Rattle.life_roll.specs.Flights.{is_flight}
use Rattle.life_roll.specs.Schedules as schedule
use Rattle.life_roll.specs.declared.schedule.InFlight.{InFlight}
use Rattle.life_roll.specs.declared.schedule.Schedule.{Schedule}
use Rattle.jobs_in_force.specs.declared.jobs.InForce.{InForce}
use Rattle.jobs_in_force.specs.Jobs.{job_named, has_target}
use Rattle.scrape_machine.specs.declared.lives.Life.{Life}
use Rattle.scrape_machine.specs.declared.lives.TicketState.{TicketState}
use Rattle.scrape_machine.specs.declared.lives.TicketState.TheVariants.{NotStarted, Cancelled, Counts}
use Rattle.scrape_machine.specs.declared.lives.Local.{Local}
use Rattle.scrape_machine.specs.declared.lives.Local.TheVariants.{Nothing, Scan, Answered, Close}
use Rattle.scrape_machine.specs.declared.lives.Difference.{Difference}
use Rattle.scrape_machine.specs.declared.lives.Difference.TheVariants.{Incompatible, Same, Changed}
use Rattle.scrape_machine.specs.Lives.{is_open, born, starts, forces, ends_at, scanned_life, with_ending, life_after}
use Rattle.scrape_machine.specs.Machine.{World, beginning, new_jobs, job_name, difference, difference_local, job_local, reload_local, is_over, starts_in, ticket_in_sweep, found, finish_local, live_local, step, run, world_of}
use Rattle.scrape_laws.specs.Flights.{since, start_if, start_by, is_finish_of, touches}
use Rattle.scrape_laws.specs.Undisturbed.{is_awaited_of, is_own_ticket, TicketLaw}
use Rattle.scrape_laws.proofs.WorldLemmas.{after_local, Stays, follows}
use Rattle.scrape_laws.proofs.FlightLemmas.{ticket, ticket_on, stops, live_stops}
use Rattle.scrape_laws.proofs.StartLemmas.{begins}

-- a life has scrape k in flight
abbrev flies : ℕ → Life → Bool
flies k l = is_flight k l.schedule.flight

-- where a life has scrape k in flight after what an event is to it, it had it before
abbrev Keeps : ℕ → Local → Life → Type 0
Keeps k loc l = flies k (life_after loc l) ≡ true → (flies k l ≡ true) × (stops loc ≡ false)

difference_keeps : (k : ℕ) (m : ℤ) (v : Difference) (l : Life) → Keeps k (difference_local m v) l
difference_keeps k m Incompatible l h = absurd (false≢true h)
difference_keeps k m Same l h = (h, refl)
difference_keeps k m (Changed s) l h = absurd (false≢true h)

job_keeps : (k : ℕ) (m : ℤ) (jobs : List InForce) (l : Life) (o : Option InForce) → Keeps k (job_local m jobs l o) l
job_keeps k m jobs l None h = absurd (false≢true h)
job_keeps k m jobs l (Some after) h = by (has_target l.identity after) h
  where
    by : (b : Bool) → Keeps k (cond b (difference_local m (difference jobs after)) (Close m)) l
    by true h = difference_keeps k m (difference jobs after) l h
    by false h = absurd (false≢true h)

reload_keeps : (k : ℕ) (m : ℤ) (jobs : List InForce) (o : Option (List InForce)) (l : Life) → Keeps k (reload_local m jobs o l) l
reload_keeps k m jobs None l h = (h, refl)
reload_keeps k m jobs (Some news) l h = by (is_open l) h
  where
    by : (b : Bool) → Keeps k (cond b (job_local m jobs l (job_named (job_name l) news)) Nothing) l
    by true h = job_keeps k m jobs l (job_named (job_name l) news) h
    by false h = (h, refl)

finish_keeps : (k n : ℕ) (took : ℤ) (r : Reply) (f : TicketState) (l : Life) → Keeps k (finish_local n took r f) l
finish_keeps k n took r NotStarted l h = (h, refl)
finish_keeps k n took r Cancelled l h = (h, refl)
finish_keeps k n took r (Counts i m) l h = by (eqb i n) h
  where
    by : (b : Bool) → Keeps k (cond b (Answered took r) Nothing) l
    by true h = absurd (false≢true h)
    by false h = (h, refl)

-- or the scan has started it
due_starts : (m : ℤ) (t k : ℕ) (over : Bool) (s : Schedule) (b : Bool) →
    is_flight k (cond b (cond over (schedule.moved m s) (schedule.started m t s)) s).flight ≡ true → (is_flight k s.flight ≡ true) ⊎ ((t ≡ k) × ((b && not over) ≡ true))
due_starts m t k over s false h = inl h
due_starts m t k true s true h = inl h
due_starts m t k false s true h = inr (eqb-true t k h, refl)

scan_starts : (m : ℤ) (t k : ℕ) (over : Bool) (l : Life) (o : Option ℤ) → flies k (scanned_life m t over l o) ≡ true →
    (flies k l ≡ true) ⊎ ((t ≡ k) × (starts (number m) over l ≡ true))
scan_starts m t k over l None h = by (forces (number m) over l) h
  where
    by : (b : Bool) →
        flies k (cond b (record l { state = after_forced l.state; schedule = schedule.scanned m t over l.schedule }) (record l { schedule = schedule.scanned m t over l.schedule })) ≡ true →
        (flies k l ≡ true) ⊎ ((t ≡ k) × (starts (number m) over l ≡ true))
    by true h = due_starts m t k over l.schedule (schedule.is_due (number m) l.schedule) h
    by false h = due_starts m t k over l.schedule (schedule.is_due (number m) l.schedule) h
scan_starts m t k over l (Some c) h = by (ends_at (number m) c l) h
  where
    by : (b : Bool) → flies k (cond b (with_ending l) l) ≡ true → (flies k l ≡ true) ⊎ ((t ≡ k) × (starts (number m) over l ≡ true))
    by true h = inl h
    by false h = inl h

-- scrape k of a live event's life was in flight before, or the event started it
abbrev Gains : World → Event → ℕ → ℕ → Life → Type 0
Gains w e n k l = ((flies k l ≡ true) × (stops (live_local w e n l) ≡ false)) ⊎ ((f : InFlight) × (start_by w e n l ≡ Some f) × (f.ticket ≡ k))

tick_gains : (w : World) (m : ℤ) (j n k : ℕ) (l : Life) (b q : Bool) → flies k (life_after (cond (b && q) (Scan m (length w.started) (is_over w.jobs l)) Nothing) l) ≡ true →
    ((flies k l ≡ true) × (stops (cond (b && q) (Scan m (length w.started) (is_over w.jobs l)) Nothing) ≡ false))
    ⊎ ((f : InFlight) × (start_if (b && starts_in w.jobs (number m) l) (length w.started) m ≡ Some f) × (f.ticket ≡ k))
tick_gains w m j n k l true true h = of (scan_starts m (length w.started) k (is_over w.jobs l) l l.schedule.closed h)
  where
    of : (flies k l ≡ true) ⊎ ((length w.started ≡ k) × (starts (number m) (is_over w.jobs l) l ≡ true)) →
        ((flies k l ≡ true) × (stops (Scan m (length w.started) (is_over w.jobs l)) ≡ false))
        ⊎ ((f : InFlight) × (start_if (starts_in w.jobs (number m) l) (length w.started) m ≡ Some f) × (f.ticket ≡ k))
    of (inl e) = inl (e, refl)
    of (inr p) = inr (record { ticket = length w.started; moment = m }, ap (λ z. start_if z (length w.started) m) p.1, p.0)
tick_gains w m j n k l true false h = inl (h, refl)
tick_gains w m j n k l false q h = inl (h, refl)

gains : (w : World) (e : Event) (n k : ℕ) (l : Life) → flies k (life_after (live_local w e n l) l) ≡ true → Gains w e n k l
gains w (Load m text) n k l h = inl (reload_keeps k m w.jobs (new_jobs w.jobs (Load m text)) l h)
gains w (Targets m name file text) n k l h = inl (reload_keeps k m w.jobs (new_jobs w.jobs (Targets m name file text)) l h)
gains w (Tick m j) n k l h = tick_gains w m j n k l (eqb j n) (is_open l) h
gains w (Sweep m) n k l h = of (scan_starts m (ticket_in_sweep w (number m) n) k (is_over w.jobs l) l l.schedule.closed h)
  where
    of : (flies k l ≡ true) ⊎ ((ticket_in_sweep w (number m) n ≡ k) × (starts (number m) (is_over w.jobs l) l ≡ true)) → Gains w (Sweep m) n k l
    of (inl e) = inl (e, refl)
    of (inr p) = inr (record { ticket = ticket_in_sweep w (number m) n; moment = m }, ap (λ z. start_if z (ticket_in_sweep w (number m) n) m) p.1, p.0)
gains w (Finish j took r) n k l h = inl (finish_keeps k n took r (found w j) l h)
gains w (Halt m) n k l h = inl (h, refl)

-- each life's scrape in flight awaits its finish
abbrev pub AwaitsAt : World → ℕ → ℕ → Option Life → Type 0
AwaitsAt w n k None = Unit {0}
AwaitsAt w n k (Some l) = flies k l ≡ true → (s : Job) × (slice_get w.started k ≡ Some (ticket n s false))

abbrev pub Awaits : World → Type 0
Awaits w = (n k : ℕ) → AwaitsAt w n k (slice_get w.lives n)

flight_since : (k : ℕ) (o : Option InFlight) → is_flight k o ≡ true → (m : ℤ) × (since k o ≡ Some m)
flight_since k None h = absurd (false≢true h)
flight_since k (Some f) h = (f.moment, ap (λ b. cond b (Some f.moment) None) h)

or_left : (a b : Bool) → (a || b) ≡ false → a ≡ false
or_left true b e = e
or_left false b e = refl

module _ (w : World) (e : Event) (n k : ℕ) (l : Life) (at : slice_get w.lives n ≡ Some l) (old : flies k l ≡ true → (s : Job) × (slice_get w.started k ≡ Some (ticket n s false))) where
  no_finish : (b : Bool) → w.halted ≡ b → flies k l ≡ true → (b ≡ false → stops (live_local w e n l) ≡ false) → (s : Job) → slice_get w.started k ≡ Some (ticket n s false) →
      (not b && is_finish_of k e) ≡ false
  no_finish true h f q s t = refl
  no_finish false h f q s t =
      let m = flight_since k l.schedule.flight f in
      or_left (is_finish_of k e) (touches w e (Some l)) (sym (live_stops w n k s l at e m.0 t m.1) ∙ q refl)

  stays_awaited : flies k l ≡ true → (w.halted ≡ false → stops (live_local w e n l) ≡ false) → (s : Job) × (slice_get (step w e).started k ≡ Some (ticket n s false))
  stays_awaited f q =
      let o = old f in
      (o.0, ticket_on w e k n o.0 false o.1 ∙ ap (λ z. Some (ticket n o.0 z)) (no_finish w.halted refl f q o.0 o.1))

  awaits_live : w.halted ≡ false → Gains w e n k l → (s : Job) × (slice_get (step w e).started k ≡ Some (ticket n s false))
  awaits_live h (inl p) = stays_awaited p.0 (λ q. p.1)
  awaits_live h (inr p) = (l.settings, ap (slice_get (step w e).started) (sym p.2) ∙ (begins w e n l p.0 h at p.1).started)

  awaits_after : (b : Bool) → w.halted ≡ b → flies k (life_after (cond b Nothing (live_local w e n l)) l) ≡ true → (s : Job) × (slice_get (step w e).started k ≡ Some (ticket n s false))
  awaits_after true h f = stays_awaited f (λ q. absurd (true≢false (sym h ∙ q)))
  awaits_after false h f = awaits_live h (gains w e n k l f)

fresh_awaits : (w : World) (n k : ℕ) (o : Option Life) → Stays n None o → AwaitsAt w n k o
unfolding born
fresh_awaits w n k None f = tt
fresh_awaits w n k (Some l) f = λ h. absurd (false≢true (sym (ap (λ (z : Life). flies k z) f.3) ∙ h))

awaits_at : (w : World) (e : Event) (n k : ℕ) (o p : Option Life) → slice_get w.lives n ≡ o → Stays n (after_local w e n o) p → AwaitsAt w n k o → AwaitsAt (step w e) n k p
awaits_at w e n k None p at s old = fresh_awaits (step w e) n k p s
awaits_at w e n k (Some l) p at s old = subst (AwaitsAt (step w e) n k) (sym s) (λ h. awaits_after w e n k l at old w.halted refl h)

step_awaits : (w : World) (e : Event) → Awaits w → Awaits (step w e)
step_awaits w e a n k = awaits_at w e n k (slice_get w.lives n) (slice_get (step w e).lives n) refl (follows w e n) (a n k)

run_awaits : (es : List Event) (w : World) → Awaits w → Awaits (run w es)
run_awaits [] w a = a
run_awaits (e ∷ es) w a = run_awaits es (step w e) (step_awaits w e a)

own_by : (w : World) (k n : ℕ) (l : Life) (b : Bool) → flies k l ≡ b → AwaitsAt w n k (Some l) → is_own_ticket w k n l ≡ b
own_by w k n l false h a = ap (λ z. is_awaited_of n (slice_get w.started k) && z) h ∙ and_no (is_awaited_of n (slice_get w.started k))
  where
    and_no : (c : Bool) → (c && false) ≡ false
    and_no true = refl
    and_no false = refl
own_by w k n l true h a =
    let s = a h in
    ap₂ ◌&&◌ (ap (is_awaited_of n) s.1 ∙ ap (λ z. z && true) (eq-eqb n n refl)) h

pub ticket_law : (journal : List Event) → TicketLaw journal
unfolding TicketLaw
ticket_law journal k n l at =
    own_by (world_of journal) k n l (flies k l) refl (subst (AwaitsAt (world_of journal) n k) at (run_awaits journal beginning (λ n k. tt) n k))
