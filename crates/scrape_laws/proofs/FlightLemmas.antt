-- A scrape in flight, event by event.
use Rattle.std.proofs.Common.{◌≡◌, ℕ, ℤ, zero, suc, ◌<◌, Bool, true, false, not, ◌&&◌, ◌||◌, cond, List, [], ◌∷◌, ◌++◌, length, Option, Some, None, is_some, slice_get, slice_set, refl, sym, ap, ◌∙◌, arith, eqb, eq-eqb, ne_eqb, eqb-true}
use Rattle.std.proofs.lemmas.Bool.{true≢false, false≢true, and_parts}
use Rattle.std.proofs.lemmas.Option.{slice_get_within}
use Rattle.outside.specs.declared.replies.Reply.{Reply}
use Rattle.journal_text.specs.declared.events.Event.{Event}
use Rattle.journal_text.specs.declared.events.Event.TheVariants.{Load, Targets, Tick, Sweep, Finish, Halt}
use Rattle.journal_text.specs.Lines.{number}
use Rattle.scrape_config.specs.declared.conf.Job.{Job}
use Rattle.scrape_loop.specs.Tracked.{after_forced}
use Rattle.life_roll.specs.Schedules as schedule
use Rattle.life_roll.specs.declared.schedule.InFlight.{InFlight}
use Rattle.life_roll.specs.declared.schedule.Schedule.{Schedule}
use Rattle.jobs_in_force.specs.declared.jobs.InForce.{InForce}
use Rattle.jobs_in_force.specs.Jobs.{job_named, has_target}
use Rattle.scrape_machine.specs.declared.lives.Life.{Life}
use Rattle.scrape_machine.specs.declared.lives.StartedScrape.{StartedScrape}
use Rattle.scrape_machine.specs.declared.lives.TicketState.{TicketState}
use Rattle.scrape_machine.specs.declared.lives.TicketState.TheVariants.{NotStarted, Cancelled, Counts}
use Rattle.scrape_machine.specs.declared.lives.Local.{Local}
use Rattle.scrape_machine.specs.declared.lives.Local.TheVariants.{Nothing, Scan, Answered, Change, Close}
use Rattle.scrape_machine.specs.declared.lives.Difference.{Difference}
use Rattle.scrape_machine.specs.declared.lives.Difference.TheVariants.{Incompatible, Same, Changed}
use Rattle.scrape_machine.specs.Lives.{is_open, born, forces, ends_at, scanned_life, with_ending, life_after}
use Rattle.scrape_machine.specs.Machine.{World, new_jobs, job_name, difference, difference_local, job_local, reload_local, is_over, found_flight, found_life, found_start, found, finish_local, live_local, local, finished, started_after, live_step, step, run}
use Rattle.scrape_laws.specs.Flights.{since, life_since, in_flight_since, is_finish_of, is_unchanged, leaves_by, leaves, reload_touches, touches, ends_flight, stays, has_finish}
use Rattle.scrape_laws.proofs.WorldLemmas.{found_flies, same_some, after_local, Stays, follows}
use Rattle.scrape_laws.proofs.LateLemmas.{finished_other}

-- a started scrape
abbrev pub ticket : ℕ → Job → Bool → StartedScrape
ticket n s b = record { life = n; settings = s; finished = b }

or_no : (b : Bool) → b ≡ (b || false)
or_no true = refl
or_no false = refl

or_yes : (b : Bool) → true ≡ (b || true)
or_yes true = refl
or_yes false = refl

get_left : {A : Type 0} (xs ys : List A) (k : ℕ) (a : A) → slice_get xs k ≡ Some a → slice_get (xs ++ ys) k ≡ Some a
get_left [] ys k a e = absurd (true≢false (sym (ap is_some e)))
get_left (x ∷ xs) ys zero a e = e
get_left (x ∷ xs) ys (suc k) a e = get_left xs ys k a e

get_set : {A : Type 0} (xs : List A) (k : ℕ) (a b : A) → slice_get xs k ≡ Some a → slice_get (slice_set xs k b) k ≡ Some b
get_set [] k a b e = absurd (true≢false (sym (ap is_some e)))
get_set (x ∷ xs) zero a b e = refl
get_set (x ∷ xs) (suc k) a b e = get_set xs k a b e

-- whether it had its finish
finish_marks : (ss : List StartedScrape) (j k n : ℕ) (s : Job) (b q : Bool) → eqb j k ≡ q → slice_get ss k ≡ Some (ticket n s b) →
    slice_get (finished (slice_get ss j) ss j) k ≡ Some (ticket n s (b || q))
finish_marks ss j k n s b true e h =
    let at : j ≡ k = eqb-true j k e in
    ap (λ i. slice_get (finished (slice_get ss i) ss i) k) at
    ∙ (ap (λ o. slice_get (finished o ss k) k) h ∙ (get_set ss k (ticket n s b) (ticket n s true) h ∙ ap (λ z. Some (ticket n s z)) (or_yes b)))
finish_marks ss j k n s b false e h =
    finished_other (slice_get ss j) ss j k (λ q. true≢false (sym (eq-eqb j k (sym q)) ∙ e)) ∙ (h ∙ ap (λ z. Some (ticket n s z)) (or_no b))

live_ticket : (w : World) (e : Event) (k n : ℕ) (s : Job) (b : Bool) → slice_get w.started k ≡ Some (ticket n s b) →
    slice_get (started_after w e) k ≡ Some (ticket n s (b || is_finish_of k e))
live_ticket w (Load m text) k n s b h = h ∙ ap (λ z. Some (ticket n s z)) (or_no b)
live_ticket w (Targets m name file text) k n s b h = h ∙ ap (λ z. Some (ticket n s z)) (or_no b)
live_ticket w (Tick m j) k n s b h = get_left w.started _ k (ticket n s b) h ∙ ap (λ z. Some (ticket n s z)) (or_no b)
live_ticket w (Sweep m) k n s b h = get_left w.started _ k (ticket n s b) h ∙ ap (λ z. Some (ticket n s z)) (or_no b)
live_ticket w (Finish j took r) k n s b h = finish_marks w.started j k n s b (eqb j k) refl h
live_ticket w (Halt m) k n s b h = h ∙ ap (λ z. Some (ticket n s z)) (or_no b)

pub ticket_on : (w : World) (e : Event) (k n : ℕ) (s : Job) (b : Bool) → slice_get w.started k ≡ Some (ticket n s b) →
    slice_get (step w e).started k ≡ Some (ticket n s (b || (not w.halted && is_finish_of k e)))
unfolding step
ticket_on w e k n s b h = by w.halted
  where
    by : (q : Bool) → slice_get (cond q w (live_step w e)).started k ≡ Some (ticket n s (b || (not q && is_finish_of k e)))
    by true = h ∙ ap (λ z. Some (ticket n s z)) (or_no b)
    by false = live_ticket w e k n s b h

-- a flight, by what an event is to its life
abbrev pub stops : Local → Bool
stops Nothing = false
stops (Scan m t over) = false
stops (Answered took r) = true
stops (Change m s) = true
stops (Close m) = true

abbrev IsLater : ℕ → Local → Type 0
IsLater k Nothing = Unit {0}
IsLater k (Scan m t over) = k < t
IsLater k (Answered took r) = Unit {0}
IsLater k (Change m s) = Unit {0}
IsLater k (Close m) = Unit {0}

none_since : (k : ℕ) (o : Option InFlight) → not (is_some o) ≡ true → since k o ≡ None
none_since k None e = refl
none_since k (Some f) e = absurd (false≢true e)

scan_since : (m : ℤ) (t k : ℕ) (over : Bool) (s : Schedule) (b : Bool) → schedule.is_due (number m) s ≡ b → k < t →
    since k (cond b (cond over (schedule.moved m s) (schedule.started m t s)) s).flight ≡ since k s.flight
scan_since m t k over s false e lt = refl
scan_since m t k true s true e lt = refl
scan_since m t k false s true e lt =
    ap (λ z. cond z (Some m) None) (ne_eqb t k (omega arith))
    ∙ sym (none_since k s.flight ((and_parts (not (is_some s.flight)) _ ((and_parts (schedule.is_open s) _ e).1)).0))

life_scan : (m : ℤ) (t k : ℕ) (over : Bool) (l : Life) (o : Option ℤ) → k < t → since k (scanned_life m t over l o).schedule.flight ≡ since k l.schedule.flight
life_scan m t k over l None lt = by (forces (number m) over l)
  where
    by : (b : Bool) →
        since k (cond b (record l { state = after_forced l.state; schedule = schedule.scanned m t over l.schedule }) (record l { schedule = schedule.scanned m t over l.schedule })).schedule.flight
        ≡ since k l.schedule.flight
    by true = scan_since m t k over l.schedule (schedule.is_due (number m) l.schedule) refl lt
    by false = scan_since m t k over l.schedule (schedule.is_due (number m) l.schedule) refl lt
life_scan m t k over l (Some c) lt = by (ends_at (number m) c l)
  where
    by : (b : Bool) → since k (cond b (with_ending l) l).schedule.flight ≡ since k l.schedule.flight
    by true = refl
    by false = refl

act_since : (k : ℕ) (loc : Local) (l : Life) → IsLater k loc → since k (life_after loc l).schedule.flight ≡ cond (stops loc) None (since k l.schedule.flight)
act_since k Nothing l h = refl
act_since k (Scan m t over) l h = life_scan m t k over l l.schedule.closed h
act_since k (Answered took r) l h = refl
act_since k (Change m s) l h = refl
act_since k (Close m) l h = refl

-- each event against the words of the law
difference_stops : (m : ℤ) (v : Difference) → stops (difference_local m v) ≡ not (is_unchanged v)
difference_stops m Incompatible = refl
difference_stops m Same = refl
difference_stops m (Changed s) = refl

job_stops : (m : ℤ) (jobs : List InForce) (l : Life) (o : Option InForce) → stops (job_local m jobs l o) ≡ not (leaves_by jobs l o)
job_stops m jobs l None = refl
job_stops m jobs l (Some after) = by (has_target l.identity after)
  where
    by : (b : Bool) → stops (cond b (difference_local m (difference jobs after)) (Close m)) ≡ not (b && is_unchanged (difference jobs after))
    by true = difference_stops m (difference jobs after)
    by false = refl

reload_stops : (m : ℤ) (jobs : List InForce) (o : Option (List InForce)) (l : Life) → stops (reload_local m jobs o l) ≡ reload_touches jobs o l
reload_stops m jobs None l = refl
reload_stops m jobs (Some news) l = by (is_open l)
  where
    by : (b : Bool) → stops (cond b (job_local m jobs l (job_named (job_name l) news)) Nothing) ≡ (b && not (leaves jobs news l))
    by true = job_stops m jobs l (job_named (job_name l) news)
    by false = refl

tick_stops : (m : ℤ) (t : ℕ) (over b : Bool) → stops (cond b (Scan m t over) Nothing) ≡ false
tick_stops m t over true = refl
tick_stops m t over false = refl

-- the scrape in flight of a life, with its ticket
flying : (k : ℕ) (o : Option InFlight) (m : ℤ) → since k o ≡ Some m → (f : InFlight) × (o ≡ Some f) × (f.ticket ≡ k) × (f.moment ≡ m)
flying k None m e = absurd (false≢true (ap is_some e))
flying k (Some f) m e = by (eqb f.ticket k) refl e
  where
    by : (b : Bool) → eqb f.ticket k ≡ b → cond b (Some f.moment) None ≡ Some m → (g : InFlight) × (Some f ≡ Some g) × (g.ticket ≡ k) × (g.moment ≡ m)
    by true t e = (f, refl, eqb-true f.ticket k t, same_some f.moment m e)
    by false t e = absurd (false≢true (ap is_some e))

-- what a finish finds, by since when its scrape is in flight
abbrev pub found_since : ℕ → Option ℤ → TicketState
found_since n None = Cancelled
found_since n (Some m) = Counts n m

flight_finds : (k n : ℕ) (o : Option InFlight) → found_flight k n o ≡ found_since n (since k o)
flight_finds k n None = refl
flight_finds k n (Some f) = by (eqb f.ticket k)
  where
    by : (b : Bool) → cond b (Counts n f.moment) Cancelled ≡ found_since n (cond b (Some f.moment) None)
    by true = refl
    by false = refl

life_finds : (k n : ℕ) (o : Option Life) → found_life k n o ≡ found_since n (life_since k o)
life_finds k n None = refl
life_finds k n (Some l) = flight_finds k n l.schedule.flight

pub found_ticket : (w : World) (k n : ℕ) (s : Job) (b : Bool) → slice_get w.started k ≡ Some (ticket n s b) → found w k ≡ cond b NotStarted (found_since n (in_flight_since w n k))
found_ticket w k n s b h = ap (found_start w.lives k) h ∙ ap (cond b NotStarted) (life_finds k n (slice_get w.lives n))

module _ (w : World) (n k : ℕ) (s : Job) (l : Life) (at : slice_get w.lives n ≡ Some l) where
  finish_stops : (j : ℕ) (took : ℤ) (r : Reply) (m : ℤ) (q : Bool) → eqb j k ≡ q → slice_get w.started k ≡ Some (ticket n s false) → since k l.schedule.flight ≡ Some m →
      stops (finish_local n took r (found w j)) ≡ q
  finish_stops j took r m true e t f =
      let is : found w j ≡ Counts n m =
      ap (found w) (eqb-true j k e) ∙ (found_ticket w k n s false t ∙ (ap (λ o. found_since n (life_since k o)) at ∙ ap (found_since n) f)) in
      ap (λ z. stops (finish_local n took r z)) is ∙ ap (λ b. stops (cond b (Answered took r) Nothing)) (eq-eqb n n refl)
  finish_stops j took r m false e t f = by (found w j) refl
    where
      by_life : (i : ℕ) (p : ℤ) (b : Bool) → eqb i n ≡ b → found w j ≡ Counts i p → stops (cond b (Answered took r) Nothing) ≡ false
      by_life i p true q h =
          let g = found_flies w j n p l (h ∙ ap (λ z. Counts z p) (eqb-true i n q)) at in
          let f = flying k l.schedule.flight m f in
          let one : g.flight ≡ f.0 = same_some g.flight f.0 (sym g.is ∙ f.1) in
          absurd (true≢false (sym (eq-eqb j k (sym g.ticket ∙ (ap (λ (z : InFlight). z.ticket) one ∙ f.2))) ∙ e))
      by_life i p false q h = refl

      by : (z : TicketState) → found w j ≡ z → stops (finish_local n took r z) ≡ false
      by NotStarted h = refl
      by Cancelled h = refl
      by (Counts i p) h = by_life i p (eqb i n) refl h

  pub live_stops : (e : Event) (m : ℤ) → slice_get w.started k ≡ Some (ticket n s false) → since k l.schedule.flight ≡ Some m →
      stops (live_local w e n l) ≡ (is_finish_of k e || touches w e (Some l))
  live_stops (Load p text) m t f = reload_stops p w.jobs (new_jobs w.jobs (Load p text)) l
  live_stops (Targets p name file text) m t f = reload_stops p w.jobs (new_jobs w.jobs (Targets p name file text)) l
  live_stops (Tick p j) m t f = tick_stops p (length w.started) (is_over w.jobs l) ((eqb j n) && is_open l)
  live_stops (Sweep p) m t f = refl
  live_stops (Finish j took r) m t f = finish_stops j took r m (eqb j k) refl t f ∙ or_no (eqb j k)
  live_stops (Halt p) m t f = refl

difference_later : (k : ℕ) (m : ℤ) (v : Difference) → IsLater k (difference_local m v)
difference_later k m Incompatible = tt
difference_later k m Same = tt
difference_later k m (Changed s) = tt

job_later : (k : ℕ) (m : ℤ) (jobs : List InForce) (l : Life) (o : Option InForce) → IsLater k (job_local m jobs l o)
job_later k m jobs l None = tt
job_later k m jobs l (Some after) = by (has_target l.identity after)
  where
    by : (b : Bool) → IsLater k (cond b (difference_local m (difference jobs after)) (Close m))
    by true = difference_later k m (difference jobs after)
    by false = tt

reload_later : (k : ℕ) (m : ℤ) (jobs : List InForce) (o : Option (List InForce)) (l : Life) → IsLater k (reload_local m jobs o l)
reload_later k m jobs None l = tt
reload_later k m jobs (Some news) l = by (is_open l)
  where
    by : (b : Bool) → IsLater k (cond b (job_local m jobs l (job_named (job_name l) news)) Nothing)
    by true = job_later k m jobs l (job_named (job_name l) news)
    by false = tt

tick_later : (k : ℕ) (m : ℤ) (t : ℕ) (over b : Bool) → k < t → IsLater k (cond b (Scan m t over) Nothing)
tick_later k m t over true h = h
tick_later k m t over false h = tt

finish_later : (k n : ℕ) (took : ℤ) (r : Reply) (f : TicketState) → IsLater k (finish_local n took r f)
finish_later k n took r NotStarted = tt
finish_later k n took r Cancelled = tt
finish_later k n took r (Counts j m) = by (eqb j n)
  where
    by : (b : Bool) → IsLater k (cond b (Answered took r) Nothing)
    by true = tt
    by false = tt

live_later : (w : World) (e : Event) (n k : ℕ) (l : Life) → k < length w.started → IsLater k (live_local w e n l)
live_later w (Load m text) n k l h = reload_later k m w.jobs (new_jobs w.jobs (Load m text)) l
live_later w (Targets m name file text) n k l h = reload_later k m w.jobs (new_jobs w.jobs (Targets m name file text)) l
live_later w (Tick m j) n k l h = tick_later k m (length w.started) (is_over w.jobs l) ((eqb j n) && is_open l) h
live_later w (Sweep m) n k l h = omega arith
live_later w (Finish j took r) n k l h = finish_later k n took r (found w j)
live_later w (Halt m) n k l h = tt

-- one event on
none_cond : (b : Bool) → (let n : Option ℤ = None in cond b n n) ≡ None
none_cond true = refl
none_cond false = refl

not_finished : (b : Bool) (o : Option ℤ) (m : ℤ) → (b ≡ true → o ≡ None) → o ≡ Some m → b ≡ false
not_finished true o m q e = absurd (false≢true (ap is_some (sym (q refl) ∙ e)))
not_finished false o m q e = refl

module _ (w : World) (e : Event) (n k : ℕ) (s : Job) (b : Bool) (t : slice_get w.started k ≡ Some (ticket n s b)) where
  live_since : (l : Life) (o : Option ℤ) → since k l.schedule.flight ≡ o → slice_get w.lives n ≡ Some l → (b ≡ true → since k l.schedule.flight ≡ None) →
      since k (life_after (live_local w e n l) l).schedule.flight ≡ cond (is_finish_of k e || touches w e (Some l)) None (since k l.schedule.flight)
  live_since l None h at q =
      act_since k (live_local w e n l) l (live_later w e n k l (slice_get_within w.started k (ticket n s b) t))
      ∙ (ap (cond (stops (live_local w e n l)) None) h
      ∙ (none_cond (stops (live_local w e n l))
      ∙ sym (ap (cond (is_finish_of k e || touches w e (Some l)) None) h ∙ none_cond (is_finish_of k e || touches w e (Some l)))))
  live_since l (Some m) h at q =
      act_since k (live_local w e n l) l (live_later w e n k l (slice_get_within w.started k (ticket n s b) t))
      ∙ ap (λ z. cond z None (since k l.schedule.flight))
      (live_stops w n k s l at e m (t ∙ ap (λ z. Some (ticket n s z)) (not_finished b (since k l.schedule.flight) m q h)) h)

  local_since : (l : Life) → slice_get w.lives n ≡ Some l → (b ≡ true → since k l.schedule.flight ≡ None) →
      since k (life_after (local w e n l) l).schedule.flight ≡ cond (not w.halted && (is_finish_of k e || touches w e (Some l))) None (since k l.schedule.flight)
  local_since l at q = by w.halted
    where
      by : (h : Bool) →
          since k (life_after (cond h Nothing (live_local w e n l)) l).schedule.flight ≡ cond (not h && (is_finish_of k e || touches w e (Some l))) None (since k l.schedule.flight)
      by true = refl
      by false = live_since l (since k l.schedule.flight) refl at q

  fresh_since : (o : Option Life) → Stays n None o → life_since k o ≡ None
  unfolding born
  fresh_since None f = refl
  fresh_since (Some l) f = ap (λ (z : Life). since k z.schedule.flight) f.3

  flight_at : (o p : Option Life) → slice_get w.lives n ≡ o → Stays n (after_local w e n o) p → (b ≡ true → life_since k o ≡ None) →
      life_since k p ≡ cond (not w.halted && (is_finish_of k e || touches w e o)) None (life_since k o)
  flight_at None p at f q = fresh_since p f ∙ sym (none_cond (not w.halted && (is_finish_of k e || touches w e None)))
  flight_at (Some l) p at f q = ap (life_since k) f ∙ local_since l at q

  pub flight_step : (b ≡ true → in_flight_since w n k ≡ None) → in_flight_since (step w e) n k ≡ cond (ends_flight w n k e) None (in_flight_since w n k)
  flight_step q = flight_at (slice_get w.lives n) (slice_get (step w e).lives n) refl (follows w e n) q

-- whole runs
quiet_on : (b h i t : Bool) (o : Option ℤ) → (b ≡ true → o ≡ None) → (b || (not h && i)) ≡ true → cond (not h && (i || t)) None o ≡ None
quiet_on true h i t o q e = ap (cond (not h && (i || t)) None) (q refl) ∙ none_cond (not h && (i || t))
quiet_on false true i t o q e = absurd (false≢true e)
quiet_on false false true t o q e = refl
quiet_on false false false t o q e = absurd (false≢true e)

both_stay : (e s : Bool) (o : Option ℤ) → cond s (cond e None o) None ≡ cond (not e && s) o None
both_stay true true o = refl
both_stay true false o = refl
both_stay false true o = refl
both_stay false false o = refl

or_assoc : (a b c : Bool) → ((a || b) || c) ≡ (a || (b || c))
or_assoc true b c = refl
or_assoc false b c = refl

pub run_flies : (es : List Event) (w : World) (n k : ℕ) (s : Job) (b : Bool) → slice_get w.started k ≡ Some (ticket n s b) → (b ≡ true → in_flight_since w n k ≡ None) →
    (in_flight_since (run w es) n k ≡ cond (stays w n k es) (in_flight_since w n k) None) × (slice_get (run w es).started k ≡ Some (ticket n s (b || has_finish w k es)))
run_flies [] w n k s b t q = (refl, t ∙ ap (λ z. Some (ticket n s z)) (or_no b))
run_flies (e ∷ es) w n k s b t q =
    let f = flight_step w e n k s b t q in
    let r = run_flies es (step w e) n k s (b || (not w.halted && is_finish_of k e)) (ticket_on w e k n s b t)
    (λ h. f ∙ quiet_on b w.halted (is_finish_of k e) (touches w e (slice_get w.lives n)) (in_flight_since w n k) q h) in (
      r.0 ∙ (ap (λ o. cond (stays (step w e) n k es) o None) f ∙ both_stay (ends_flight w n k e) (stays (step w e) n k es) (in_flight_since w n k)),
      r.1 ∙ ap (λ z. Some (ticket n s z)) (or_assoc b (not w.halted && is_finish_of k e) (has_finish (step w e) k es)),
    )
