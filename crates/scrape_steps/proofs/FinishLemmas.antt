-- What a finish does to a world, before any halt.
use Rattle.std.proofs.Common.{◌≡◌, ℕ, ℤ, ◌<◌, List, [], length, set, get_or, eqb, Bool, true, false, cond, refl, sym, ap, ap₂, ◌∙◌, subst, append-nil}
use Rattle.std.specs.Prelude.{slice_get, Option, Some, None}
use Rattle.std.proofs.lemmas.Bool.{eq-eqb, ne_eqb}
use Rattle.std.proofs.lemmas.Option.{get_or_from_slice_get}
use Rattle.outside.specs.declared.replies.Reply.{Reply}
use Rattle.journal_text.specs.declared.events.Event.TheVariants.{Finish}
use Rattle.scrape_loop.specs.Tracked.{fault_of}
use Rattle.life_roll.specs.declared.schedule.InFlight.{InFlight}
use Rattle.scrape_machine.specs.declared.answers.Answer.{Answer}
use Rattle.scrape_machine.specs.declared.answers.Answer.TheVariants.{Counted}
use Rattle.jobs_in_force.specs.declared.jobs.InForce.{InForce}
use Rattle.scrape_machine.specs.declared.lives.Life.{Life}
use Rattle.scrape_machine.specs.declared.lives.StartedScrape.{StartedScrape}
use Rattle.scrape_machine.specs.declared.lives.TicketState.{TicketState}
use Rattle.scrape_machine.specs.declared.lives.TicketState.TheVariants.{NotStarted, Cancelled, Counts}
use Rattle.scrape_machine.specs.declared.lives.Local.TheVariants.{Nothing, Answered}
use Rattle.scrape_machine.specs.Lives.{life_after, life_gives, outcome_for, counted, counted_entries, counting_entries}
use Rattle.scrape_machine.specs.Machine.{world, local, finish_local, finish_answer, fault_at, found, found_flight, found_life, found_start, finished, step, gives, answer}
use Rattle.scrape_steps.specs.Scans.{IsMissed}
use Rattle.scrape_machine.specs.Runs.{runs, finish_runs, life_runs, scrape_runs}
use Rattle.scrape_machine.proofs.OneLemmas.{quiet_lives, quiet_gives, one_life, one_life_gives}

-- what stands behind a finish that counts: the life has the scrape in flight, since the moment
pub record FliesSince (o : Option Life) (m : ℤ) : Type 0 where
  pub life : Life
  pub is : o ≡ Some life
  pub flight : InFlight
  pub flies : life.schedule.flight ≡ Some flight
  pub since : flight.moment ≡ m

flight_found : (k n j : ℕ) (m : ℤ) (o : Option InFlight) → found_flight k n o ≡ Counts j m → (f : InFlight) × (o ≡ Some f) × (f.moment ≡ m) × (n ≡ j)
flight_found k n j m None h = absurd (cc)
flight_found k n j m (Some f) h = by_ticket (eqb f.ticket k) h
  where
    by_ticket : (b : Bool) → cond b (Counts n f.moment) Cancelled ≡ Counts j m → (g : InFlight) × (Some f ≡ Some g) × (g.moment ≡ m) × (n ≡ j)
    by_ticket true h = (f, refl, cc, cc)
    by_ticket false h = absurd (cc)

life_found : (k n j : ℕ) (m : ℤ) (o : Option Life) → found_life k n o ≡ Counts j m → FliesSince o m × (n ≡ j)
life_found k n j m None h = absurd (cc)
life_found k n j m (Some l) h =
    let q = flight_found k n j m l.schedule.flight h in
    (record { life = l; is = refl; flight = q.0; flies = q.1; since = q.2 }, q.3)

start_found : (ls : List Life) (k j : ℕ) (m : ℤ) (o : Option StartedScrape) → found_start ls k o ≡ Counts j m → FliesSince (slice_get ls j) m
start_found ls k j m None h = absurd (cc)
start_found ls k j m (Some s) h = by_finish s.finished h
  where
    by_finish : (b : Bool) → cond b NotStarted (found_life k s.life (slice_get ls s.life)) ≡ Counts j m → FliesSince (slice_get ls j) m
    by_finish true h = absurd (cc)
    by_finish false h =
        let q = life_found k s.life j m (slice_get ls s.life) h in
        let P : ℕ → Type 0 = λ n. FliesSince (slice_get ls n) m in
        subst P q.1 q.0

module _ (jobs : List InForce) (ls : List Life) (ss : List StartedScrape) (k : ℕ) (took : ℤ) (r : Reply) where
  -- a finish that finds no life
  missed_local : (a : Answer) (f : TicketState) → IsMissed a f → (n : ℕ) → finish_local n took r f ≡ Nothing
  missed_local a NotStarted h n = refl
  missed_local a Cancelled h n = refl
  missed_local a (Counts j m) h n = absurd h

  missed_runs_by : (a : Answer) (f : TicketState) → IsMissed a f → finish_runs (world jobs ls ss) took r f ≡ 0
  missed_runs_by a NotStarted h = refl
  missed_runs_by a Cancelled h = refl
  missed_runs_by a (Counts j m) h = absurd h

  missed_answer : (a : Answer) (f : TicketState) → IsMissed a f → a ≡ finish_answer (world jobs ls ss) took r f
  missed_answer a NotStarted h = h
  missed_answer a Cancelled h = h
  missed_answer a (Counts j m) h = absurd h

  pub missed_step : (a : Answer) → IsMissed a (found (world jobs ls ss) k) → step (world jobs ls ss) (Finish k took r) ≡ world jobs ls (finished (slice_get ss k) ss k)
  unfolding step
  missed_step a h =
      ap (λ (z : List Life). world jobs z (finished (slice_get ss k) ss k))
      (append-nil _ ∙ quiet_lives (world jobs ls ss) (Finish k took r) (λ n l. missed_local a (found (world jobs ls ss) k) h n) 0 ls)

  pub missed_silent : (a : Answer) → IsMissed a (found (world jobs ls ss) k) → gives (world jobs ls ss) (Finish k took r) ≡ []
  unfolding gives
  missed_silent a h = quiet_gives (world jobs ls ss) (Finish k took r) (λ n l. missed_local a (found (world jobs ls ss) k) h n) 0 ls

  pub missed_said : (a : Answer) → IsMissed a (found (world jobs ls ss) k) → a ≡ answer (world jobs ls ss) (Finish k took r)
  unfolding answer
  missed_said a h = missed_answer a (found (world jobs ls ss) k) h

  pub missed_runs : (a : Answer) → IsMissed a (found (world jobs ls ss) k) → runs (world jobs ls ss) (Finish k took r) ≡ 0
  unfolding runs
  missed_runs a h = missed_runs_by a (found (world jobs ls ss) k) h

  -- a finish that counts
  module _ (j : ℕ) (m : ℤ) (e : found (world jobs ls ss) k ≡ Counts j m) where
    other : (n : ℕ) (l : Life) → (j ≡ n → ⊥) → local (world jobs ls ss) (Finish k took r) n l ≡ Nothing
    other n l h = ap (finish_local n took r) e ∙ ap (λ b. cond b (Answered took r) Nothing) (ne_eqb j n h)

    here : (l : Life) → local (world jobs ls ss) (Finish k took r) j l ≡ Answered took r
    here l = ap (finish_local j took r) e ∙ ap (λ b. cond b (Answered took r) Nothing) (eq-eqb j j refl)

    pub counted_world : (ts : List StartedScrape) (d y : Life) → j < length ls → y ≡ counted (get_or ls j d) took r →
        ts ≡ finished (slice_get ss k) ss k → world jobs (set ls j y) ts ≡ step (world jobs ls ss) (Finish k took r)
    unfolding step
    counted_world ts d y lt hy ht =
        let q = start_found ls k j m (slice_get ss k) e in
        let at : q.life ≡ get_or ls j q.life = sym (get_or_from_slice_get ls j q.life q.life q.is) in
        let new : y ≡ counted q.life took r = hy ∙ ap (λ (l : Life). counted l took r) (get_or_from_slice_get ls j q.life d q.is) in
        ap₂ (λ z zs. world jobs (set ls j z) zs) new ht
        ∙ ap (λ (z : List Life). world jobs z (finished (slice_get ss k) ss k))
        (sym (append-nil _ ∙ one_life (world jobs ls ss) (Finish k took r) j other ls q.life lt at ∙ ap (λ p. set ls j (life_after p q.life)) (here q.life)))

    pub counted_book : (d : Life) → j < length ls →
        gives (world jobs ls ss) (Finish k took r) ≡ counted_entries (get_or ls j d) took r m
    unfolding gives
    counted_book d lt =
        let q = start_found ls k j m (slice_get ss k) e in
        let at : q.life ≡ get_or ls j q.life = sym (get_or_from_slice_get ls j q.life q.life q.is) in
        one_life_gives (world jobs ls ss) (Finish k took r) j other ls q.life lt at
        ∙ ap (λ p. life_gives p q.life) (here q.life)
        ∙ ap (counting_entries q.life took r (outcome_for q.life took r)) q.flies
        ∙ ap (λ i. counted_entries q.life took r i) q.since
        ∙ ap (λ l. counted_entries l took r m) (sym (get_or_from_slice_get ls j q.life d q.is))

    pub counted_answer : (d : Life) → answer (world jobs ls ss) (Finish k took r) ≡ Counted (fault_of (outcome_for (get_or ls j d) took r))
    unfolding answer
    counted_answer d =
        let q = start_found ls k j m (slice_get ss k) e in
        ap (finish_answer (world jobs ls ss) took r) e
        ∙ ap (λ o. Counted (fault_at took r o)) q.is
        ∙ ap (λ l. Counted (fault_of (outcome_for l took r))) (sym (get_or_from_slice_get ls j q.life d q.is))

    pub counted_runs : (d : Life) → runs (world jobs ls ss) (Finish k took r) ≡ scrape_runs took r (get_or ls j d)
    unfolding runs
    counted_runs d =
        let q = start_found ls k j m (slice_get ss k) e in
        ap (finish_runs (world jobs ls ss) took r) e
        ∙ ap (life_runs took r) q.is
        ∙ ap (scrape_runs took r) (sym (get_or_from_slice_get ls j q.life d q.is))
