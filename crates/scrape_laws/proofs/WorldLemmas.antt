-- One event on, over all lives.
use Rattle.std.proofs.Common.{◌≡◌, ℕ, ℤ, zero, suc, ◌+◌, ◌<◌, Bool, true, false, ◌&&◌, cond, List, [], ◌∷◌, ◌++◌, length, Option, Some, None, is_some, option_map, slice_get, refl, sym, ap, ap₂, subst, ◌∙◌, arith, append-nil, eqb, eqb-true}
use Rattle.std.specs.List.{filter}
use Rattle.std.proofs.lemmas.Bool.{false≢true}
use Rattle.std.proofs.lemmas.List.Elements.{filter-append}
use Rattle.outside.specs.declared.replies.Reply.{Reply}
use Rattle.journal_text.specs.declared.events.Event.{Event}
use Rattle.journal_text.specs.declared.events.Event.TheVariants.{Load, Targets, Tick, Sweep, Finish, Halt}
use Rattle.journal_text.specs.Lines.{number}
use Rattle.scrape_config.specs.declared.conf.Job.{Job}
use Rattle.target_set.specs.declared.targets.Target.{Target}
use Rattle.jobs_in_force.specs.declared.jobs.InForce.{InForce}
use Rattle.jobs_in_force.specs.Jobs.{job_named, has_target}
use Rattle.jobs_in_force.specs.Settings.{settings_of}
use Rattle.life_roll.specs.Schedules as schedule
use Rattle.life_roll.specs.declared.schedule.InFlight.{InFlight}
use Rattle.scrape_loop.specs.Tracked.{after_forced}
use Rattle.report_samples.specs.declared.entries.Entry.{Entry}
use Rattle.sample_rows.specs.Outcomes.{forced}
use Rattle.scrape_machine.specs.declared.lives.Life.{Life}
use Rattle.scrape_machine.specs.declared.lives.StartedScrape.{StartedScrape}
use Rattle.scrape_machine.specs.declared.lives.TicketState.{TicketState}
use Rattle.scrape_machine.specs.declared.lives.TicketState.TheVariants.{NotStarted, Cancelled, Counts}
use Rattle.scrape_machine.specs.declared.lives.Local.{Local}
use Rattle.scrape_machine.specs.declared.lives.Local.TheVariants.{Nothing, Scan, Answered, Change, Close}
use Rattle.scrape_machine.specs.declared.lives.Difference.{Difference}
use Rattle.scrape_machine.specs.declared.lives.Difference.TheVariants.{Incompatible, Same, Changed}
use Rattle.scrape_machine.specs.Lives.{is_open, born, forces, ends_at, outcome_for, scanned_life, with_ending, life_after, life_gives}
use Rattle.scrape_machine.specs.Machine.{World, new_jobs, job_name, difference, difference_local, job_local, reload_local, is_over, found_flight, found_life, found_start, found, finish_local, live_local, local, lives_from, gives_from, unheld, born_all, births, begun_with, begun, live_step, step, gives}
use Rattle.scrape_laws.specs.Scrapes.{LifeScrape, counting, forcing, live_scrape, scrape_at}
use Rattle.scrape_laws.proofs.LifeLemmas.{Fits, flight_scrape, act_scrape, closed_forces, other_life}
use Rattle.scrape_laws.proofs.EntryLemmas.{Skips}

-- what a finish finds in flight
pub record Flies (l : Life) (k : ℕ) (m : ℤ) : Type 0 where
  pub flight : InFlight
  pub is : l.schedule.flight ≡ Some flight
  pub ticket : flight.ticket ≡ k
  pub since : flight.moment ≡ m

same_number : (a b : ℕ) (m p : ℤ) → Counts a m ≡ Counts b p → a ≡ b
same_number a b m p e = cc

same_moment : (a b : ℕ) (m p : ℤ) → Counts a m ≡ Counts b p → m ≡ p
same_moment a b m p e = cc

pub same_some : {A : Type 0} (a b : A) → Some a ≡ Some b → a ≡ b
same_some a b e = cc

flight_found : (k i n : ℕ) (m : ℤ) (o : Option InFlight) → found_flight k i o ≡ Counts n m → (i ≡ n) × ((f : InFlight) × (o ≡ Some f) × (f.ticket ≡ k) × (f.moment ≡ m))
flight_found k i n m None h = absurd (cc)
flight_found k i n m (Some f) h = by (eqb f.ticket k) refl h
  where
    by : (b : Bool) → eqb f.ticket k ≡ b → cond b (Counts i f.moment) Cancelled ≡ Counts n m → (i ≡ n) × ((g : InFlight) × (Some f ≡ Some g) × (g.ticket ≡ k) × (g.moment ≡ m))
    by true e h = (same_number i n f.moment m h, (f, refl, eqb-true f.ticket k e, same_moment i n f.moment m h))
    by false e h = absurd (cc)

life_found : (k i n : ℕ) (m : ℤ) (o : Option Life) → found_life k i o ≡ Counts n m → (i ≡ n) × ((l : Life) × (o ≡ Some l) × Flies l k m)
life_found k i n m None h = absurd (cc)
life_found k i n m (Some l) h =
    let q = flight_found k i n m l.schedule.flight h in
    (q.0, (l, refl, record { flight = q.1.0; is = q.1.1; ticket = q.1.2; since = q.1.3 }))

start_found : (ls : List Life) (k n : ℕ) (m : ℤ) (l : Life) (o : Option StartedScrape) → found_start ls k o ≡ Counts n m → slice_get ls n ≡ Some l → Flies l k m
start_found ls k n m l None h at = absurd (cc)
start_found ls k n m l (Some s) h at = by s.finished h
  where
    by : (b : Bool) → cond b NotStarted (found_life k s.life (slice_get ls s.life)) ≡ Counts n m → Flies l k m
    by true h = absurd (cc)
    by false h =
        let q = life_found k s.life n m (slice_get ls s.life) h in
        let same : l ≡ q.1.0 = same_some l q.1.0 (sym at ∙ (ap (slice_get ls) (sym q.0) ∙ q.1.1)) in
        subst (λ (z : Life). Flies z k m) (sym same) q.1.2

pub found_flies : (w : World) (k n : ℕ) (m : ℤ) (l : Life) → found w k ≡ Counts n m → slice_get w.lives n ≡ Some l → Flies l k m
found_flies w k n m l h at = start_found w.lives k n m l (slice_get w.started k) h at

-- what comes to a life fits it, and makes the scrape count that the event makes count
pub record Suits (sc : List LifeScrape) (loc : Local) (l : Life) : Type 0 where
  pub fits : Fits loc l
  pub same : sc ≡ act_scrape loc l

nothing_suits : (l : Life) → Suits [] Nothing l
nothing_suits l = record { fits = tt; same = refl }

difference_suits : (m : ℤ) (l : Life) (v : Difference) → is_open l ≡ true → Suits [] (difference_local m v) l
difference_suits m l Incompatible o = record { fits = o; same = refl }
difference_suits m l Same o = nothing_suits l
difference_suits m l (Changed s) o = record { fits = o; same = refl }

job_suits : (m : ℤ) (jobs : List InForce) (l : Life) (o : Option InForce) → is_open l ≡ true → Suits [] (job_local m jobs l o) l
job_suits m jobs l None o = record { fits = o; same = refl }
job_suits m jobs l (Some after) o = by (has_target l.identity after)
  where
    by : (b : Bool) → Suits [] (cond b (difference_local m (difference jobs after)) (Close m)) l
    by true = difference_suits m l (difference jobs after) o
    by false = record { fits = o; same = refl }

reload_suits : (m : ℤ) (jobs : List InForce) (o : Option (List InForce)) (l : Life) → Suits [] (reload_local m jobs o l) l
reload_suits m jobs None l = nothing_suits l
reload_suits m jobs (Some news) l = by (is_open l) refl
  where
    by : (b : Bool) → is_open l ≡ b → Suits [] (cond b (job_local m jobs l (job_named (job_name l) news)) Nothing) l
    by true e = job_suits m jobs l (job_named (job_name l) news) e
    by false e = nothing_suits l

tick_suits : (jobs : List InForce) (m : ℤ) (k : ℕ) (l : Life) (b q : Bool) → is_open l ≡ q →
    Suits (cond b (forcing jobs m l) []) (cond (b && q) (Scan m k (is_over jobs l)) Nothing) l
tick_suits jobs m k l true true e = record { fits = tt; same = refl }
tick_suits jobs m k l true false e =
    record { fits = tt; same = ap (λ z. cond z (record { moment = m; outcome = forced } ∷ []) []) (closed_forces (number m) (is_over jobs l) l e) }
tick_suits jobs m k l false q e = nothing_suits l

finish_suits : (w : World) (k n : ℕ) (took : ℤ) (r : Reply) (l : Life) (f : TicketState) → found w k ≡ f → slice_get w.lives n ≡ Some l →
    Suits (counting n l took r f) (finish_local n took r f) l
finish_suits w k n took r l NotStarted e at = nothing_suits l
finish_suits w k n took r l Cancelled e at = nothing_suits l
finish_suits w k n took r l (Counts j m) e at = by (eqb j n) refl
  where
    by : (b : Bool) → eqb j n ≡ b → Suits (cond b (record { moment = m; outcome = outcome_for l took r } ∷ []) []) (cond b (Answered took r) Nothing) l
    by true t =
        let q = found_flies w k n m l (e ∙ ap (λ i. Counts i m) (eqb-true j n t)) at in
        record {
          fits = ap is_some q.is;
          same = ap (λ (z : ℤ). let s : LifeScrape = record { moment = z; outcome = outcome_for l took r } in s ∷ []) (sym q.since) ∙ sym (ap (flight_scrape (outcome_for l took r)) q.is);
        }
    by false t = nothing_suits l

live_suits : (w : World) (e : Event) (n : ℕ) (l : Life) → slice_get w.lives n ≡ Some l → Suits (live_scrape w e n l) (live_local w e n l) l
live_suits w (Load m text) n l at = reload_suits m w.jobs (new_jobs w.jobs (Load m text)) l
live_suits w (Targets m name file text) n l at = reload_suits m w.jobs (new_jobs w.jobs (Targets m name file text)) l
live_suits w (Tick m k) n l at = tick_suits w.jobs m (length w.started) l (eqb k n) (is_open l) refl
live_suits w (Sweep m) n l at = record { fits = tt; same = refl }
live_suits w (Finish k took r) n l at = finish_suits w k n took r l (found w k) refl at
live_suits w (Halt m) n l at = nothing_suits l

pub suits : (w : World) (e : Event) (n : ℕ) (l : Life) → slice_get w.lives n ≡ Some l → Suits (scrape_at w e n (Some l)) (local w e n l) l
suits w e n l at = by w.halted
  where
    by : (b : Bool) → Suits (cond b [] (live_scrape w e n l)) (cond b Nothing (live_local w e n l)) l
    by true = nothing_suits l
    by false = live_suits w e n l at

-- an event keeps a life's number
pub keeps_number : (loc : Local) (l : Life) → (life_after loc l).state.life ≡ l.state.life
keeps_number Nothing l = refl
keeps_number (Scan m k over) l = scan_keeps l.schedule.closed
  where
    scan_keeps : (o : Option ℤ) → (scanned_life m k over l o).state.life ≡ l.state.life
    scan_keeps None = by (forces (number m) over l)
      where
        by : (b : Bool) → (cond b (record l { state = after_forced l.state; schedule = schedule.scanned m k over l.schedule }) (record l { schedule = schedule.scanned m k over l.schedule })).state.life ≡ l.state.life
        by true = refl
        by false = refl
    scan_keeps (Some c) = by (ends_at (number m) c l)
      where
        by : (b : Bool) → (cond b (with_ending l) l).state.life ≡ l.state.life
        by true = refl
        by false = refl
keeps_number (Answered took r) l = refl
keeps_number (Change m s) l = refl
keeps_number (Close m) l = refl

-- the lives have the numbers of their places, from i on
abbrev pub AreNumbered : ℕ → List Life → Type 0
AreNumbered i [] = Unit {0}
AreNumbered i (l ∷ ls) = (l.state.life ≡ i) × AreNumbered (i + 1) ls

-- a life that has just begun with number n
abbrev pub IsFresh : ℕ → Life → Type 0
IsFresh n l = (m : ℕ) × (s : Job) × (t : Target) × (l ≡ born m n s t)

abbrev pub Fresh : ℕ → Option Life → Type 0
Fresh n None = Unit {0}
Fresh n (Some l) = IsFresh n l

abbrev pub AreFresh : ℕ → List Life → Type 0
AreFresh i [] = Unit {0}
AreFresh i (l ∷ ls) = IsFresh i l × AreFresh (i + 1) ls

fresh_number : (n : ℕ) (l : Life) → IsFresh n l → l.state.life ≡ n
unfolding born
fresh_number n l f = ap (λ (z : Life). z.state.life) f.3

fresh_append : (i j : ℕ) (xs ys : List Life) → AreFresh i xs → j ≡ i + length xs → AreFresh j ys → AreFresh i (xs ++ ys)
fresh_append i j [] ys f e g = let q : j ≡ i = omega arith in subst (λ k. AreFresh k ys) q g
fresh_append i j (x ∷ xs) ys f e g = (f.0, fresh_append (i + 1) j xs ys f.1 (omega arith) g)

born_fresh : (m i : ℕ) (j : InForce) (ts : List Target) → AreFresh i (born_all m i j ts)
born_fresh m i j [] = tt
born_fresh m i j (t ∷ ts) = ((m, settings_of j.job, t, refl), born_fresh m (i + 1) j ts)

born_length : (m i : ℕ) (j : InForce) (ts : List Target) → length (born_all m i j ts) ≡ length ts
born_length m i j [] = refl
born_length m i j (t ∷ ts) = ap (λ k. suc k) (born_length m (i + 1) j ts)

births_fresh : (m i : ℕ) (ls : List Life) (js : List InForce) → AreFresh i (births m i ls js)
births_fresh m i ls [] = tt
births_fresh m i ls (j ∷ js) =
    fresh_append i (i + length (unheld ls j)) (born_all m i j (unheld ls j)) (births m (i + length (unheld ls j)) ls js) (born_fresh m i j (unheld ls j))
    (ap (λ k. i + k) (sym (born_length m i j (unheld ls j)))) (births_fresh m (i + length (unheld ls j)) ls js)

begun_some : (m : ℕ) (ls : List Life) (o : Option (List InForce)) → AreFresh (length ls) (begun_with m ls o)
begun_some m ls None = tt
begun_some m ls (Some jobs) = births_fresh m (length ls) ls jobs

begun_fresh : (jobs : List InForce) (e : Event) (ls : List Life) → AreFresh (length ls) (begun jobs e ls)
begun_fresh jobs (Load m text) ls = begun_some (number m) ls (new_jobs jobs (Load m text))
begun_fresh jobs (Targets m name file text) ls = begun_some (number m) ls (new_jobs jobs (Targets m name file text))
begun_fresh jobs (Tick m k) ls = tt
begun_fresh jobs (Sweep m) ls = tt
begun_fresh jobs (Finish k took r) ls = tt
begun_fresh jobs (Halt m) ls = tt

numbered_append : (i j : ℕ) (xs ys : List Life) → AreNumbered i xs → j ≡ i + length xs → AreFresh j ys → AreNumbered i (xs ++ ys)
numbered_append i j [] ys f e g = let q : j ≡ i = omega arith in numbered_fresh i ys (subst (λ k. AreFresh k ys) q g)
  where
    numbered_fresh : (i : ℕ) (ys : List Life) → AreFresh i ys → AreNumbered i ys
    numbered_fresh i [] g = tt
    numbered_fresh i (y ∷ ys) g = (fresh_number i y g.0, numbered_fresh (i + 1) ys g.1)
numbered_append i j (x ∷ xs) ys f e g = (f.0, numbered_append (i + 1) j xs ys f.1 (omega arith) g)

lives_numbered : (w : World) (e : Event) (i : ℕ) (ls : List Life) → AreNumbered i ls → AreNumbered i (lives_from w e i ls)
lives_numbered w e i [] h = tt
lives_numbered w e i (l ∷ ls) h = (keeps_number (local w e i l) l ∙ h.0, lives_numbered w e (i + 1) ls h.1)

pub step_numbered : (w : World) (e : Event) → AreNumbered 0 w.lives → AreNumbered 0 (step w e).lives
unfolding step
step_numbered w e h = by w.halted
  where
    by : (b : Bool) → AreNumbered 0 (cond b w (live_step w e)).lives
    by true = h
    by false =
        numbered_append 0 (length (lives_from w e 0 w.lives)) (lives_from w e 0 w.lives) (begun w.jobs e (lives_from w e 0 w.lives))
        (lives_numbered w e 0 w.lives h) (omega arith) (begun_fresh w.jobs e (lives_from w e 0 w.lives))

-- the entries of life n
abbrev pub at_gives : World → Event → ℕ → (Entry → Bool) → Option Life → List Entry
at_gives w e n p None = []
at_gives w e n p (Some l) = filter p (life_gives (local w e n l) l)

-- the test leaves out the entries of all other lives
abbrev pub Only : (Entry → Bool) → ℕ → Type 0
Only p n = (e : Entry) → (e.life ≡ n → ⊥) → p e ≡ false

skips : (p : Entry → Bool) (n i k : ℕ) → Only p n → i ≡ k → (k ≡ n → ⊥) → Skips p i
skips p n i k only e ne = λ x at. only x (λ q. ne (sym e ∙ (sym at ∙ q)))

gives_past : (w : World) (e : Event) (n : ℕ) (p : Entry → Bool) (i : ℕ) (ls : List Life) → Only p n → AreNumbered i ls → n < i → filter p (gives_from w e i ls) ≡ []
gives_past w e n p i [] only h lt = refl
gives_past w e n p i (l ∷ ls) only h lt =
    filter-append p (life_gives (local w e i l) l) (gives_from w e (i + 1) ls)
    ∙ ap₂ ◌++◌ (other_life p (local w e i l) l (skips p n l.state.life i only h.0 (λ q. absurd (omega arith)))) (gives_past w e n p (i + 1) ls only h.1 (omega arith))

gives_here : (w : World) (e : Event) (n : ℕ) (p : Entry → Bool) (l : Life) (ls : List Life) → Only p n → AreNumbered n (l ∷ ls) →
    filter p (gives_from w e n (l ∷ ls)) ≡ at_gives w e n p (Some l)
gives_here w e n p l ls only h =
    filter-append p (life_gives (local w e n l) l) (gives_from w e (n + 1) ls)
    ∙ (ap (λ es. filter p (life_gives (local w e n l) l) ++ es) (gives_past w e n p (n + 1) ls only h.1 (omega arith)) ∙ append-nil _)

gives_place : (w : World) (e : Event) (n : ℕ) (p : Entry → Bool) (i j : ℕ) (ls : List Life) → Only p n → AreNumbered i ls → n ≡ i + j →
    filter p (gives_from w e i ls) ≡ at_gives w e n p (slice_get ls j)
gives_place w e n p i j [] only h q = refl
gives_place w e n p i zero (l ∷ ls) only h q =
    let s : i ≡ n = omega arith in
    ap (λ k. filter p (gives_from w e k (l ∷ ls))) s ∙ gives_here w e n p l ls only (subst (λ k. AreNumbered k (l ∷ ls)) s h)
gives_place w e n p i (suc j) (l ∷ ls) only h q =
    filter-append p (life_gives (local w e i l) l) (gives_from w e (i + 1) ls)
    ∙ ap₂ ◌++◌ (other_life p (local w e i l) l (skips p n l.state.life i only h.0 (λ r. absurd (omega arith)))) (gives_place w e n p (i + 1) j ls only h.1 (omega arith))

pub gives_at : (w : World) (e : Event) (n : ℕ) (p : Entry → Bool) → Only p n → AreNumbered 0 w.lives → filter p (gives w e) ≡ at_gives w e n p (slice_get w.lives n)
unfolding gives
gives_at w e n p only h = gives_place w e n p 0 n w.lives only h (omega arith)

-- the lives by number
lives_at : (w : World) (e : Event) (n i j : ℕ) (ls : List Life) → n ≡ i + j →
    slice_get (lives_from w e i ls) j ≡ option_map (λ l. life_after (local w e n l) l) (slice_get ls j)
lives_at w e n i j [] p = refl
lives_at w e n i zero (l ∷ ls) p =
    let q : i ≡ n = omega arith in
    ap (λ k. Some (life_after (local w e k l) l)) q
lives_at w e n i (suc j) (l ∷ ls) p = lives_at w e n (i + 1) j ls (omega arith)

abbrev pub after_local : World → Event → ℕ → Option Life → Option Life
after_local w e n o = option_map (λ l. life_after (local w e n l) l) o

-- the life is as given, or was none and is fresh
abbrev pub Stays : ℕ → Option Life → Option Life → Type 0
Stays n None o = Fresh n o
Stays n (Some l) o = o ≡ Some l

stays_refl : (n : ℕ) (o : Option Life) → Stays n o o
stays_refl n None = tt
stays_refl n (Some l) = refl

fresh_at : (n i j : ℕ) (ys : List Life) → AreFresh i ys → n ≡ i + j → Fresh n (slice_get ys j)
fresh_at n i j [] f e = tt
fresh_at n i zero (y ∷ ys) f e = let q : i ≡ n = omega arith in subst (λ k. IsFresh k y) q f.0
fresh_at n i (suc j) (y ∷ ys) f e = fresh_at n (i + 1) j ys f.1 (omega arith)

append_stays : (o : Option Life) (n i j : ℕ) (xs ys : List Life) → AreFresh (i + length xs) ys → n ≡ i + j → Stays n o (slice_get xs j) → Stays n o (slice_get (xs ++ ys) j)
append_stays None n i j [] ys f e s = fresh_at n i j ys (subst (λ k. AreFresh k ys) (let q : i + 0 ≡ i = omega arith in q) f) e
append_stays (Some l) n i j [] ys f e s = absurd (false≢true (ap is_some s))
append_stays o n i zero (x ∷ xs) ys f e s = s
append_stays o n i (suc j) (x ∷ xs) ys f e s =
    append_stays o n (i + 1) j xs ys (subst (λ k. AreFresh k ys) (let q : i + suc (length xs) ≡ (i + 1) + length xs = omega arith in q) f) (omega arith) s

pub follows : (w : World) (e : Event) (n : ℕ) → Stays n (after_local w e n (slice_get w.lives n)) (slice_get (step w e).lives n)
unfolding step
follows w e n = by w.halted refl
  where
    dead : (o : Option Life) → Stays n (option_map (λ l. life_after Nothing l) o) o
    dead None = tt
    dead (Some l) = refl

    by : (b : Bool) → w.halted ≡ b → Stays n (option_map (λ l. life_after (cond b Nothing (live_local w e n l)) l) (slice_get w.lives n)) (slice_get (cond b w (live_step w e)).lives n)
    by true h = dead (slice_get w.lives n)
    by false h =
        let same : slice_get (lives_from w e 0 w.lives) n ≡ option_map (λ l. life_after (live_local w e n l) l) (slice_get w.lives n) =
        lives_at w e n 0 n w.lives (omega arith) ∙ ap (λ b. option_map (λ l. life_after (cond b Nothing (live_local w e n l)) l) (slice_get w.lives n)) h in
        append_stays (option_map (λ l. life_after (live_local w e n l) l) (slice_get w.lives n)) n 0 n (lives_from w e 0 w.lives) (begun w.jobs e (lives_from w e 0 w.lives))
        (subst (λ k. AreFresh k (begun w.jobs e (lives_from w e 0 w.lives))) (let q : length (lives_from w e 0 w.lives) ≡ 0 + length (lives_from w e 0 w.lives) = omega arith in q)
        (begun_fresh w.jobs e (lives_from w e 0 w.lives))) (omega arith)
        (subst (λ (o : Option Life). Stays n (option_map (λ l. life_after (live_local w e n l) l) (slice_get w.lives n)) o) (sym same) (stays_refl n _))
