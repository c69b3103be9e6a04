-- Each life of a journal has a target that may be asked for its page, and each started scrape has a life.
use Rattle.std.proofs.Common.{◌≡◌, ℕ, ℤ, ◌+◌, ◌<◌, ◌≤◌, Bool, true, false, not, cond, List, [], ◌∷◌, length, length-append, Option, Some, None, refl, sym, subst, arith, zero, suc}
use Rattle.std.specs.Prelude.{All, Result, Ok, Err, slice_get, slice_set}
use Rattle.std.specs.List.{list_any}
use Rattle.std.proofs.lemmas.List.Elements.{All-nil, All-cons, All-head, All-tail, All-append, All-filter, All-weaker}
use Rattle.config_fields.specs.declared.fault.ConfFault.{ConfFault}
use Rattle.journal_text.specs.declared.events.Event.{Event}
use Rattle.journal_text.specs.declared.events.Event.TheVariants.{Load, Targets, Tick, Sweep, Finish, Halt}
use Rattle.journal_text.specs.Lines.{number}
use Rattle.scrape_config.specs.declared.conf.Group.{Group}
use Rattle.target_set.specs.declared.targets.Target.{Target}
use Rattle.jobs_in_force.specs.declared.jobs.Filed.{Filed}
use Rattle.jobs_in_force.specs.declared.jobs.InForce.{InForce}
use Rattle.jobs_in_force.specs.Jobs.{loaded, updated, Unlisted}
use Rattle.jobs_in_force.specs.Settings.{settings_of}
use Rattle.life_roll.specs.Schedules as schedule
use Rattle.scrape_loop.specs.Tracked.{after_forced}
use Rattle.scrape_machine.specs.declared.lives.Life.{Life}
use Rattle.scrape_machine.specs.declared.lives.Local.{Local}
use Rattle.scrape_machine.specs.declared.lives.Local.TheVariants.{Nothing, Scan, Answered, Change, Close}
use Rattle.scrape_machine.specs.declared.lives.StartedScrape.{StartedScrape}
use Rattle.scrape_machine.specs.Lives.{born, ends_at, forces, life_after, scanned_life, with_ending}
use Rattle.scrape_machine.specs.Machine.{World, beginning, after_load, after_update, new_jobs, local, lives_from, lives_after, unheld, holds, born_all, births, begun_with, begun, started_by, start_of, starts_in, starts_from, ticked, finished, started_after, or_else, live_step, step, run, world_of}
use Rattle.scrape_machine.proofs.StepLemmas.{length-lives}
use Rattle.scrape_laws.proofs.AskedLemmas.{MayBeAsked, IsAsked, AreAsked, filed_asked, renewed_asked}

-- the jobs that are in force after an event
jobs_asked : (jobs : List InForce) (e : Event) → All AreAsked jobs → All AreAsked (or_else (new_jobs jobs e) jobs)
jobs_asked jobs (Load m text) h = by (loaded jobs text)
  where
    by : (said : Result (List Filed) ConfFault) → All AreAsked (or_else (after_load said) jobs)
    by (Err fault) = h
    by (Ok fs) = filed_asked fs
jobs_asked jobs (Targets m name file text) h = by (updated jobs name file text)
  where
    by : (said : Result (List Group) Unlisted) → All AreAsked (or_else (after_update jobs name file said) jobs)
    by (Err why) = h
    by (Ok groups) = renewed_asked name file groups jobs h
jobs_asked jobs (Tick m k) h = h
jobs_asked jobs (Sweep m) h = h
jobs_asked jobs (Finish k took r) h = h
jobs_asked jobs (Halt m) h = h

-- a life keeps its target
same_identity : (loc : Local) (l : Life) → (life_after loc l).identity ≡ l.identity
same_identity Nothing l = refl
same_identity (Scan m k over) l = by_closed l.schedule.closed
  where
    by_forced : (b : Bool) →
        (cond b (let z : Life = record l { state = after_forced l.state; schedule = schedule.scanned m k over l.schedule } in z) (record l { schedule = schedule.scanned m k over l.schedule })).identity
        ≡ l.identity
    by_forced true = refl
    by_forced false = refl

    by_end : (b : Bool) → (cond b (with_ending l) l).identity ≡ l.identity
    by_end true = refl
    by_end false = refl

    by_closed : (o : Option ℤ) → (scanned_life m k over l o).identity ≡ l.identity
    by_closed None = by_forced (forces (number m) over l)
    by_closed (Some c) = by_end (ends_at (number m) c l)
same_identity (Answered took r) l = refl
same_identity (Change m s) l = refl
same_identity (Close m) l = refl

abbrev pub HasAsked : Life → Type 0
HasAsked l = MayBeAsked l.identity

lives_asked : (w : World) (e : Event) (n : ℕ) (ls : List Life) → All HasAsked ls → All HasAsked (lives_from w e n ls)
lives_asked w e n [] h = All-nil HasAsked
lives_asked w e n (l ∷ ls) h =
    All-cons HasAsked (life_after (local w e n l) l) (lives_from w e (n + 1) ls)
    (subst MayBeAsked (sym (same_identity (local w e n l) l)) (All-head HasAsked l ls h)) (lives_asked w e (n + 1) ls (All-tail HasAsked l ls h))

-- the lives that begin
born_asked : (m n : ℕ) (j : InForce) (ts : List Target) → All IsAsked ts → All HasAsked (born_all m n j ts)
unfolding born
born_asked m n j [] h = All-nil HasAsked
born_asked m n j (t ∷ ts) h =
    All-cons HasAsked (born m n (settings_of j.job) t) (born_all m (n + 1) j ts) (All-head IsAsked t ts h) (born_asked m (n + 1) j ts (All-tail IsAsked t ts h))

births_asked : (m n : ℕ) (ls : List Life) (js : List InForce) → All AreAsked js → All HasAsked (births m n ls js)
births_asked m n ls [] h = All-nil HasAsked
births_asked m n ls (j ∷ js) h =
    All-append HasAsked (born_all m n j (unheld ls j)) (births m (n + length (unheld ls j)) ls js)
    (born_asked m n j (unheld ls j) (All-filter (λ (t : Target). not (list_any (holds j.job.conf.job_name t) ls)) IsAsked j.kept (All-head AreAsked j js h)))
    (births_asked m (n + length (unheld ls j)) ls js (All-tail AreAsked j js h))

begun_with_asked : (jobs : List InForce) (m : ℕ) (ls : List Life) (p : Option (List InForce)) → All AreAsked (or_else p jobs) → All HasAsked (begun_with m ls p)
begun_with_asked jobs m ls None h = All-nil HasAsked
begun_with_asked jobs m ls (Some news) h = births_asked m (length ls) ls news h

begun_asked : (jobs : List InForce) (e : Event) (ls : List Life) → All AreAsked (or_else (new_jobs jobs e) jobs) → All HasAsked (begun jobs e ls)
begun_asked jobs (Load m text) ls h = begun_with_asked jobs (number m) ls (new_jobs jobs (Load m text)) h
begun_asked jobs (Targets m name file text) ls h = begun_with_asked jobs (number m) ls (new_jobs jobs (Targets m name file text)) h
begun_asked jobs (Tick m k) ls h = All-nil HasAsked
begun_asked jobs (Sweep m) ls h = All-nil HasAsked
begun_asked jobs (Finish k took r) ls h = All-nil HasAsked
begun_asked jobs (Halt m) ls h = All-nil HasAsked

-- a started scrape has one of so many lives
abbrev pub HasLife : ℕ → StartedScrape → Type 0
HasLife count s = s.life < count

one_started : (b : Bool) (n : ℕ) (l : Life) (count : ℕ) → n < count → All (HasLife count) (started_by b n l)
one_started true n l count h = All-cons (HasLife count) (record { life = n; settings = l.settings; finished = false }) [] h (All-nil (HasLife count))
one_started false n l count h = All-nil (HasLife count)

swept_started : (jobs : List InForce) (m n : ℕ) (ls : List Life) (count : ℕ) → n + length ls ≤ count → All (HasLife count) (starts_from jobs m n ls)
swept_started jobs m n [] count h = All-nil (HasLife count)
swept_started jobs m n (l ∷ ls) count h =
    All-append (HasLife count) (start_of jobs m n l) (starts_from jobs m (n + 1) ls) (one_started (starts_in jobs m l) n l count (omega (arith, h)))
    (swept_started jobs m (n + 1) ls count (omega (arith, h)))

there : {A : Type 0} (xs : List A) (k : ℕ) (x : A) → slice_get xs k ≡ Some x → k < length xs
there [] k x e = absurd cc
there (y ∷ ys) zero x e = omega arith
there (y ∷ ys) (suc k) x e = let h = there ys k x e in omega (arith, h)

ticked_started : (jobs : List InForce) (m k : ℕ) (ls : List Life) → All (HasLife (length ls)) (ticked jobs m k (slice_get ls k))
ticked_started jobs m k ls = by (slice_get ls k) refl
  where
    by : (o : Option Life) → slice_get ls k ≡ o → All (HasLife (length ls)) (ticked jobs m k o)
    by None e = All-nil (HasLife (length ls))
    by (Some l) e = one_started (starts_in jobs m l) k l (length ls) (there ls k l e)

set_started : (count : ℕ) (ss : List StartedScrape) (k : ℕ) (s : StartedScrape) → All (HasLife count) ss → slice_get ss k ≡ Some s → All (HasLife count) (slice_set ss k (record s { finished = true }))
set_started count [] k s h e = absurd cc
set_started count (x ∷ ss) zero s h e =
    let is : x ≡ s = cc in
    All-cons (HasLife count) (record s { finished = true }) ss (subst (HasLife count) is (All-head (HasLife count) x ss h)) (All-tail (HasLife count) x ss h)
set_started count (x ∷ ss) (suc k) s h e =
    All-cons (HasLife count) x (slice_set ss k (record s { finished = true })) (All-head (HasLife count) x ss h)
    (set_started count ss k s (All-tail (HasLife count) x ss h) e)

finished_started : (count : ℕ) (ss : List StartedScrape) (k : ℕ) → All (HasLife count) ss → All (HasLife count) (finished (slice_get ss k) ss k)
finished_started count ss k h = by (slice_get ss k) refl
  where
    by : (o : Option StartedScrape) → slice_get ss k ≡ o → All (HasLife count) (finished o ss k)
    by None e = h
    by (Some s) e = set_started count ss k s h e

more_lives : (a b : ℕ) → a ≤ b → (ss : List StartedScrape) → All (HasLife a) ss → All (HasLife b) ss
more_lives a b le ss h = All-weaker (HasLife a) (HasLife b) (λ s k. omega (arith, le, k)) ss h

started_there : (w : World) (e : Event) → All (HasLife (length w.lives)) w.started → All (HasLife (length w.lives)) (started_after w e)
started_there w (Load m text) h = h
started_there w (Targets m name file text) h = h
started_there w (Tick m k) h =
    All-append (HasLife (length w.lives)) w.started (ticked w.jobs (number m) k (slice_get w.lives k)) h (ticked_started w.jobs (number m) k w.lives)
started_there w (Sweep m) h =
    All-append (HasLife (length w.lives)) w.started (starts_from w.jobs (number m) 0 w.lives) h (swept_started w.jobs (number m) 0 w.lives (length w.lives) (omega arith))
started_there w (Finish k took r) h = finished_started (length w.lives) w.started k h
started_there w (Halt m) h = h

lives_stay : (w : World) (e : Event) → length w.lives ≤ length (lives_after w e)
lives_stay w e =
    omega (arith, length-append (lives_from w e 0 w.lives) (begun w.jobs e (lives_from w e 0 w.lives)), length-lives w e 0 w.lives)

-- a world whose lives may be asked, and whose started scrapes have lives
pub record IsAskable (w : World) : Type 0 where
  pub jobs : All AreAsked w.jobs
  pub lives : All HasAsked w.lives
  pub started : All (HasLife (length w.lives)) w.started

step_askable : (w : World) (e : Event) → IsAskable w → IsAskable (step w e)
unfolding step
step_askable w e s = by w.halted
  where
    by : (b : Bool) → IsAskable (cond b w (live_step w e))
    by true = s
    by false =
        let now = jobs_asked w.jobs e s.jobs in
        record {
          jobs = now;
          lives = All-append HasAsked (lives_from w e 0 w.lives) (begun w.jobs e (lives_from w e 0 w.lives)) (lives_asked w e 0 w.lives s.lives)
              (begun_asked w.jobs e (lives_from w e 0 w.lives) now);
          started = more_lives (length w.lives) (length (lives_after w e)) (lives_stay w e) (started_after w e) (started_there w e s.started);
        }

run_askable : (es : List Event) (w : World) → IsAskable w → IsAskable (run w es)
run_askable [] w s = s
run_askable (e ∷ es) w s = run_askable es (step w e) (step_askable w e s)

pub askable : (es : List Event) → IsAskable (world_of es)
askable es = run_askable es beginning (record { jobs = All-nil AreAsked; lives = All-nil HasAsked; started = All-nil (HasLife 0) })
