-- How often relabelling rules are run by events before any halt, and by one more event of a journal.
use Rattle.std.proofs.Common.{◌≡◌, ℕ, ℤ, ◌+◌, Bool, true, false, cond, List, [], ◌∷◌, ◌++◌, refl, ap, arith}
use Rattle.std.specs.Prelude.{Some, None}
use Rattle.journal_text.specs.declared.events.Event.{Event}
use Rattle.journal_text.specs.declared.events.Event.TheVariants.{Load, Targets, Tick, Sweep, Halt}
use Rattle.jobs_in_force.specs.declared.jobs.InForce.{InForce}
use Rattle.jobs_in_force.specs.Listed.{listed_by, listed_by_named}
use Rattle.scrape_machine.specs.declared.lives.Life.{Life}
use Rattle.scrape_machine.specs.declared.lives.StartedScrape.{StartedScrape}
use Rattle.scrape_machine.specs.Machine.{World, world, new_jobs, run, step, world_of}
use Rattle.scrape_machine.specs.Runs.{runs, live_runs, load_runs, update_runs, runs_from, runs_of}

-- loads and updates, and events that run nothing
module _ (jobs : List InForce) (ls : List Life) (ss : List StartedScrape) (m : ℤ) where
  pub load_taken_runs : (text : List ℕ) (news : List InForce) → new_jobs jobs (Load m text) ≡ Some news → runs (world jobs ls ss) (Load m text) ≡ listed_by news
  unfolding runs
  load_taken_runs text news h = ap load_runs h

  pub load_refused_runs : (text : List ℕ) → new_jobs jobs (Load m text) ≡ None → runs (world jobs ls ss) (Load m text) ≡ 0
  unfolding runs
  load_refused_runs text h = ap load_runs h

  pub update_taken_runs : (name file text : List ℕ) (news : List InForce) → new_jobs jobs (Targets m name file text) ≡ Some news →
      runs (world jobs ls ss) (Targets m name file text) ≡ listed_by_named name news
  unfolding runs
  update_taken_runs name file text news h = ap (update_runs name) h

  pub update_refused_runs : (name file text : List ℕ) → new_jobs jobs (Targets m name file text) ≡ None → runs (world jobs ls ss) (Targets m name file text) ≡ 0
  unfolding runs
  update_refused_runs name file text h = ap (update_runs name) h

  pub tick_runs : (k : ℕ) → runs (world jobs ls ss) (Tick m k) ≡ 0
  unfolding runs
  tick_runs k = refl

  pub sweep_runs : runs (world jobs ls ss) (Sweep m) ≡ 0
  unfolding runs
  sweep_runs = refl

-- a halt, and an event after one
halt_runs_by : (b : Bool) → cond {A = ℕ} b 0 0 ≡ 0
halt_runs_by true = refl
halt_runs_by false = refl

pub halt_runs : (w : World) (m : ℤ) → runs w (Halt m) ≡ 0
unfolding runs
halt_runs w m = halt_runs_by w.halted

pub dead_runs : (w : World) (e : Event) → w.halted ≡ true → runs w e ≡ 0
unfolding runs
dead_runs w e h = ap (λ b. cond b 0 (live_runs w e)) h

-- one more event
runs_push : (w : World) (es : List Event) (e : Event) → runs_from w (es ++ e ∷ []) ≡ runs_from w es + runs (run w es) e
runs_push w [] e = omega arith
runs_push w (f ∷ es) e = omega (arith, runs_push (step w f) es e)

pub runs_of_push : (es : List Event) (e : Event) → runs_of (es ++ e ∷ []) ≡ runs_of es + runs (world_of es) e
runs_of_push es e = runs_push _ es e
