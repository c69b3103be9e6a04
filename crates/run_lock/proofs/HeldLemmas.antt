-- The journal of a run, after each event.
use Rattle.std.proofs.Common.{◌≡◌, ℕ, ℤ, ◌+◌, ◌<◌, ◌≤◌, ◌==◌, List, [], ◌∷◌, ◌++◌, set, cond, refl, sym, ap, ◌∙◌, arith}
use Rattle.std.specs.Prelude.{Option, Some, None, slice_get, nat_lt}
use Rattle.std.proofs.lemmas.Bool.Decides.{nat_tests}
use Rattle.journal_text.specs.Events.{IsJournal}
use Rattle.journal_text.specs.declared.events.Event.{Event}
use Rattle.journal_text.specs.declared.events.Event.TheVariants.{Load, Targets, Tick, Sweep, Finish, Halt}
use Rattle.outside.specs.declared.replies.Reply.{Reply}
use Rattle.scrape_machine.specs.Machine.{world_of}
use Rattle.scrape_core.specs.Records.{IsFresh, IsWhole, started_of, landed_in}
use Rattle.scrape_core.proofs.RecordLemmas.{live_push, started_push, landed_push, finishes_push, lost_push, load_found, update_found, swept_landed, swept_more, IsOpen, finish_landed, finish_length, finish_found, none_finished, none_lost, none_landed, same_started, same_landed, landed_is, started_is_length}
use Rattle.run_lock.specs.Held.{times, held, IsSettled, IsRunning}
use Rattle.run_lock.specs.Tasks.{IsCommand}
use Rattle.run_lock.proofs.SlotLemmas.{slot_put, slot_left, none_out}

one_same : (k : ℕ) → cond {A = ℕ} (k == k) 1 0 ≡ 1
one_same k = grind (arith, nat_tests)

-- a ticket that is out is below the next one, and has no finish
settled_one : (m n k next : ℕ) → 1 ≤ m → m + n ≡ cond {A = ℕ} (nat_lt k next) 1 0 → (k < next) × (n ≡ 0)
settled_one m n k next some sum = grind (arith, nat_tests)

settled_out : (next : ℕ) (out : List (Option ℕ)) (es : List Event) (place k : ℕ) → IsSettled next out es → slice_get out place ≡ Some (Some k) → (k < next) × (landed_in k es ≡ 0)
settled_out next out es place k settled at =
    settled_one (times k out) (landed_in k es) k next (omega (arith, slot_left out place k k at, one_same k)) (settled k)

taken_one : (m n l j next more : ℕ) → m ≡ n + cond {A = ℕ} (next == j) 1 0 → n + l ≡ cond {A = ℕ} (nat_lt j next) 1 0 → more ≡ next + 1 → m + l ≡ cond {A = ℕ} (nat_lt j more) 1 0
taken_one m n l j next more put was is = grind (arith, nat_tests)

-- a load or an update
pub running_load : (es js : List Event) (m : ℤ) (text : List ℕ) (next started : ℕ) (out : List (Option ℕ)) → IsRunning es next started out → js ≡ es ++ Load m text ∷ [] → IsRunning js next started out
running_load es js m text next started out run now = record {
  live = live_push es js (Load m text) run.live now refl;
  started_is = run.started_is ∙ same_started es js (Load m text) run.live now refl;
  order = run.order;
  settled = λ k. ap (λ n. times k out + n) (same_landed es js (Load m text) run.live now refl k) ∙ run.settled k;
  counted = λ k. finishes_push es js (Load m text) run.live now k ∙ (omega (arith, run.counted k) ∙ sym (same_landed es js (Load m text) run.live now refl k));
  found = lost_push es js (Load m text) run.live now run.found (load_found (world_of es) m text);
}

pub running_update : (es js : List Event) (m : ℤ) (job file text : List ℕ) (next started : ℕ) (out : List (Option ℕ)) → IsRunning es next started out → js ≡ es ++ Targets m job file text ∷ [] → IsRunning js next started out
running_update es js m job file text next started out run now = record {
  live = live_push es js (Targets m job file text) run.live now refl;
  started_is = run.started_is ∙ same_started es js (Targets m job file text) run.live now refl;
  order = run.order;
  settled = λ k. ap (λ n. times k out + n) (same_landed es js (Targets m job file text) run.live now refl k) ∙ run.settled k;
  counted = λ k. finishes_push es js (Targets m job file text) run.live now k ∙ (omega (arith, run.counted k) ∙ sym (same_landed es js (Targets m job file text) run.live now refl k));
  found = lost_push es js (Targets m job file text) run.live now run.found (update_found (world_of es) m job file text);
}

pub running_command : (es js : List Event) (e : Event) (next started : ℕ) (out : List (Option ℕ)) → IsCommand e → IsRunning es next started out → js ≡ es ++ e ∷ [] → IsRunning js next started out
running_command es js (Load m text) next started out is run now = running_load es js m text next started out run now
running_command es js (Targets m job file text) next started out is run now = running_update es js m job file text next started out run now
running_command es js (Tick m k) next started out is run now = absurd is
running_command es js (Sweep m) next started out is run now = absurd is
running_command es js (Finish k took r) next started out is run now = absurd is
running_command es js (Halt m) next started out is run now = absurd is

pub running_sweep : (es js : List Event) (m : ℤ) (next started more : ℕ) (out : List (Option ℕ)) → IsRunning es next started out → js ≡ es ++ Sweep m ∷ [] → more ≡ started_of js → IsRunning js next more out
running_sweep es js m next started more out run now is =
    let w = world_of es in
    let n = started_push es js (Sweep m) run.live now in
    let same : (k : ℕ) → landed_in k js ≡ landed_in k es = λ k. landed_push es js (Sweep m) run.live now k ∙ (swept_landed w m k ∙ landed_is es k) in
    record {
      live = live_push es js (Sweep m) run.live now refl;
      started_is = is;
      order = omega (arith, run.order, run.started_is, is, n, swept_more w m, started_is_length es);
      settled = λ k. ap (λ n. times k out + n) (same k) ∙ run.settled k;
      counted = λ k. finishes_push es js (Sweep m) run.live now k ∙ (omega (arith, run.counted k) ∙ sym (same k));
      found = lost_push es js (Sweep m) run.live now run.found refl;
    }

pub running_take : (es : List Event) (next started more place : ℕ) (out rest : List (Option ℕ)) → IsRunning es next started out → next < started → slice_get out place ≡ Some None → rest ≡ set out place (Some next) → more ≡ next + 1
    → IsRunning es more started rest
running_take es next started more place out rest run lt at now is = record {
  live = run.live;
  started_is = run.started_is;
  order = omega arith;
  settled = λ j. let s = run.settled j in let t = ap (times j) now ∙ slot_put out place next j at in taken_one (times j rest) (times j out) (landed_in j es) j next more t s is;
  counted = run.counted;
  found = run.found;
}

pub running_finish : (es js : List Event) (k : ℕ) (took : ℤ) (r : Reply) (next started place : ℕ) (out rest : List (Option ℕ)) → IsRunning es next started out → js ≡ es ++ Finish k took r ∷ []
    → slice_get out place ≡ Some (Some k) → rest ≡ set out place None → IsRunning js next started rest
running_finish es js k took r next started place out rest run now at left =
    let w = world_of es in
    let e = Finish k took r in
    let known = settled_out next out es place k run.settled at in
    let unended : IsOpen k w.started = (omega (arith, known.0, run.order, run.started_is, started_is_length es), landed_is es k ∙ known.1) in
    let more : (j : ℕ) → landed_in j js ≡ landed_in j es + cond {A = ℕ} (k == j) 1 0 =
    λ j. landed_push es js e run.live now j ∙ (finish_landed w k j took r unended ∙ ap (λ n. n + cond {A = ℕ} (k == j) 1 0) (landed_is es j)) in
    let less : (j : ℕ) → times j rest + cond {A = ℕ} (k == j) 1 0 ≡ times j out = λ j. ap (λ xs. times j xs + cond {A = ℕ} (k == j) 1 0) left ∙ slot_left out place k j at in
    record {
      live = live_push es js e run.live now refl;
      started_is = run.started_is ∙ (started_is_length es ∙ sym (started_push es js e run.live now ∙ finish_length w k took r));
      order = run.order;
      settled = λ j. omega (arith, more j, less j, run.settled j);
      counted = λ j. finishes_push es js e run.live now j ∙ omega (arith, run.counted j, more j);
      found = lost_push es js e run.live now run.found (finish_found w k took r unended);
    }

-- before the run
none_below : (k : ℕ) → cond {A = ℕ} (nat_lt k 0) 1 0 ≡ 0
none_below k = grind (arith, nat_tests)

pub fresh_runs : (es : List Event) (out : List (Option ℕ)) → held out ≡ 0 → IsFresh es → IsRunning es 0 0 out
fresh_runs es out none fresh = record {
  live = fresh.live;
  started_is = sym fresh.none;
  order = omega arith;
  settled = λ k. omega (arith, none_landed es k fresh.none, none_below k, none_out out k none);
  counted = λ k. none_finished k es fresh.unfinished ∙ sym (none_landed es k fresh.none);
  found = none_lost es fresh.unfinished;
}

-- at the end of all work
all_landed : (k n m : ℕ) → 0 + m ≡ cond {A = ℕ} (nat_lt k n) 1 0 → k < n → m ≡ 1
all_landed k n m h lt = grind (arith, nat_tests, h)

pub run_is_whole : (es js : List Event) (m : ℤ) (next started : ℕ) (out : List (Option ℕ)) → IsRunning es next started out → next ≡ started → held out ≡ 0 → js ≡ es ++ Halt m ∷ [] → IsJournal js → IsWhole js
run_is_whole es js m next started out run all none now journal =
    let n : started_of js ≡ started = started_push es js (Halt m) run.live now ∙ (sym (started_is_length es) ∙ sym run.started_is) in
    record {
      once = λ k lt.
          finishes_push es js (Halt m) run.live now k
          ∙ (omega (arith, run.counted k)
          ∙ all_landed k next (landed_in k es) (ap (λ z. z + landed_in k es) (sym (none_out out k none)) ∙ run.settled k) (omega (arith, lt, n, all)));
      found = lost_push es js (Halt m) run.live now run.found refl;
      journal = journal;
      halts = (es, m, now, run.live);
    }
