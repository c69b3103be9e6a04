-- One more event of a journal: which scrapes it starts, and which finishes it records.
use Rattle.std.proofs.Common.{◌≡◌, ℕ, ℤ, zero, suc, ◌+◌, ◌<◌, ◌≤◌, ◌==◌, List, [], ◌∷◌, ◌++◌, length, length-append, Bool, true, false, cond, refl, sym, ap, ◌∙◌, arith, not, ◌||◌}
use Rattle.std.specs.Prelude.{Option, Some, None, Result, Ok, Err, slice_get, slice_set, nat_lt, is_some}
use Rattle.std.specs.List.{list_any}
use Rattle.std.proofs.lemmas.Bool.{false≢true}
use Rattle.std.proofs.lemmas.Bool.Decides.{nat_tests}
use Rattle.std.proofs.lemmas.List.{length-set}
use Rattle.std.proofs.lemmas.List.Sums.{sum_by-append, sum_by-cons}
use Rattle.config_fields.specs.declared.fault.ConfFault.{ConfFault}
use Rattle.jobs_in_force.specs.declared.jobs.Filed.{Filed}
use Rattle.jobs_in_force.specs.declared.jobs.InForce.{InForce}
use Rattle.jobs_in_force.specs.Jobs.{loaded, updated, Unlisted, UnknownJob, UnknownFile, Faulty}
use Rattle.journal_text.specs.declared.events.Event.{Event}
use Rattle.journal_text.specs.declared.events.Event.TheVariants.{Load, Targets, Tick, Sweep, Finish, Halt}
use Rattle.journal_text.specs.Lines.{number}
use Rattle.life_roll.specs.declared.schedule.InFlight.{InFlight}
use Rattle.outside.specs.declared.replies.Reply.{Reply}
use Rattle.scrape_config.specs.declared.conf.Group.{Group}
use Rattle.scrape_laws.specs.Flights.{is_finish_of}
use Rattle.scrape_machine.specs.declared.answers.Answer.TheVariants.{Halted, NoLife, Busy, NotDue, Forced, Started}
use Rattle.scrape_machine.specs.declared.lives.TicketState.TheVariants.{NotStarted, Cancelled, Counts}
use Rattle.scrape_machine.specs.declared.lives.Life.{Life}
use Rattle.scrape_machine.specs.declared.lives.StartedScrape.{StartedScrape}
use Rattle.scrape_machine.specs.Lives.{is_open}
use Rattle.scrape_machine.specs.Machine.{World, beginning, world_of, run, step, answer, live_step, live_answer, started_after, starts_from, started_by, starts_in, is_over, tick_answer, is_halt, found_start, found_life, found_flight, finish_answer, finished, load_answer, update_answer, closed_count, begun_count}
use Rattle.scrape_machine.proofs.StepLemmas.{world_push}
use Rattle.scrape_core.specs.Records.{started_of, landed, landed_in, finishes, is_finish, answers_from, is_no_ticket, has_lost, is_live}

-- no halt came
pub live_world : (es : List Event) → is_live es ≡ true → (world_of es).halted ≡ false
unfolding is_live
live_world es h = of (world_of es).halted h
  where
    of : (b : Bool) → cond b false true ≡ true → b ≡ false
    of false e = refl
    of true e = absurd (false≢true e)

step_live : (w : World) (e : Event) → w.halted ≡ false → step w e ≡ live_step w e
unfolding step
step_live w e live = ap (λ (b : Bool). cond b w (live_step w e)) live

pub answer_live : (w : World) (e : Event) → w.halted ≡ false → answer w e ≡ live_answer w e
unfolding answer
answer_live w e live = ap (λ (b : Bool). cond b Halted (live_answer w e)) live

pub world_live : (es : List Event) (e : Event) → is_live es ≡ true → world_of (es ++ e ∷ []) ≡ live_step (world_of es) e
world_live es e live = world_push es e ∙ step_live (world_of es) e (live_world es live)

-- one more event, where no halt came
module _ (es js : List Event) (e : Event) (live : is_live es ≡ true) (now : js ≡ es ++ e ∷ []) where
  pub live_push : is_halt e ≡ false → is_live js ≡ true
  unfolding is_live
  live_push h = ap (λ (w : World). cond w.halted false true) (ap world_of now ∙ world_live es e live) ∙ ap (λ (b : Bool). cond b false true) h

  pub started_push : started_of js ≡ length (started_after (world_of es) e)
  unfolding started_of
  started_push = ap (λ (w : World). length w.started) (ap world_of now ∙ world_live es e live)

  pub landed_push : (k : ℕ) → landed_in k js ≡ landed k (started_after (world_of es) e)
  unfolding landed_in
  landed_push k = ap (λ (w : World). landed k w.started) (ap world_of now ∙ world_live es e live)

  pub finishes_push : (k : ℕ) → finishes k js ≡ finishes k es + cond {A = ℕ} (is_finish_of k e) 1 0
  finishes_push k = ap (finishes k) now ∙ (sum_by-append (λ x. cond {A = ℕ} (is_finish_of k x) 1 0) es (e ∷ []) ∙ omega arith)

  answers_push : (w : World) (xs : List Event) → list_any is_no_ticket (answers_from w (xs ++ e ∷ [])) ≡ (list_any is_no_ticket (answers_from w xs) || is_no_ticket (answer (run w xs) e))
  answers_push w [] = by_end (is_no_ticket (answer w e))
    where
      by_end : (b : Bool) → (b || false) ≡ (false || b)
      by_end true = refl
      by_end false = refl
  answers_push w (x ∷ xs) = ap (λ b. is_no_ticket (answer w x) || b) (answers_push (step w x) xs) ∙ by_front (is_no_ticket (answer w x))
    where
      by_front : (b : Bool) → (b || (list_any is_no_ticket (answers_from (step w x) xs) || is_no_ticket (answer (run (step w x) xs) e)))
          ≡ ((b || list_any is_no_ticket (answers_from (step w x) xs)) || is_no_ticket (answer (run (step w x) xs) e))
      by_front true = refl
      by_front false = refl

  pub lost_push : has_lost es ≡ false → is_no_ticket (live_answer (world_of es) e) ≡ false → has_lost js ≡ false
  unfolding has_lost
  lost_push none here =
      ap (λ (xs : List Event). list_any is_no_ticket (answers_from beginning xs)) now
      ∙ (answers_push beginning es
      ∙ (ap (λ b. b || is_no_ticket (answer (world_of es) e)) none
      ∙ (ap is_no_ticket (answer_live (world_of es) e (live_world es live)) ∙ here)))

-- a load and an update start and finish nothing
pub load_found : (w : World) (m : ℤ) (text : List ℕ) → is_no_ticket (live_answer w (Load m text)) ≡ false
load_found w m text = of (loaded w.jobs text)
  where
    of : (r : Result (List Filed) ConfFault) → is_no_ticket (load_answer (closed_count w (Load m text)) (begun_count w (Load m text)) r) ≡ false
    of (Ok fs) = refl
    of (Err fault) = refl

pub update_found : (w : World) (m : ℤ) (name file text : List ℕ) → is_no_ticket (live_answer w (Targets m name file text)) ≡ false
update_found w m name file text = of (updated w.jobs name file text)
  where
    of : (r : Result (List Group) Unlisted) → is_no_ticket (update_answer (closed_count w (Targets m name file text)) (begun_count w (Targets m name file text)) r) ≡ false
    of (Ok groups) = refl
    of (Err UnknownJob) = refl
    of (Err UnknownFile) = refl
    of (Err (Faulty fault)) = refl

-- the scrapes that a sweep starts had no finish
landed_end : (ss more : List StartedScrape) (k : ℕ) → ((j : ℕ) → landed j more ≡ 0) → landed k (ss ++ more) ≡ landed k ss
landed_end [] more k none = none k
landed_end (s ∷ ss) more zero none = refl
landed_end (s ∷ ss) more (suc k) none = landed_end ss more k none

started_none : (one : Bool) (n : ℕ) (l : Life) (more : List StartedScrape) (k : ℕ) → ((j : ℕ) → landed j more ≡ 0) → landed k (started_by one n l ++ more) ≡ 0
started_none true n l more zero none = refl
started_none true n l more (suc k) none = none k
started_none false n l more k none = none k

starts_none : (jobs : List InForce) (m n : ℕ) (ls : List Life) (k : ℕ) → landed k (starts_from jobs m n ls) ≡ 0
starts_none jobs m n [] k = refl
starts_none jobs m n (l ∷ ls) k = started_none (starts_in jobs m l) n l (starts_from jobs m (n + 1) ls) k (starts_none jobs m (n + 1) ls)

pub swept_landed : (w : World) (m : ℤ) (k : ℕ) → landed k (started_after w (Sweep m)) ≡ landed k w.started
swept_landed w m k = landed_end w.started (starts_from w.jobs (number m) 0 w.lives) k (starts_none w.jobs (number m) 0 w.lives)

pub swept_more : (w : World) (m : ℤ) → length w.started ≤ length (started_after w (Sweep m))
swept_more w m = omega (arith, length-append w.started (starts_from w.jobs (number m) 0 w.lives))

-- the finish of a started scrape that had none: it is recorded, and isn't of no ticket
abbrev pub IsOpen : ℕ → List StartedScrape → Type 0
IsOpen k ss = (k < length ss) × (landed k ss ≡ 0)

open_start : (ss : List StartedScrape) (k : ℕ) → IsOpen k ss → (s : StartedScrape) × (slice_get ss k ≡ Some s) × (s.finished ≡ false)
open_start [] k h = absurd (omega (arith, h.0))
open_start (s ∷ ss) zero h = (s, refl, of s.finished h.1)
  where
    of : (b : Bool) → cond {A = ℕ} b 1 0 ≡ 0 → b ≡ false
    of false e = refl
    of true e = absurd (omega (arith, e))
open_start (s ∷ ss) (suc k) h = open_start ss k (omega (arith, h.0), h.1)

is_same : (k j : ℕ) → (suc k == suc j) ≡ (k == j)
is_same k j = grind (arith, nat_tests)

one_set : (ss : List StartedScrape) (k j : ℕ) (s : StartedScrape) → slice_get ss k ≡ Some s → s.finished ≡ false → landed j (slice_set ss k (record s { finished = true })) ≡ landed j ss + cond {A = ℕ} (k == j) 1 0
one_set [] k j s at unended = cc
one_set (x ∷ ss) zero zero s at unended =
    let same : x ≡ s = cc in
    let none : landed 0 (x ∷ ss) ≡ 0 = ap (λ (y : StartedScrape). cond {A = ℕ} y.finished 1 0) same ∙ ap (λ (b : Bool). cond {A = ℕ} b 1 0) unended in
    omega (arith, none)
one_set (x ∷ ss) zero (suc j) s at unended = grind (arith, nat_tests)
one_set (x ∷ ss) (suc k) zero s at unended = grind (arith, nat_tests)
one_set (x ∷ ss) (suc k) (suc j) s at unended = one_set ss k j s at unended ∙ ap (λ (b : Bool). landed j ss + cond {A = ℕ} b 1 0) (sym (is_same k j))

pub finish_landed : (w : World) (k j : ℕ) (took : ℤ) (r : Reply) → IsOpen k w.started → landed j (started_after w (Finish k took r)) ≡ landed j w.started + cond {A = ℕ} (k == j) 1 0
finish_landed w k j took r h =
    let s = open_start w.started k h in ap (λ o. landed j (finished o w.started k)) s.1 ∙ one_set w.started k j s.0 s.1 s.2

pub finish_length : (w : World) (k : ℕ) (took : ℤ) (r : Reply) → length (started_after w (Finish k took r)) ≡ length w.started
finish_length w k took r = of (slice_get w.started k)
  where
    of : (o : Option StartedScrape) → length (finished o w.started k) ≡ length w.started
    of None = refl
    of (Some s) = length-set w.started k (record s { finished = true })

flight_found : (w : World) (took : ℤ) (r : Reply) (k n : ℕ) (o : Option InFlight) → is_no_ticket (finish_answer w took r (found_flight k n o)) ≡ false
flight_found w took r k n None = refl
flight_found w took r k n (Some f) = of (f.ticket == k)
  where
    of : (b : Bool) → is_no_ticket (finish_answer w took r (cond b (Counts n f.moment) Cancelled)) ≡ false
    of true = refl
    of false = refl

life_found : (w : World) (took : ℤ) (r : Reply) (k n : ℕ) (o : Option Life) → is_no_ticket (finish_answer w took r (found_life k n o)) ≡ false
life_found w took r k n None = refl
life_found w took r k n (Some l) = flight_found w took r k n l.schedule.flight

pub finish_found : (w : World) (k : ℕ) (took : ℤ) (r : Reply) → IsOpen k w.started → is_no_ticket (live_answer w (Finish k took r)) ≡ false
finish_found w k took r h =
    let s = open_start w.started k h in
    ap (λ o. is_no_ticket (finish_answer w took r (found_start w.lives k o))) s.1
    ∙ (ap (λ (b : Bool). is_no_ticket (finish_answer w took r (cond b NotStarted (found_life k (s.0).life (slice_get w.lives (s.0).life))))) s.2
    ∙ life_found w took r k (s.0).life (slice_get w.lives (s.0).life))

-- the words of a journal by its world
pub landed_is : (es : List Event) (k : ℕ) → landed k (world_of es).started ≡ landed_in k es
unfolding landed_in
landed_is es k = refl

pub started_is_length : (es : List Event) → started_of es ≡ length (world_of es).started
unfolding started_of
started_is_length es = refl

-- an event that starts and finishes nothing
module _ (es js : List Event) (e : Event) (live : is_live es ≡ true) (now : js ≡ es ++ e ∷ []) (quiet : started_after (world_of es) e ≡ (world_of es).started) where
  pub same_started : started_of es ≡ started_of js
  same_started = started_is_length es ∙ sym (started_push es js e live now ∙ ap (λ (ss : List StartedScrape). length ss) quiet)

  pub same_landed : (k : ℕ) → landed_in k js ≡ landed_in k es
  same_landed k = landed_push es js e live now k ∙ (ap (landed k) quiet ∙ landed_is es k)

-- a journal with no finish, in which no scrape was started
not_finished : (k : ℕ) (e : Event) → is_finish e ≡ false → is_finish_of k e ≡ false
not_finished k (Load m text) h = refl
not_finished k (Targets m name file text) h = refl
not_finished k (Tick m j) h = refl
not_finished k (Sweep m) h = refl
not_finished k (Finish j took r) h = cc
not_finished k (Halt m) h = refl

tick_kept : (jobs : List InForce) (m k : ℕ) (o : Option Life) → is_no_ticket (tick_answer jobs m k o) ≡ false
tick_kept jobs m k None = refl
tick_kept jobs m k (Some l) = of (not (is_open l)) (is_some l.schedule.flight) (nat_lt m l.schedule.planned) (is_over jobs l)
  where
    of : (a b c d : Bool) → is_no_ticket (cond a NoLife (cond b Busy (cond c NotDue (cond d Forced (Started k))))) ≡ false
    of true b c d = refl
    of false true c d = refl
    of false false true d = refl
    of false false false true = refl
    of false false false false = refl

not_lost : (w : World) (e : Event) → is_finish e ≡ false → is_no_ticket (live_answer w e) ≡ false
not_lost w (Load m text) h = load_found w m text
not_lost w (Targets m name file text) h = update_found w m name file text
not_lost w (Tick m k) h = tick_kept w.jobs (number m) (length w.started) (slice_get w.lives k)
not_lost w (Sweep m) h = refl
not_lost w (Finish k took r) h = cc
not_lost w (Halt m) h = refl

answer_kept : (w : World) (e : Event) → is_finish e ≡ false → is_no_ticket (answer w e) ≡ false
unfolding answer
answer_kept w e h = of w.halted
  where
    of : (b : Bool) → is_no_ticket (cond b Halted (live_answer w e)) ≡ false
    of true = refl
    of false = not_lost w e h

or_parts : (a b : Bool) → (a || b) ≡ false → (a ≡ false) × (b ≡ false)
or_parts false b h = (refl, h)
or_parts true b h = cc

pub none_finished : (k : ℕ) (es : List Event) → list_any is_finish es ≡ false → finishes k es ≡ 0
none_finished k [] h = refl
none_finished k (e ∷ es) h =
    let p = or_parts (is_finish e) (list_any is_finish es) h in
    let here : cond {A = ℕ} (is_finish_of k e) 1 0 ≡ 0 = ap (λ (b : Bool). cond {A = ℕ} b 1 0) (not_finished k e p.0) in
    sum_by-cons (λ x. cond {A = ℕ} (is_finish_of k x) 1 0) e es ∙ omega (arith, here, none_finished k es p.1)

none_lost_from : (w : World) (es : List Event) → list_any is_finish es ≡ false → list_any is_no_ticket (answers_from w es) ≡ false
none_lost_from w [] h = refl
none_lost_from w (e ∷ es) h =
    let p = or_parts (is_finish e) (list_any is_finish es) h in
    ap (λ b. b || list_any is_no_ticket (answers_from (step w e) es)) (answer_kept w e p.0) ∙ none_lost_from (step w e) es p.1

pub none_lost : (es : List Event) → list_any is_finish es ≡ false → has_lost es ≡ false
unfolding has_lost
none_lost es h = none_lost_from beginning es h

empty_landed : (ss : List StartedScrape) (k : ℕ) → length ss ≡ 0 → landed k ss ≡ 0
empty_landed [] k h = refl
empty_landed (s ∷ ss) k h = absurd (omega (arith, h))

pub none_landed : (es : List Event) (k : ℕ) → started_of es ≡ 0 → landed_in k es ≡ 0
none_landed es k h = sym (landed_is es k) ∙ empty_landed (world_of es).started k (sym (started_is_length es) ∙ h)
