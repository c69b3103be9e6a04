-- What lies under the lock of a run, after each mark.
use Rattle.std.proofs.Common.{◌≡◌, ◌≢◌, ◌⊎◌, inl, inr, ℕ, ℤ, ◌+◌, ◌<◌, List, [], ◌∷◌, ◌++◌, length, length-append, set, replicate, drop, Bool, true, false, refl, sym, ap, ◌∙◌, subst, arith, append_assoc, append-nil, ◌||◌}
use Rattle.std.specs.Prelude.{Some, None, slice_get}
use Rattle.std.proofs.lemmas.List.{length-set, length-replicate}
use Rattle.journal_text.specs.declared.events.Event.{Event}
use Rattle.journal_text.specs.declared.events.Event.TheVariants.{Finish, Sweep, Halt}
use Rattle.journal_text.specs.Events.{IsJournal, now_of}
use Rattle.outside.specs.declared.replies.Reply.{Reply}
use Rattle.scrape_core.specs.Records.{IsFresh, IsWhole, started_of}
use Rattle.run_lock.specs.declared.marks.Entry.{Entry}
use Rattle.run_lock.specs.declared.marks.Mark.TheVariants as mark
use Rattle.run_lock.specs.declared.marks.Note.{Note}
use Rattle.run_lock.specs.declared.marks.Note.TheVariants.{Took, Brought, Ended, Failed}
use Rattle.run_lock.specs.declared.tasks.ControlOrder.{ControlOrder}
use Rattle.run_lock.specs.Callers.{BeginsWith, IsOfCaller, jobs_by, jobs_known}
use Rattle.run_lock.specs.Entries.{entry, entries_of, seats_in, own_by, brought_in, brought_by, begun_with, event_in, events_in}
use Rattle.run_lock.specs.Held.{IsHeld, any_end, events_of, is_end, held, pending}
use Rattle.run_lock.specs.Running.{Known, IsCallers, IsFront, IsRun, log_of}
use Rattle.run_lock.specs.Tasks.{event_at}
use Rattle.run_lock.proofs.CallerLemmas.{same_jobs, more_jobs, order_jobs, known_push, command_at}
use Rattle.run_lock.proofs.EntryLemmas.{own_here, own_else, seats_brought, seats_silent, entries_brought, entries_silent, any_push, brought_push, events_push, seat_events, entries_begun, seats_begun, begun_own, begun_else, begun_brought, begun_events, begun_unended}
use Rattle.run_lock.proofs.HeldLemmas.{running_take, running_finish, running_sweep, running_command, fresh_runs, run_is_whole}
use Rattle.run_lock.proofs.SlotLemmas.{held_put, held_left, held_none, tickets_note, tickets_silent, tickets_other, tickets_first, split}

or_none : (b : Bool) → (b || false) ≡ b
or_none true = refl
or_none false = refl

-- an entry that is no end shows none
shown_more : (log : List Entry) (s : ℕ) (x : Note) (ended : Bool) → is_end x ≡ false → (any_end log ≡ true → ended ≡ true) → any_end (log ++ entry s x ∷ []) ≡ true → ended ≡ true
shown_more log s x ended none shown h = shown (sym (any_push log (entry s x) ∙ (ap (λ (b : Bool). any_end log || b) none ∙ or_none (any_end log))) ∙ h)

-- an entry of another seat, or one that is no event, leaves what a seat brought as it is
pub brought_else : (log : List Entry) (s q : ℕ) (x : Note) → s ≢ q → brought_in (own_by q (log ++ entry s x ∷ [])) ≡ brought_in (own_by q log)
brought_else log s q x ne = ap brought_in (own_else log s q x ne)

pub brought_silent : (log : List Entry) (s q : ℕ) (x : Note) → brought_by x ≡ [] → brought_in (own_by q (log ++ entry s x ∷ [])) ≡ brought_in (own_by q log)
brought_silent log s q x none = at (split s q) where
  at : (s ≡ q) ⊎ (s ≢ q) → brought_in (own_by q (log ++ entry s x ∷ [])) ≡ brought_in (own_by q log)
  at (inl e) = ap brought_in (own_here log s q x e) ∙ (brought_push (own_by q log) (entry s x) ∙ (ap (λ (es : List Event). brought_in (own_by q log) ++ es) none ∙ append-nil _))
  at (inr n) = brought_else log s q x n

-- a journal that goes on begins as before
drop_front : (xs ys : List Event) → drop (length xs) (xs ++ ys) ≡ ys
drop_front [] ys = refl
drop_front (x ∷ xs) ys = drop_front xs ys

pub front_begins : (start es : List Event) → IsFront start es → BeginsWith start es
front_begins start es h = (drop (length start) es, sym h)

begins_more : (start es : List Event) (e : Event) → IsFront start es → IsFront start (es ++ e ∷ [])
begins_more start es e h =
    let rest = drop (length start) es ++ e ∷ [] in
    let is : es ++ e ∷ [] ≡ start ++ rest = ap (λ (xs : List Event). xs ++ e ∷ []) (sym h) ∙ append_assoc start (drop (length start) es) (e ∷ []) in
    ap (λ (xs : List Event). start ++ drop (length start) xs) is ∙ (ap (λ (xs : List Event). start ++ xs) (drop_front start rest) ∙ sym is)

front_first : (start : List Event) → IsFront start start
front_first start =
    ap (λ (xs : List Event). start ++ drop (length start) xs) (sym (append-nil start)) ∙ (ap (λ (xs : List Event). start ++ xs) (drop_front start []) ∙ append-nil start)

-- the events of the caller's seat, after an entry of another seat, one that is no event, and an event that the caller brought
callers_else : (start : List Event) (log later : List Entry) (s : ℕ) (x : Note) → s ≢ 0 → later ≡ log ++ entry s x ∷ [] → IsCallers start log → IsCallers start later
callers_else start log later s x ne is h =
    subst (λ (own : List Entry). events_in own ≡ start ++ brought_in own) (sym (ap (own_by 0) is ∙ own_else log s 0 x ne)) h

callers_silent : (start : List Event) (log later : List Entry) (s : ℕ) (x : Note) → event_in x ≡ [] → brought_by x ≡ [] → later ≡ log ++ entry s x ∷ [] → IsCallers start log → IsCallers start later
callers_silent start log later s x none nil is h = at (split s 0) where
  own : List Entry
  own = own_by 0 log

  at : (s ≡ 0) ⊎ (s ≢ 0) → IsCallers start later
  at (inl e) =
      subst (λ (xs : List Entry). events_in xs ≡ start ++ brought_in xs) (sym (ap (own_by 0) is ∙ own_here log s 0 x e))
      (events_push own (entry s x) ∙ (ap (λ (es : List Event). events_in own ++ es) none ∙ (append-nil (events_in own)
      ∙ (h ∙ ap (λ (es : List Event). start ++ es) (sym (brought_push own (entry s x) ∙ (ap (λ (es : List Event). brought_in own ++ es) nil ∙ append-nil (brought_in own))))))))
  at (inr n) = callers_else start log later s x n is h

callers_brought : (start : List Event) (log later : List Entry) (now : ℕ) (e : Event) → later ≡ log ++ entry 0 (Brought now e) ∷ [] → IsCallers start log → IsCallers start later
callers_brought start log later now e is h =
    let own = own_by 0 log in
    let x = entry 0 (Brought now e) in
    subst (λ (xs : List Entry). events_in xs ≡ start ++ brought_in xs) (sym (ap (own_by 0) is ∙ own_here log 0 0 (Brought now e) refl))
    (events_push own x ∙ (ap (λ (es : List Event). es ++ e ∷ []) h ∙ (append_assoc start (brought_in own) (e ∷ []) ∙ ap (λ (es : List Event). start ++ es) (sym (brought_push own x)))))

module _ (workers turns : ℕ) (start : List Event) where
  -- a worker took the least ready ticket
  abbrev pub taken : Known → ℕ → ℕ → Known
  taken k place seat = record { events = k.events; marks = k.marks ++ mark.Took seat k.next ∷ []; next = k.next + 1; started = k.started; slots = set k.slots place (Some k.next); out = k.out + 1; sweeps_left = k.sweeps_left; ended = k.ended }

  pub took_log : (k : Known) (place seat : ℕ) → IsRun workers turns start k → log_of (taken k place seat) ≡ log_of k ++ entry seat (Took k.next) ∷ []
  took_log k place seat run = entries_silent 0 k.marks k.events (mark.Took seat k.next) (entry seat (Took k.next)) run.marked (λ n fs. refl)

  pub run_took : (k : Known) (place seat : ℕ) → IsRun workers turns start k → place < workers → seat ≡ 2 + place → pending (own_by (2 + place) (log_of k)) ≡ None → k.next < k.started → IsRun workers turns start (taken k place seat)
  run_took k place seat run few is free ready =
      let log = log_of k in
      let x = Took k.next in
      let more = took_log k place seat run in
      let rest = set k.slots place (Some k.next) in
      let at : slice_get k.slots place ≡ Some None = run.tickets place (omega (arith, few, run.crew)) ∙ ap Some free in
      record {
        running = running_take k.events k.next k.started (k.next + 1) place k.slots rest run.running ready at refl refl;
        marked = run.marked ∙ ap (λ (ss : List ℕ). length ss) (sym (seats_silent k.marks (mark.Took seat k.next) refl));
        crew = length-set k.slots place (Some k.next) ∙ run.crew;
        counted = omega (arith, run.counted, held_put k.slots place k.next at);
        tickets = subst (IsHeld rest) (sym more) (tickets_note k.slots rest log x place seat run.tickets is refl);
        sweeps = ap (λ (l : List Entry). k.sweeps_left + length (brought_in (own_by 1 l))) more ∙ (ap (λ (es : List Event). k.sweeps_left + length es) (brought_silent log seat 1 x refl) ∙ run.sweeps);
        over = λ h. absurd (omega (arith, ready, (run.over h).0));
        shown = λ h. shown_more log seat x k.ended refl run.shown (sym (ap any_end more) ∙ h);
        jobs = run.jobs ∙ ap (λ (l : List Entry). jobs_known start l) (sym (ap (own_by 0) more ∙ own_else log seat 0 x (λ e. absurd (omega (arith, is, e)))));
        begins = run.begins;
        callers = callers_silent start log (log_of (taken k place seat)) seat x refl refl more run.callers;
      }

  -- a seat failed
  abbrev pub failed : Known → ℕ → Known
  failed k seat = record { events = k.events; marks = k.marks ++ mark.Failed seat ∷ []; next = k.next; started = k.started; slots = k.slots; out = k.out; sweeps_left = k.sweeps_left; ended = k.ended }

  pub failed_log : (k : Known) (seat : ℕ) → IsRun workers turns start k → log_of (failed k seat) ≡ log_of k ++ entry seat Failed ∷ []
  failed_log k seat run = entries_silent 0 k.marks k.events (mark.Failed seat) (entry seat Failed) run.marked (λ n fs. refl)

  pub run_failed : (k : Known) (seat : ℕ) → IsRun workers turns start k → IsRun workers turns start (failed k seat)
  run_failed k seat run =
      let log = log_of k in
      let more = failed_log k seat run in
      record {
        running = run.running;
        marked = run.marked ∙ ap (λ (ss : List ℕ). length ss) (sym (seats_silent k.marks (mark.Failed seat) refl));
        crew = run.crew;
        counted = run.counted;
        tickets = subst (IsHeld k.slots) (sym more) (tickets_silent k.slots log Failed seat (λ o. refl) run.tickets);
        sweeps = ap (λ (l : List Entry). k.sweeps_left + length (brought_in (own_by 1 l))) more ∙ (ap (λ (es : List Event). k.sweeps_left + length es) (brought_silent log seat 1 Failed refl) ∙ run.sweeps);
        over = run.over;
        shown = λ h. shown_more log seat Failed k.ended refl run.shown (sym (ap any_end more) ∙ h);
        jobs = run.jobs ∙ same_jobs start (own_by 0 log) (own_by 0 (log_of (failed k seat))) (sym (ap (λ (l : List Entry). brought_in (own_by 0 l)) more ∙ brought_silent log seat 0 Failed refl));
        begins = run.begins;
        callers = callers_silent start log (log_of (failed k seat)) seat Failed refl refl more run.callers;
      }

  -- a worker saw the end of all work
  abbrev pub ended : Known → ℕ → Known
  ended k seat = record { events = k.events; marks = k.marks ++ mark.Ended seat ∷ []; next = k.next; started = k.started; slots = k.slots; out = k.out; sweeps_left = k.sweeps_left; ended = true }

  pub ended_log : (k : Known) (seat : ℕ) → IsRun workers turns start k → log_of (ended k seat) ≡ log_of k ++ entry seat Ended ∷ []
  ended_log k seat run = entries_silent 0 k.marks k.events (mark.Ended seat) (entry seat Ended) run.marked (λ n fs. refl)

  pub run_ended : (k : Known) (seat : ℕ) → IsRun workers turns start k → (k.next ≡ k.started) × (k.out ≡ 0) × (k.sweeps_left ≡ 0) → IsRun workers turns start (ended k seat)
  run_ended k seat run done =
      let log = log_of k in
      let more = ended_log k seat run in
      record {
        running = run.running;
        marked = run.marked ∙ ap (λ (ss : List ℕ). length ss) (sym (seats_silent k.marks (mark.Ended seat) refl));
        crew = run.crew;
        counted = run.counted;
        tickets = subst (IsHeld k.slots) (sym more) (tickets_silent k.slots log Ended seat (λ o. refl) run.tickets);
        sweeps = ap (λ (l : List Entry). k.sweeps_left + length (brought_in (own_by 1 l))) more ∙ (ap (λ (es : List Event). k.sweeps_left + length es) (brought_silent log seat 1 Ended refl) ∙ run.sweeps);
        over = λ h. done;
        shown = λ h. refl;
        jobs = run.jobs ∙ same_jobs start (own_by 0 log) (own_by 0 (log_of (ended k seat))) (sym (ap (λ (l : List Entry). brought_in (own_by 0 l)) more ∙ brought_silent log seat 0 Ended refl));
        begins = run.begins;
        callers = callers_silent start log (log_of (ended k seat)) seat Ended refl refl more run.callers;
      }

  -- a seat brought an event
  brought_log : (k : Known) (seat : ℕ) (e : Event) → IsRun workers turns start k → entries_of (k.events ++ e ∷ []) (k.marks ++ mark.Brought seat ∷ []) ≡ log_of k ++ entry seat (Brought (now_of k.events) e) ∷ []
  brought_log k seat e run = entries_brought 0 k.marks k.events seat e run.marked

  brought_marked : (k : Known) (seat : ℕ) (e : Event) → IsRun workers turns start k → length (k.events ++ e ∷ []) ≡ length (seats_in (k.marks ++ mark.Brought seat ∷ []))
  brought_marked k seat e run = omega (arith, run.marked, length-append k.events (e ∷ []), ap (λ (ss : List ℕ). length ss) (seats_brought k.marks seat), length-append (seats_in k.marks) (seat ∷ []))

  -- a worker finished the ticket that it has out
  abbrev pub finished : Known → ℕ → ℕ → ℕ → Event → Known
  finished k place seat out e = record { events = k.events ++ e ∷ []; marks = k.marks ++ mark.Brought seat ∷ []; next = k.next; started = k.started; slots = set k.slots place None; out = out; sweeps_left = k.sweeps_left; ended = k.ended }

  pub finished_log : (k : Known) (place seat out : ℕ) (e : Event) → IsRun workers turns start k → log_of (finished k place seat out e) ≡ log_of k ++ entry seat (Brought (now_of k.events) e) ∷ []
  finished_log k place seat out e run = brought_log k seat e run

  -- the ticket is in the worker's slot
  pub slot_held : (k : Known) (place ticket : ℕ) → IsRun workers turns start k → place < workers → pending (own_by (2 + place) (log_of k)) ≡ Some ticket → slice_get k.slots place ≡ Some (Some ticket)
  slot_held k place ticket run few out = run.tickets place (omega (arith, few, run.crew)) ∙ ap Some out

  pub run_finished : (k : Known) (place seat out ticket : ℕ) (took : ℤ) (r : Reply) → IsRun workers turns start k → place < workers → seat ≡ 2 + place → out + 1 ≡ k.out → pending (own_by (2 + place) (log_of k)) ≡ Some ticket
      → IsRun workers turns start (finished k place seat out (Finish ticket took r))
  run_finished k place seat out ticket took r run few is less has =
      let log = log_of k in
      let e = Finish ticket took r in
      let x = Brought (now_of k.events) e in
      let more = brought_log k seat e run in
      let rest = set k.slots place None in
      let at = slot_held k place ticket run few has in
      record {
        running = running_finish k.events (k.events ++ e ∷ []) ticket took r k.next k.started place k.slots rest run.running refl at refl;
        marked = brought_marked k seat e run;
        crew = length-set k.slots place None ∙ run.crew;
        counted = omega (arith, less, run.counted, held_left k.slots place ticket at);
        tickets = subst (IsHeld rest) (sym more) (tickets_note k.slots rest log x place seat run.tickets is refl);
        sweeps = ap (λ (l : List Entry). k.sweeps_left + length (brought_in (own_by 1 l))) more ∙ (ap (λ (es : List Event). k.sweeps_left + length es) (brought_else log seat 1 x (λ e. absurd (omega (arith, is, e)))) ∙ run.sweeps);
        over = λ h. absurd (omega (arith, less, (run.over h).1));
        shown = λ h. shown_more log seat x k.ended refl run.shown (sym (ap any_end more) ∙ h);
        jobs = more_jobs k.events e run.running.live refl ∙ (run.jobs ∙ ap (λ (l : List Entry). jobs_known start l) (sym (ap (own_by 0) more ∙ own_else log seat 0 x (λ e. absurd (omega (arith, is, e))))));
        begins = begins_more start k.events e run.begins;
        callers = callers_else start log (log_of (finished k place seat out e)) seat x (λ e. absurd (omega (arith, is, e))) more run.callers;
      }

  -- the ticker swept
  abbrev pub swept : Known → ℕ → ℕ → ℤ → Known
  swept k started left m = record { events = k.events ++ Sweep m ∷ []; marks = k.marks ++ mark.Brought 1 ∷ []; next = k.next; started = started; slots = k.slots; out = k.out; sweeps_left = left; ended = k.ended }

  pub swept_log : (k : Known) (started left : ℕ) (m : ℤ) → IsRun workers turns start k → log_of (swept k started left m) ≡ log_of k ++ entry 1 (Brought (now_of k.events) (Sweep m)) ∷ []
  swept_log k started left m run = brought_log k 1 (Sweep m) run

  pub run_swept : (k : Known) (started left : ℕ) (m : ℤ) → IsRun workers turns start k → started ≡ started_of (k.events ++ Sweep m ∷ []) → left + 1 ≡ k.sweeps_left → IsRun workers turns start (swept k started left m)
  run_swept k started left m run is less =
      let log = log_of k in
      let e = Sweep m in
      let x = Brought (now_of k.events) e in
      let more = brought_log k 1 e run in
      let count : length (brought_in (own_by 1 (log ++ entry 1 x ∷ []))) ≡ length (brought_in (own_by 1 log)) + 1 = ap (λ (l : List Entry). length (brought_in l)) (own_here log 1 1 x refl) ∙ (ap (λ (es : List Event). length es) (brought_push (own_by 1 log) (entry 1 x)) ∙ length-append (brought_in (own_by 1 log)) (e ∷ [])) in
      record {
        running = running_sweep k.events (k.events ++ e ∷ []) m k.next k.started started k.slots run.running refl is;
        marked = brought_marked k 1 e run;
        crew = run.crew;
        counted = run.counted;
        tickets = subst (IsHeld k.slots) (sym more) (tickets_other k.slots log x 1 run.tickets (omega arith));
        sweeps = ap (λ (l : List Entry). left + length (brought_in (own_by 1 l))) more ∙ omega (arith, count, less, run.sweeps);
        over = λ h. absurd (omega (arith, less, (run.over h).2));
        shown = λ h. shown_more log 1 x k.ended refl run.shown (sym (ap any_end more) ∙ h);
        jobs = more_jobs k.events e run.running.live refl ∙ (run.jobs ∙ ap (λ (l : List Entry). jobs_known start l) (sym (ap (own_by 0) more ∙ own_else log 1 0 x (λ e. absurd (omega (arith, e))))));
        begins = begins_more start k.events e run.begins;
        callers = callers_else start log (log_of (swept k started left m)) 1 x (λ e. absurd (omega (arith, e))) more run.callers;
      }

  -- the caller ordered something
  abbrev pub commanded : Known → Event → Known
  commanded k e = record { events = k.events ++ e ∷ []; marks = k.marks ++ mark.Brought 0 ∷ []; next = k.next; started = k.started; slots = k.slots; out = k.out; sweeps_left = k.sweeps_left; ended = k.ended }

  pub commanded_log : (k : Known) (e : Event) → IsRun workers turns start k → log_of (commanded k e) ≡ log_of k ++ entry 0 (Brought (now_of k.events) e) ∷ []
  commanded_log k e run = brought_log k 0 e run

  pub run_ordered : (k : Known) (o : ControlOrder) → IsRun workers turns start k → IsRun workers turns start (commanded k (event_at (now_of k.events) o))
  run_ordered k o run =
      let log = log_of k in
      let now = now_of k.events in
      let e = event_at now o in
      let x = Brought now e in
      let more = brought_log k 0 e run in
      record {
        running = running_command k.events (k.events ++ e ∷ []) e k.next k.started k.slots (command_at now o) run.running refl;
        marked = brought_marked k 0 e run;
        crew = run.crew;
        counted = run.counted;
        tickets = subst (IsHeld k.slots) (sym more) (tickets_other k.slots log x 0 run.tickets (omega arith));
        sweeps = ap (λ (l : List Entry). k.sweeps_left + length (brought_in (own_by 1 l))) more ∙ (ap (λ (es : List Event). k.sweeps_left + length es) (brought_else log 0 1 x (λ e. absurd (omega (arith, e)))) ∙ run.sweeps);
        over = run.over;
        shown = λ h. shown_more log 0 x k.ended (unended now o) run.shown (sym (ap any_end more) ∙ h);
        jobs = order_jobs k.events now o run.running.live ∙ (ap (λ js. jobs_by js o) run.jobs ∙ sym (ap (λ (l : List Entry). jobs_known start l) (ap (own_by 0) more ∙ own_here log 0 0 x refl) ∙ known_push start (own_by 0 log) 0 now o));
        begins = begins_more start k.events e run.begins;
        callers = callers_brought start log (log_of (commanded k e)) now e more run.callers;
      }
    where
      unended : (now : ℕ) (o : ControlOrder) → is_end (Brought now (event_at now o)) ≡ false
      unended now o = refl

  -- at the end of all work
  pub run_whole : (k : Known) (m : ℤ) → IsRun workers turns start k → k.ended ≡ true → IsJournal (k.events ++ Halt m ∷ []) → IsWhole (k.events ++ Halt m ∷ [])
  run_whole k m run over journal =
      run_is_whole k.events (k.events ++ Halt m ∷ []) m k.next k.started k.slots run.running (run.over over).0 (sym run.counted ∙ (run.over over).1) refl journal

  pub halted_log : (k : Known) (m : ℤ) → IsRun workers turns start k → entries_of (k.events ++ Halt m ∷ []) (k.marks ++ mark.Brought 0 ∷ []) ≡ log_of k ++ entry 0 (Brought (now_of k.events) (Halt m)) ∷ []
  halted_log k m run = brought_log k 0 (Halt m) run

  pub halted_seats : (k : Known) (m : ℤ) → IsRun workers turns start k → length (seats_in (k.marks ++ mark.Brought 0 ∷ [])) ≡ length (k.events ++ Halt m ∷ [])
  halted_seats k m run = sym (brought_marked k 0 (Halt m) run)

  pub halted_other : (k : Known) (m : ℤ) (q : ℕ) → IsRun workers turns start k → 0 < q → events_of q (k.events ++ Halt m ∷ []) (seats_in (k.marks ++ mark.Brought 0 ∷ [])) ≡ events_in (own_by q (log_of k))
  halted_other k m q run some =
      seat_events q 0 (k.marks ++ mark.Brought 0 ∷ []) (k.events ++ Halt m ∷ []) (brought_marked k 0 (Halt m) run)
      ∙ ap events_in (ap (own_by q) (brought_log k 0 (Halt m) run) ∙ own_else (log_of k) 0 q (Brought (now_of k.events) (Halt m)) (λ e. absurd (omega (arith, e, some))))

  pub halted_own : (k : Known) (m : ℤ) → IsRun workers turns start k → events_of 0 (k.events ++ Halt m ∷ []) (seats_in (k.marks ++ mark.Brought 0 ∷ [])) ≡ events_in (own_by 0 (log_of k)) ++ Halt m ∷ []
  halted_own k m run =
      let x = Brought (now_of k.events) (Halt m) in
      seat_events 0 0 (k.marks ++ mark.Brought 0 ∷ []) (k.events ++ Halt m ∷ []) (brought_marked k 0 (Halt m) run)
      ∙ (ap (λ (l : List Entry). events_in (own_by 0 l)) (brought_log k 0 (Halt m) run) ∙ (ap events_in (own_here (log_of k) 0 0 x refl) ∙ events_push (own_by 0 (log_of k)) (entry 0 x)))

  pub halted_caller : (k : Known) (m : ℤ) → IsRun workers turns start k → IsOfCaller start (k.events ++ Halt m ∷ []) (seats_in (k.marks ++ mark.Brought 0 ∷ [])) (own_by 0 (log_of k))
  halted_caller k m run = record {
    begins = front_begins start (k.events ++ Halt m ∷ []) (begins_more start k.events (Halt m) run.begins);
    halted = m;
    events = halted_own k m run ∙ (ap (λ (es : List Event). es ++ Halt m ∷ []) run.callers ∙ append_assoc start (brought_in (own_by 0 (log_of k))) (Halt m ∷ []));
  }

-- before the run
abbrev pub fresh_known : ℕ → ℕ → List Event → Known
fresh_known workers turns start = record { events = start; marks = replicate (length start) mark.Before; next = 0; started = 0; slots = replicate workers None; out = 0; sweeps_left = turns; ended = false }

pub run_first : (workers turns : ℕ) (start : List Event) → IsFresh start → IsRun workers turns start (fresh_known workers turns start)
run_first workers turns start fresh =
    let log : List Entry = begun_with start in
    let is : log_of (fresh_known workers turns start) ≡ log = entries_begun 0 start in
    let none : held (replicate workers None) ≡ 0 = held_none (replicate workers None) workers refl in
    record {
      running = fresh_runs start (replicate workers None) none fresh;
      marked = sym (seats_begun (length start));
      crew = length-replicate workers None;
      counted = sym none;
      tickets = subst (IsHeld (replicate workers None)) (sym is) (tickets_first workers log (λ q some. begun_else q start some));
      sweeps = ap (λ (l : List Entry). turns + length (brought_in (own_by 1 l))) is ∙ (ap (λ (l : List Entry). turns + length (brought_in l)) (begun_else 1 start (omega arith)) ∙ omega arith);
      over = λ h. absurd (unended h);
      shown = λ h. sym (ap any_end is ∙ begun_unended start) ∙ h;
      jobs = same_jobs start [] (own_by 0 (log_of (fresh_known workers turns start))) (sym (ap (λ (l : List Entry). brought_in (own_by 0 l)) is ∙ (ap brought_in (begun_own start) ∙ begun_brought start)));
      begins = front_first start;
      callers = ap (λ (l : List Entry). events_in (own_by 0 l)) is ∙ (ap events_in (begun_own start) ∙ (begun_events start ∙ (sym (append-nil start)
          ∙ ap (λ (es : List Event). start ++ es) (sym (ap (λ (l : List Entry). brought_in (own_by 0 l)) is ∙ (ap brought_in (begun_own start) ∙ begun_brought start))))));
    }
  where
    unended : false ≡ true → ⊥
    unended h = cc
