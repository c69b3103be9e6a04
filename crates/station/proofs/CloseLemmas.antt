-- The passes of a run, when it opens and when it closes, and what they tell then.
use Rattle.std.proofs.Common.{◌≡◌, ◌≢◌, ℕ, zero, suc, ◌+◌, ◌<◌, List, [], ◌∷◌, ◌++◌, length, map, replicate, Bool, true, false, refl, sym, ap, ◌∙◌, subst, arith, append_assoc}
use Rattle.std.specs.Prelude.{◌-◌, remove, slice_index_or}
use mathlib.Core.List.{IsPrefix}
use Rattle.journal_text.specs.declared.events.Event.{Event}
use Rattle.outside.specs.Clocks.{ClockSeen}
use Rattle.outside.specs.Fetches.{FetchSeen}
use Rattle.run_lock.specs.declared.marks.Entry.{Entry}
use Rattle.run_lock.specs.declared.marks.Mark.{Mark}
use Rattle.run_lock.specs.declared.marks.Note.{Note}
use Rattle.run_lock.specs.declared.marks.Note.TheVariants.{Ended}
use Rattle.run_lock.specs.Callers.{BeginsWith}
use Rattle.run_lock.specs.Entries.{entry, entries_of, events_in, own_by, seats_in, Adds}
use Rattle.run_lock.specs.Held.{any_end, events_of}
use Rattle.run_lock.specs.Seats.{IsOwn, AreFresh, AreOwn}
use Rattle.run_lock.proofs.EntryLemmas.{end_seen, entries_events, own_else}
use Rattle.turn_lock.specs.Passes.{own_of, own_in, seen_by, part_of, fresh_parts, InOrder, Gathers}
use Rattle.turn_lock.specs.Turns.{part}
use Rattle.turn_lock.specs.declared.lock.Pass.{Pass}
use Rattle.turn_lock.specs.declared.lock.TurnLock.{TurnLock}
use Rattle.turn_lock.specs.declared.views.Part.{Part}
use Rattle.station.specs.Crews.{Answered, AreAsked, entries_for, HasFinished, AllFinished, HasTicked, RecordsCalls, AllRecorded, RecordsSweeps, FirstEnded, HasOwn, AllHaveOwn, behind_of, behinds_in}
use Rattle.station.specs.declared.ends.RunEnd.{RunEnd}
use Rattle.station.specs.declared.ends.RunEnd.TheVariants.{NoMemory}
use Rattle.station.specs.Ends.{run_end}
use Rattle.station.proofs.WorkLemmas.{asked_later, behind_told, events_join, finishes_recorded, sweeps_recorded}

pub whole_end : (whole : Bool) (end : RunEnd) → run_end whole end ≢ NoMemory → whole ≡ true
whole_end true end h = refl
whole_end false end h = absurd (h refl)

abbrev later_parts : List (Part Entry) → List (Part Entry)
later_parts [] = []
later_parts (x ∷ xs) = xs

fewer : (count : ℕ) → (2 + count) - 1 ≡ suc count
fewer count = omega arith

module _ {T : Type 0} (lock : TurnLock T Entry) where
  -- passes of the lock's seats are in order
  pub own_order : (n : ℕ) (ps : List (Pass T Entry)) → AreOwn lock n ps → InOrder lock.table.shared.table_id n ps
  own_order n [] h = tt
  own_order n (p ∷ ps) h = (h.0.0, h.0.1, h.0.2, own_order (n + 1) ps h.1)

  pub all_order : (a b : Pass T Entry) (ps : List (Pass T Entry)) → IsOwn lock 0 a → IsOwn lock 1 b → AreOwn lock 2 ps → InOrder lock.table.shared.table_id 0 (a ∷ b ∷ ps)
  all_order a b ps one two rest = own_order 0 (a ∷ b ∷ ps) (one, (two, rest))

  head_own : (n : ℕ) (p : Pass T Entry) (ps : List (Pass T Entry)) → InOrder lock.table.shared.table_id n (p ∷ ps) → IsOwn lock n p
  head_own n p ps h = (h.0, h.1, h.2)

  tail_order : (n : ℕ) (p : Pass T Entry) (ps : List (Pass T Entry)) → InOrder lock.table.shared.table_id n (p ∷ ps) → InOrder lock.table.shared.table_id (n + 1) ps
  tail_order n p ps h = h.3

  -- the passes of a new lock: the first has the entries that there are, and the others have none
  fresh_from : (n count : ℕ) (log : List Entry) (ps : List (Pass T Entry)) → InOrder lock.table.shared.table_id n ps → map part_of ps ≡ replicate count (part log []) → AreFresh lock n ps
  fresh_from n count log [] order parts = tt
  fresh_from n zero log (p ∷ ps) order parts = absurd cc
  fresh_from n (suc k) log (p ∷ ps) order parts =
      (head_own n p ps order, ap (λ (xs : List (Part Entry)). own_in xs) parts, fresh_from (n + 1) k log ps (tail_order n p ps order) (ap later_parts parts))

  pub record IsOpened (log : List Entry) (caller ticker : Pass T Entry) (workers : List (Pass T Entry)) : Type 0 where
    pub caller_own : IsOwn lock 0 caller
    pub caller_has : own_of caller ≡ log
    pub ticker_own : IsOwn lock 1 ticker
    pub ticker_has : own_of ticker ≡ []
    pub workers_own : AreFresh lock 2 workers

  pub opened : (log : List Entry) (count : ℕ) (all rest workers : List (Pass T Entry)) (a b : Pass T Entry) → InOrder lock.table.shared.table_id 0 all → length all ≡ 2 + count → map part_of all ≡ fresh_parts log (2 + count)
      → a ≡ slice_index_or all 0 a → rest ≡ remove all 0 → b ≡ slice_index_or rest 0 b → workers ≡ remove rest 0 → IsOpened log a b workers
  opened log count [] rest workers a b order len parts first one second two = absurd (omega (arith, len))
  opened log count (p ∷ []) rest workers a b order len parts first one second two = absurd (omega (arith, len))
  opened log count (p ∷ q ∷ ps) rest workers a b order len parts first one second two =
      let b_is : b ≡ q = second ∙ ap (λ (xs : List (Pass T Entry)). slice_index_or xs 0 b) one in
      let is : workers ≡ ps = two ∙ ap (λ (xs : List (Pass T Entry)). remove xs 0) one in
      let next = tail_order 0 p (q ∷ ps) order in
      let more = ap later_parts parts ∙ ap (λ (k : ℕ). replicate k (part log [])) (fewer count) in
      subst (λ (t : Pass T Entry × Pass T Entry × List (Pass T Entry)). IsOpened log t.0 t.1 t.2) (λ i. (sym first i, sym b_is i, sym is i)) (record {
        caller_own = head_own 0 p (q ∷ ps) order;
        caller_has = ap (λ (xs : List (Part Entry)). own_in xs) parts;
        ticker_own = head_own 1 q ps next;
        ticker_has = ap (λ (xs : List (Part Entry)). own_in xs) more;
        workers_own = fresh_from 2 count log ps (tail_order 1 q ps next) (ap later_parts more);
      })

-- a closed journal begins with what a pass had seen
seen_begins : (es : List Event) (all log seen : List Entry) (x : Note) → events_in all ≡ es → Adds log 0 x all → IsPrefix seen log → BeginsWith (events_in seen) es
seen_begins es all log seen x is adds h = (
  events_in (h.0 ++ entry 0 x ∷ []),
  sym is ∙ (ap events_in (adds ∙ (ap (λ (l : List Entry). l ++ entry 0 x ∷ []) (sym h.1) ∙ append_assoc seen h.0 (entry 0 x ∷ []))) ∙ events_join seen (h.0 ++ entry 0 x ∷ [])),
)

ends_last : (place : ℕ) (more : List Answered) → any_end (entries_for place more ++ entry (2 + place) Ended ∷ []) ≡ true
ends_last place [] = refl
ends_last place (a ∷ more) = ends_last place more

module _ {T : Type 0} where
  pub told_all : (es : List Event) (ms : List Mark) (log : List Entry) (x : Note) (n : ℕ) (ps : List (Pass T Entry)) → 0 < n → length (seats_in ms) ≡ length es → Adds log 0 x (entries_of es ms)
      → ((q : ℕ) → 0 < q → events_of q es (seats_in ms) ≡ events_in (own_by q log)) → Gathers (λ (e : Entry). e.seat) log n ps → AllHaveOwn es (seats_in ms) n ps
  told_all es ms log x n [] some len adds others g = tt
  told_all es ms log x n (p ∷ ps) some len adds others g = (
    record {
      seen = seen_begins es (entries_of es ms) log (seen_by p) x (entries_events 0 ms es (sym len)) adds g.0;
      events = others n some ∙ ap events_in g.1;
    },
    told_all es ms log x (n + 1) ps (omega (arith, some)) len adds others g.2,
  )

  pub ticker_recorded : (es : List Event) (ms : List Mark) (log : List Entry) (x : Note) (p : Pass T Entry) → length (seats_in ms) ≡ length es → Adds log 0 x (entries_of es ms) → own_by 1 log ≡ own_of p
      → behind_of 1 0 es (seats_in ms) ≡ behinds_in (own_of p)
  ticker_recorded es ms log x p len adds own =
      behind_told 1 0 ms es (omega arith) (sym len) ∙ ap behinds_in (ap (own_by 1) adds ∙ (own_else log 0 1 x (λ e. absurd (omega (arith, e))) ∙ own))

  rest_gathers : (log : List Entry) (n : ℕ) (p : Pass T Entry) (ps : List (Pass T Entry)) → Gathers (λ (e : Entry). e.seat) log n (p ∷ ps) → (own_by n log ≡ own_of p) × Gathers (λ (e : Entry). e.seat) log (n + 1) ps
  rest_gathers log n p ps h = (h.1, h.2)

  -- what is recorded of the caller, of the ticker and of the workers
  pub record Parts (log : List Entry) (caller ticker : Pass T Entry) (workers : List (Pass T Entry)) : Type 0 where
    pub callers : own_by 0 log ≡ own_of caller
    pub tickers : own_by 1 log ≡ own_of ticker
    pub others : Gathers (λ (e : Entry). e.seat) log 2 workers

  pub parted : (log : List Entry) (a b : Pass T Entry) (ps all : List (Pass T Entry)) → all ≡ a ∷ b ∷ ps → Gathers (λ (e : Entry). e.seat) log 0 all → Parts log a b ps
  parted log a b ps all is g =
      let first = rest_gathers log 0 a (b ∷ ps) (subst (Gathers (λ (e : Entry). e.seat) log 0) is g) in
      let second = rest_gathers log 1 b ps first.1 in
      record { callers = first.0; tickers = second.0; others = second.1 }

  -- the end of all work is one of the journal's entries
  pub ended_log : (log : List Entry) (ps : List (Pass T Entry)) → Gathers (λ (e : Entry). e.seat) log 2 ps → FirstEnded ps → any_end log ≡ true
  ended_log log [] g h = absurd h
  ended_log log (p ∷ ps) g h = end_seen 2 log (ap any_end g.1 ∙ h)

  pub finished_first : (xs ys : List FetchSeen) (ps : List (Pass T Entry)) → 0 < length xs → AllFinished 0 xs ys ps → FirstEnded ps
  finished_first [] ys ps some h = absurd (omega (arith, some))
  finished_first (x ∷ xs) [] ps some h = absurd h
  finished_first (x ∷ xs) (y ∷ ys) [] some h = absurd h
  finished_first (x ∷ xs) (y ∷ ys) (p ∷ ps) some h = ap any_end h.0.own ∙ ends_last 0 h.0.more

  -- what the workers tell, and the ticker
  records_calls : (n : ℕ) (es : List Event) (seats : List ℕ) (x y : FetchSeen) (p : Pass T Entry) → HasFinished n x y p → HasOwn es seats (2 + n) p → RecordsCalls n es seats x y
  records_calls n es seats x y p f t = record {
    more = f.more;
    called = f.called;
    asked = subst (λ (l : List Event). AreAsked l f.more) (sym t.seen.1) (asked_later (events_in (seen_by p)) t.seen.0 f.more f.asked);
    events = t.events ∙ (ap events_in f.own ∙ finishes_recorded n f.more);
  }

  pub all_recorded : (n m : ℕ) (es : List Event) (seats : List ℕ) (xs ys : List FetchSeen) (ps : List (Pass T Entry)) → m ≡ 2 + n → AllFinished n xs ys ps → AllHaveOwn es seats m ps → AllRecorded n es seats xs ys
  all_recorded n m es seats [] [] ps is all known = tt
  all_recorded n m es seats [] (y ∷ ys) ps is all known = absurd all
  all_recorded n m es seats (x ∷ xs) [] ps is all known = absurd all
  all_recorded n m es seats (x ∷ xs) (y ∷ ys) [] is all known = absurd all
  all_recorded n m es seats (x ∷ xs) (y ∷ ys) (p ∷ ps) is all known =
      (records_calls n es seats x y p all.0 (subst (λ (k : ℕ). HasOwn es seats k p) is known.0), all_recorded (n + 1) (m + 1) es seats xs ys ps (omega (arith, is)) all.1 known.1)

pub ticker_records : (turns : ℕ) (es : List Event) (seats : List ℕ) (x y : ClockSeen) (own : List Entry) → HasTicked turns x y own → behind_of 1 0 es seats ≡ behinds_in own → RecordsSweeps turns es seats x y
ticker_records turns es seats x y own h known = record { sweeps = h.sweeps; many = h.many; gave = h.gave; events = known ∙ (ap behinds_in h.own_is ∙ sweeps_recorded h.sweeps) }
