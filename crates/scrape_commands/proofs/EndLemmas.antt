-- What follows of a call that ended.
use Rattle.std.proofs.Common.{◌≡◌, ◌≢◌, ℕ, ◌≤◌, List, sym, refl, ap, ◌∙◌, inl, inr, arith, subst}
use Rattle.std.specs.Prelude.{IsSomeAnd, Result, Ok, Err}
use Rattle.outside.specs.Objects.{ShelfSeen, SinkSeen, Use, IsUntouched, Missed, MetLonger, FailedToRead}
use Rattle.config_fields.specs.declared.fault.ConfFault.{ConfFault}
use Rattle.journal_text.specs.declared.faults.ScriptFault.{ScriptFault}
use Rattle.om_reader.specs.Bodies.{converted}
use Rattle.scrape_commands.specs.Checks.{IsFault, fault_message}
use Rattle.scrape_commands.specs.Scripts.{HasScriptFault, fault_message as script_message}
use Rattle.scrape_commands.specs.Instants.{RefusesSelector, fault_message as selector_message}
use Rattle.command_words.specs.Words.{OfFile, asked_in, file_in}
use Rattle.scrape_commands.specs.Ends.{Call, work_of, Reads, Prints, IsRefused, WorkEnds, Speaks, IsSaid, Ended, status_at, status_of, line_message, message_of}
use Rattle.scrape_commands.specs.Laws.{Causes, NamesNoFault, NoCountFell, IsStatus}
use Rattle.command_words.specs.declared.words.Command.{Command}
use Rattle.command_words.specs.declared.words.Command.TheVariants.{Check, Convert}
use Rattle.scrape_commands.specs.declared.refusals.Refusal.{Refusal}
use Rattle.scrape_commands.specs.declared.refusals.SelectorFault.{SelectorFault}
use Rattle.scrape_commands.specs.declared.refusals.Refusal.TheVariants.{BadWords, Selector, Absent, Config, Script, OpenMetrics, ReadFault, WriteFault, NoMemory, TooLong}

-- a status tells its refusal, where that names no fault
same_refusal : (r s : Refusal) → NamesNoFault r → status_of r ≡ status_of s → s ≡ r
same_refusal (Selector f) s n e = absurd n
same_refusal (Config f) s n e = absurd n
same_refusal (Script f) s n e = absurd n
same_refusal (OpenMetrics l) s n e = absurd n
same_refusal BadWords BadWords n e = refl
same_refusal Absent Absent n e = refl
same_refusal ReadFault ReadFault n e = refl
same_refusal WriteFault WriteFault n e = refl
same_refusal NoMemory NoMemory n e = refl
same_refusal TooLong TooLong n e = refl
same_refusal _ _ n e = absurd (omega (arith, e))

not_zero : (r : Refusal) → status_of r ≡ 0 → ⊥
not_zero BadWords e = omega (arith, e)
not_zero (Selector f) e = omega (arith, e)
not_zero Absent e = omega (arith, e)
not_zero (Config f) e = omega (arith, e)
not_zero (Script f) e = omega (arith, e)
not_zero (OpenMetrics l) e = omega (arith, e)
not_zero ReadFault e = omega (arith, e)
not_zero WriteFault e = omega (arith, e)
not_zero NoMemory e = omega (arith, e)
not_zero TooLong e = omega (arith, e)

module _ (c : Call) where
  -- what a refusal and its message say, by the status
  record Told (r : Refusal) : Type 0 where
    pub refused : IsRefused r (work_of c)
    pub said : IsSaid (message_of (file_in c.words) r) c.err

  told_by : (r : Refusal) → NamesNoFault r → Ended (status_of r) c → Told r
  told_by r n e = of e.end e.status_is e.work_ends e.speaks
    where
      of : (end : Result (Unit {0}) Refusal) → status_of r ≡ status_at end → WorkEnds end (work_of c) → Speaks end (file_in c.words) c.err → Told r
      of (Ok u) is w s = absurd (not_zero r is)
      of (Err other) is w s =
          let same : other ≡ r = same_refusal r other n is in
          record {
            refused = subst (λ (z : Refusal). IsRefused z (work_of c)) same w;
            said = subst (λ (z : Refusal). IsSaid (message_of (file_in c.words) z) c.err) same s;
          }

  done_by : (end : Result (Unit {0}) Refusal) → 0 ≡ status_at end → WorkEnds end (work_of c) → Prints (work_of c)
  done_by (Ok u) is w = w.prints
  done_by (Err r) is w = absurd (not_zero r (sym is))

  quiet_by : (end : Result (Unit {0}) Refusal) → 0 ≡ status_at end → Speaks end (file_in c.words) c.err → IsUntouched c.err
  quiet_by (Ok u) is s = s
  quiet_by (Err r) is s = absurd (not_zero r (sym is))

  abbrev Faulty : Type 0
  Faulty = (fault : ConfFault) × (bytes : List ℕ) × Reads Check bytes (work_of c) × IsFault bytes fault × IsSaid (fault_message fault) c.err

  faulty_by : (end : Result (Unit {0}) Refusal) → 4 ≡ status_at end → WorkEnds end (work_of c) → Speaks end (file_in c.words) c.err → Faulty
  faulty_by (Ok u) is w s = absurd (omega (arith, is))
  faulty_by (Err (Config f)) is w s = (f, w.cause.0, w.cause.1, w.cause.2, s)
  faulty_by (Err _) is w s = absurd (omega (arith, is))

  abbrev Unselected : Type 0
  Unselected = (fault : SelectorFault) × IsSomeAnd (asked_in c.words) (OfFile (λ a. RefusesSelector a.command fault)) × IsSaid (selector_message fault) c.err

  selector_by : (end : Result (Unit {0}) Refusal) → 12 ≡ status_at end → WorkEnds end (work_of c) → Speaks end (file_in c.words) c.err → Unselected
  selector_by (Ok u) is w s = absurd (omega (arith, is))
  selector_by (Err (Selector f)) is w s = (f, w.cause, s)
  selector_by (Err _) is w s = absurd (omega (arith, is))

  abbrev Misspelled : Type 0
  Misspelled =
      (fault : ScriptFault) × (command : Command) × (bytes : List ℕ) × Reads command bytes (work_of c) × HasScriptFault command bytes fault
      × IsSaid (script_message fault) c.err

  misspelled_by : (end : Result (Unit {0}) Refusal) → 5 ≡ status_at end → WorkEnds end (work_of c) → Speaks end (file_in c.words) c.err → Misspelled
  misspelled_by (Ok u) is w s = absurd (omega (arith, is))
  misspelled_by (Err (Script f)) is w s = (f, w.cause.0, w.cause.1, w.cause.2, w.cause.3, s)
  misspelled_by (Err _) is w s = absurd (omega (arith, is))

  abbrev FaultyLine : Type 0
  FaultyLine = (line : ℕ) × (bytes : List ℕ) × Reads Convert bytes (work_of c) × (converted bytes ≡ Err line) × IsSaid (line_message line) c.err

  line_by : (end : Result (Unit {0}) Refusal) → 13 ≡ status_at end → WorkEnds end (work_of c) → Speaks end (file_in c.words) c.err → FaultyLine
  line_by (Ok u) is w s = absurd (omega (arith, is))
  line_by (Err (OpenMetrics l)) is w s = (l, w.cause.0, w.cause.1, w.cause.2, s)
  line_by (Err _) is w s = absurd (omega (arith, is))

  pub causes_of : Causes c
  causes_of = record {
    done = λ e. done_by e.end e.status_is e.work_ends;
    quiet = λ e. quiet_by e.end e.status_is e.speaks;
    bad_words = λ e. (told_by BadWords tt e).refused.cause;
    selector = λ e. selector_by e.end e.status_is e.work_ends e.speaks;
    absent = λ e. let t = told_by Absent tt e in (t.refused.shelf, t.refused.cause);
    faulty = λ e. faulty_by e.end e.status_is e.work_ends e.speaks;
    misspelled = λ e. misspelled_by e.end e.status_is e.work_ends e.speaks;
    faulty_line = λ e. line_by e.end e.status_is e.work_ends e.speaks;
    read_fault = λ e. (told_by ReadFault tt e).refused.shelf;
    front = λ e. (told_by WriteFault tt e).refused.cause;
    too_long = λ e. let t = told_by TooLong tt e in (t.refused.shelf, t.refused.cause);
    said = λ r n e. (told_by r n e).said;
  }

pub status_by : (status : ℕ) (c : Call) → Ended status c → IsStatus status
status_by status c e = of e.end e.status_is
  where
    of : (end : Result (Unit {0}) Refusal) → status ≡ status_at end → IsStatus status
    of (Ok u) is = inl is
    of (Err r) is = inr (r, is)

-- what stays of the output
pub printed_by : (status : ℕ) (c : Call) → Ended status c → status ≡ 0 → Prints (work_of c)
printed_by status c e zero = done_by c e.end (sym zero ∙ e.status_is) e.work_ends

pub unwritten_by : (status : ℕ) (c : Call) → Ended status c → status ≢ 0 → status ≢ 7 → IsUntouched c.out
unwritten_by status c e some other = of e.end e.status_is e.work_ends
  where
    of : (end : Result (Unit {0}) Refusal) → status ≡ status_at end → WorkEnds end (work_of c) → IsUntouched c.out
    of (Ok u) is w = absurd (some is)
    of (Err BadWords) is w = w.out
    of (Err (Selector f)) is w = w.out
    of (Err Absent) is w = w.out
    of (Err (Config f)) is w = w.out
    of (Err (Script f)) is w = w.out
    of (Err (OpenMetrics l)) is w = w.out
    of (Err ReadFault) is w = w.out
    of (Err WriteFault) is w = absurd (other is)
    of (Err NoMemory) is w = w.out
    of (Err TooLong) is w = w.out

-- counts
record Counts (shelf : Use ShelfSeen) : Type 0 where
  pub misses : shelf.before.misses ≤ shelf.after.misses
  pub overs : shelf.before.overs ≤ shelf.after.overs
  pub faults : shelf.before.faults ≤ shelf.after.faults

same_counts : (shelf : Use ShelfSeen) → IsUntouched shelf → Counts shelf
same_counts shelf e =
    let a : shelf.after.misses ≡ shelf.before.misses = ap (λ (s : ShelfSeen). s.misses) e in
    let b : shelf.after.overs ≡ shelf.before.overs = ap (λ (s : ShelfSeen). s.overs) e in
    let d : shelf.after.faults ≡ shelf.before.faults = ap (λ (s : ShelfSeen). s.faults) e in
    record { misses = omega (arith, a); overs = omega (arith, b); faults = omega (arith, d) }

missed_counts : (shelf : Use ShelfSeen) → Missed shelf → Counts shelf
missed_counts shelf m =
    let b : shelf.after.overs ≡ shelf.before.overs = ap (λ (s : ShelfSeen). s.overs) m.rest in
    let d : shelf.after.faults ≡ shelf.before.faults = ap (λ (s : ShelfSeen). s.faults) m.rest in
    record { misses = m.counted.0; overs = omega (arith, b); faults = omega (arith, d) }

longer_counts : (shelf : Use ShelfSeen) → MetLonger shelf → Counts shelf
longer_counts shelf m =
    let a : shelf.after.misses ≡ shelf.before.misses = ap (λ (s : ShelfSeen). s.misses) m.rest in
    let d : shelf.after.faults ≡ shelf.before.faults = ap (λ (s : ShelfSeen). s.faults) m.rest in
    record { misses = omega (arith, a); overs = m.counted.0; faults = omega (arith, d) }

failed_counts : (shelf : Use ShelfSeen) → FailedToRead shelf → Counts shelf
failed_counts shelf m =
    let a : shelf.after.misses ≡ shelf.before.misses = ap (λ (s : ShelfSeen). s.misses) m.rest in
    let b : shelf.after.overs ≡ shelf.before.overs = ap (λ (s : ShelfSeen). s.overs) m.rest in
    record { misses = omega (arith, a); overs = omega (arith, b); faults = m.counted.0 }

same_puts : (out : Use SinkSeen) → IsUntouched out → out.before.faults ≤ out.after.faults
same_puts out e = let d : out.after.faults ≡ out.before.faults = ap (λ (s : SinkSeen). s.faults) e in omega (arith, d)

pub later_by : (status : ℕ) (c : Call) → Ended status c → NoCountFell c
later_by status c e =
    let shelf = of_shelf e.end e.work_ends in
    record { misses = shelf.misses; overs = shelf.overs; reads = shelf.faults; puts = of_out e.end e.work_ends; messages = of_err e.end e.speaks }
  where
    of_shelf : (end : Result (Unit {0}) Refusal) → WorkEnds end (work_of c) → Counts c.shelf
    of_shelf (Ok u) w = same_counts c.shelf w.shelf
    of_shelf (Err BadWords) w = same_counts c.shelf w.shelf
    of_shelf (Err (Selector f)) w = same_counts c.shelf w.shelf
    of_shelf (Err Absent) w = missed_counts c.shelf w.shelf
    of_shelf (Err (Config f)) w = same_counts c.shelf w.shelf
    of_shelf (Err (Script f)) w = same_counts c.shelf w.shelf
    of_shelf (Err (OpenMetrics l)) w = same_counts c.shelf w.shelf
    of_shelf (Err ReadFault) w = failed_counts c.shelf w.shelf
    of_shelf (Err WriteFault) w = same_counts c.shelf w.shelf
    of_shelf (Err NoMemory) w = same_counts c.shelf w.shelf
    of_shelf (Err TooLong) w = longer_counts c.shelf w.shelf

    of_out : (end : Result (Unit {0}) Refusal) → WorkEnds end (work_of c) → c.out.before.faults ≤ c.out.after.faults
    of_out (Ok u) w = let d = w.prints.put.sound in omega (arith, d)
    of_out (Err BadWords) w = same_puts c.out w.out
    of_out (Err (Selector f)) w = same_puts c.out w.out
    of_out (Err Absent) w = same_puts c.out w.out
    of_out (Err (Config f)) w = same_puts c.out w.out
    of_out (Err (Script f)) w = same_puts c.out w.out
    of_out (Err (OpenMetrics l)) w = same_puts c.out w.out
    of_out (Err ReadFault) w = same_puts c.out w.out
    of_out (Err WriteFault) w = w.cause.put.counted.0
    of_out (Err NoMemory) w = same_puts c.out w.out
    of_out (Err TooLong) w = same_puts c.out w.out

    of_err : (end : Result (Unit {0}) Refusal) → Speaks end (file_in c.words) c.err → c.err.before.faults ≤ c.err.after.faults
    of_err (Ok u) s = same_puts c.err s
    of_err (Err r) s = s.later

-- how a call ends, by the end of its work and what was said
pub ended_by : (end : Result (Unit {0}) Refusal) (c : Call) → WorkEnds end (work_of c) → Speaks end (file_in c.words) c.err → Ended (status_at end) c
ended_by end c w s = record { end = end; status_is = refl; work_ends = w; speaks = s }
