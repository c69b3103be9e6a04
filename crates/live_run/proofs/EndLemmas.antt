-- How a run that is over ends.
use Rattle.std.proofs.Common.{◌≡◌, ◌≢◌, ◌<◌, ◌≤◌, ◌+◌, ℕ, ℤ, pos, negsuc, List, [], ◌∷◌, Bool, subst, sym, ap, inl, inr, length, arith, to_z, of_z, w64}
use Rattle.std.proofs.lemmas.Int.{to_z-of_z}
use Rattle.std.specs.Prelude.{Option, Some, None, All, IfSome}
use Rattle.book_text.specs.Texts.{printed}
use Rattle.journal_text.specs.declared.versions.Version.TheVariants.{Two}
use Rattle.journal_text.specs.declared.events.Event.{Event}
use Rattle.journal_text.specs.declared.events.Event.TheVariants.{Load}
use Rattle.journal_text.specs.Events.{journal_text}
use Rattle.outside.specs.Clocks.{ClockSeen, IsReading, Reads}
use Rattle.outside.specs.Objects.{HasFile, FailedToRead, IsUntouched, MetLonger, Missed, Took, Use, ShelfSeen, SinkSeen, used}
use Rattle.outside.specs.Sources.{SourceSeen}
use Rattle.outside.specs.Sizes.{most_text_bytes}
use Rattle.scrape_core.specs.Records.{IsWhole}
use Rattle.scrape_machine.specs.Machine.{book_of}
use Rattle.run_lock.specs.Callers.{BeginsWith}
use Rattle.station.specs.Control.{RecordsCaller, caller_use}
use Rattle.station.specs.Crews.{AllRecorded, RecordsSweeps}
use Rattle.station.specs.Ends.{ShelfWent, SinkWent, SourceWent, EndsSo}
use Rattle.station.specs.declared.ends.RunEnd.{RunEnd}
use Rattle.station.specs.declared.ends.RunEnd.TheVariants as run
use Rattle.station.proofs.EndLemmas.{shelf_same, sink_same, source_same}
use Rattle.live_run.specs.Runs.{Ended, Finishes, IsRunOf, IsTaken, IsUnbegun, IsUnstarted, Touched, Wanted, WroteFront, WroteNothing, WrittenSo, outputs}
use Rattle.live_run.specs.declared.asked.LiveEnd.{LiveEnd}
use Rattle.live_run.specs.declared.asked.LiveEnd.TheVariants.{Done, ControlFault, ControlLong, Absent, TooLong, Config, ReadFault, WriteFault, NoMemory}

-- what a run is known to be, unless memory ran out
pub record Known (end : RunEnd) (w : Wanted) (t : Touched) (es : List Event) (seats : List ℕ) : Type 0 where
  pub moment : ℤ
  pub later : ClockSeen
  pub reading : IfSome t.clock.before.readings (λ readings. Reads moment readings later.readings)
  pub text : List ℕ
  pub has : HasFile t.shelf.before w.file text
  pub short : length text ≤ most_text_bytes
  pub taken : IsTaken text
  pub begins : end ≢ run.NoMemory → BeginsWith (Load moment text ∷ []) es
  pub caller : RecordsCaller (Load moment text ∷ []) end (caller_use t.shelf t.control t.err) es seats
  pub whole : end ≢ run.NoMemory → IsWhole es
  pub each : end ≢ run.NoMemory → length seats ≡ length es
  pub known : end ≢ run.NoMemory → All (λ q. q < 2 + length t.fetchers.before) seats
  pub sweeps : end ≢ run.NoMemory → RecordsSweeps w.turns es seats later t.clock.after
  pub workers : end ≢ run.NoMemory → AllRecorded 0 es seats t.fetchers.before t.fetchers.after
  pub shelf : ShelfWent t.shelf
  pub err : SinkWent t.err
  pub control : SourceWent t.control
  pub ends : EndsSo end t.shelf t.err t.control

module _ (w : Wanted) (t : Touched) (es : List Event) (seats : List ℕ) where
  run_of : (end : RunEnd) → Known end w t es seats → end ≢ run.NoMemory → IsRunOf end w t es
  run_of end k more = record {
    moment = k.moment;
    later = k.later;
    reading = k.reading;
    text = k.text;
    has = k.has;
    short = k.short;
    taken = k.taken;
    begins = k.begins more;
    caller = k.caller;
    whole = k.whole more;
    seats = seats;
    each = k.each more;
    known = k.known more;
    sweeps = k.sweeps more;
    workers = k.workers more;
  }

  -- the writing of a run ended so
  module _ (end : LiveEnd)
      (done : Took (journal_text Two es) t.trail → Took (printed w.kept (book_of es)) t.out → Ended end w t)
      (cut : WroteFront w.kept es t.trail t.out → Ended WriteFault w t)
      (none : IsUntouched t.trail → IsUntouched t.out → Ended NoMemory w t) where
    written : (e : LiveEnd) → WrittenSo end e w.kept es (outputs t.trail t.out) → Ended e w t
    written WriteFault h = cut h
    written NoMemory h = none h.0 h.1
    written Done h = subst (λ (x : LiveEnd). Ended x w t) (sym h.0) (done h.1 h.2)
    written ControlFault h = subst (λ (x : LiveEnd). Ended x w t) (sym h.0) (done h.1 h.2)
    written ControlLong h = subst (λ (x : LiveEnd). Ended x w t) (sym h.0) (done h.1 h.2)
    written Absent h = subst (λ (x : LiveEnd). Ended x w t) (sym h.0) (done h.1 h.2)
    written TooLong h = subst (λ (x : LiveEnd). Ended x w t) (sym h.0) (done h.1 h.2)
    written (Config fault) h = subst (λ (x : LiveEnd). Ended x w t) (sym h.0) (done h.1 h.2)
    written ReadFault h = subst (λ (x : LiveEnd). Ended x w t) (sym h.0) (done h.1 h.2)

  module _ (shelf : ShelfWent t.shelf) (err : SinkWent t.err) (control : SourceWent t.control) where
    none : IsUntouched t.trail → IsUntouched t.out → Ended NoMemory w t
    none a b = record { writes = record { trail = a; out = b }; began = tt; stopped = tt; shelf = shelf; err = err; control = control }

    cut : (end : RunEnd) → IsRunOf end w t es → WroteFront w.kept es t.trail t.out → Ended WriteFault w t
    cut end r f = record { writes = inl (record { end = end; journal = es; run = r; front = f }); began = tt; stopped = tt; shelf = shelf; err = err; control = control }

  pub ended : (end : RunEnd) (e : LiveEnd) → Known end w t es seats → Finishes end w.kept es e (outputs t.trail t.out) → Ended e w t
  ended run.NoMemory e k h = subst (λ (x : LiveEnd). Ended x w t) (sym h.0) (none k.shelf k.err k.control h.1 h.2)
  ended run.WriteFault e k h =
      subst (λ (x : LiveEnd). Ended x w t) (sym h.0)
      (record { writes = inr (record { trail = h.1; out = h.2 }, k.ends.0); began = tt; stopped = tt; shelf = k.shelf; err = k.err; control = k.control })
  ended run.Done e k h =
      let r = run_of run.Done k (λ no. absurd cc) in
      written Done (λ a b. record { writes = record { journal = es; run = r; trail = a; book = b }; began = tt; stopped = k.ends; shelf = k.shelf; err = k.err; control = k.control })
      (cut k.shelf k.err k.control _ r) (none k.shelf k.err k.control) e h
  ended run.ReadFault e k h =
      let r = run_of run.ReadFault k (λ no. absurd cc) in
      written ControlFault (λ a b. record { writes = record { journal = es; run = r; trail = a; book = b }; began = tt; stopped = k.ends; shelf = k.shelf; err = k.err; control = k.control })
      (cut k.shelf k.err k.control _ r) (none k.shelf k.err k.control) e h
  ended run.TooLong e k h =
      let r = run_of run.TooLong k (λ no. absurd cc) in
      written ControlLong (λ a b. record { writes = record { journal = es; run = r; trail = a; book = b }; began = tt; stopped = k.ends; shelf = k.shelf; err = k.err; control = k.control })
      (cut k.shelf k.err k.control _ r) (none k.shelf k.err k.control) e h

-- a shelf whose one count rose, and objects that were left alone
missed_went : (u : Use ShelfSeen) → Missed u → ShelfWent u
missed_went u m = let o = ap (λ (x : ShelfSeen). x.overs) m.rest in let f = ap (λ (x : ShelfSeen). x.faults) m.rest in
    record { files = ap (λ (x : ShelfSeen). x.files) m.rest; misses = m.counted.0; overs = omega (arith, o); faults = omega (arith, f) }

longer_went : (u : Use ShelfSeen) → MetLonger u → ShelfWent u
longer_went u m = let o = ap (λ (x : ShelfSeen). x.misses) m.rest in let f = ap (λ (x : ShelfSeen). x.faults) m.rest in
    record { files = ap (λ (x : ShelfSeen). x.files) m.rest; misses = omega (arith, o); overs = m.counted.0; faults = omega (arith, f) }

failed_went : (u : Use ShelfSeen) → FailedToRead u → ShelfWent u
failed_went u m = let o = ap (λ (x : ShelfSeen). x.misses) m.rest in let f = ap (λ (x : ShelfSeen). x.overs) m.rest in
    record { files = ap (λ (x : ShelfSeen). x.files) m.rest; misses = omega (arith, o); overs = omega (arith, f); faults = m.counted.0 }

alone_went : (u : Use ShelfSeen) → IsUntouched u → ShelfWent u
alone_went u h = subst (λ (x : ShelfSeen). ShelfWent (used u.before x)) (sym h) (shelf_same u.before)

-- a run that did not begin
pub unbegun : (e : LiveEnd) (w : Wanted) (t : Touched) → IsUnstarted e w.file t.shelf → IsUntouched t.trail → IsUntouched t.out → IsUntouched t.err → IsUntouched t.control → Ended e w t
unbegun e w t h trail out quiet still = of e h
  where
    err : SinkWent t.err
    err = subst (λ (x : SinkSeen). SinkWent (used t.err.before x)) (sym quiet) (sink_same t.err.before)

    control : SourceWent t.control
    control = subst (λ (x : SourceSeen). SourceWent (used t.control.before x)) (sym still) (source_same t.control.before)

    nothing : WroteNothing t
    nothing = record { trail = trail; out = out }

    of : (e : LiveEnd) → IsUnstarted e w.file t.shelf → Ended e w t
    of Done h = absurd h
    of ControlFault h = absurd h
    of ControlLong h = absurd h
    of Absent h = record { writes = nothing; began = (h, quiet); stopped = tt; shelf = missed_went t.shelf h.1; err = err; control = control }
    of TooLong h = record { writes = nothing; began = (h, quiet); stopped = tt; shelf = longer_went t.shelf h.1; err = err; control = control }
    of (Config fault) h = record { writes = nothing; began = (h, quiet); stopped = tt; shelf = alone_went t.shelf h.4; err = err; control = control }
    of ReadFault h = record { writes = nothing; began = (h, quiet); stopped = tt; shelf = failed_went t.shelf h; err = err; control = control }
    of WriteFault h = absurd h
    of NoMemory h = record { writes = nothing; began = tt; stopped = tt; shelf = alone_went t.shelf h; err = err; control = control }

-- a reading of a clock as a moment
pub reading_is : (z : ℤ) → IsReading z → to_z w64 (of_z w64 z) ≡ z
reading_is (pos n) small = to_z-of_z w64 (pos n) (omega (arith, small))
reading_is (negsuc n) small = absurd small

-- a run that is over did not end as one that never began
written_begun : (end e : LiveEnd) (kept : Bool) (es : List Event) (trail out : Use SinkSeen) →
    (IsUnbegun end → ⊥) → WrittenSo end e kept es (outputs trail out) → IsUnbegun e → ⊥
written_begun end Done kept es trail out never h u = u
written_begun end ControlFault kept es trail out never h u = u
written_begun end ControlLong kept es trail out never h u = u
written_begun end Absent kept es trail out never h u = never (subst IsUnbegun h.0 u)
written_begun end TooLong kept es trail out never h u = never (subst IsUnbegun h.0 u)
written_begun end (Config fault) kept es trail out never h u = never (subst IsUnbegun h.0 u)
written_begun end ReadFault kept es trail out never h u = never (subst IsUnbegun h.0 u)
written_begun end WriteFault kept es trail out never h u = u
written_begun end NoMemory kept es trail out never h u = u

pub begun : (end : RunEnd) (e : LiveEnd) (kept : Bool) (es : List Event) (trail out : Use SinkSeen) → Finishes end kept es e (outputs trail out) → IsUnbegun e → ⊥
begun run.NoMemory e kept es trail out h u = subst IsUnbegun h.0 u
begun run.WriteFault e kept es trail out h u = subst IsUnbegun h.0 u
begun run.Done e kept es trail out h u = written_begun Done e kept es trail out (λ x. x) h u
begun run.ReadFault e kept es trail out h u = written_begun ControlFault e kept es trail out (λ x. x) h u
begun run.TooLong e kept es trail out h u = written_begun ControlLong e kept es trail out (λ x. x) h u

-- what is known of a value, if there is one, by a fact of it that a further one gives, and by three facts of it
pub with_some : {X A : Type 0} {P Q : X → Type 0} (o : Option X) → ((x : X) → (A → P x) → Q x) → (A → IfSome o P) → IfSome o Q
with_some None f h = tt
with_some (Some x) f h = f x h

pub with_three : {X : Type 0} {P Q R S : X → Type 0} (o : Option X) → ((x : X) → P x → Q x → R x → S x) → IfSome o P → IfSome o Q → IfSome o R → IfSome o S
with_three None f p q r = tt
with_three (Some x) f p q r = f x p q r
