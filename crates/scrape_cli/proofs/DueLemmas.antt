-- Which status of a live run is due, and what each says of the counts.
use Rattle.std.proofs.Common.{◌≡◌, ◌⊎◌, ◌≤◌, inl, inr, ⊎_elim, ℕ, List, [], length, refl, sym, ap, subst, arith}
use Rattle.std.specs.Prelude.{Err}
use Rattle.config_fields.specs.declared.fault.ConfFault.{ConfFault}
use Rattle.jobs_in_force.specs.Jobs.{loaded}
use Rattle.outside.specs.Objects.{SinkSeen, used, IsUntouched, KnownAbsent, KnownLonger, Rose, HasFile}
use Rattle.outside.specs.Sources.{SourceSeen}
use Rattle.outside.specs.Sizes.{most_text_bytes}
use Rattle.command_words.specs.Askings.{Running}
use Rattle.live_run.specs.Runs.{Ended, IsTaken, IsUnbegun, Touched, Writes, wanted}
use Rattle.live_run.specs.declared.asked.LiveEnd.{LiveEnd}
use Rattle.live_run.specs.declared.asked.LiveEnd.TheVariants.{Done, ControlFault, ControlLong, Absent, TooLong, Config, ReadFault, WriteFault, NoMemory}
use Rattle.scrape_commands.specs.Ends.{status_at}
use Rattle.scrape_commands.specs.Laws.{IsFreely}
use Rattle.scrape_commands.proofs.FileLemmas.{longer_has, longer_lacks, none_has, none_longer, not_lacking, not_longer, same_file}
use Rattle.scrape_cli.specs.Lives.{CausesLive, CompleteLive, GaveMore, IsGiven, IsRead, IsWritten, KnownText, refusal_of}
use Rattle.station.specs.Ends.{IsShort}
use Rattle.station.proofs.EndLemmas.{rose_first}

taken_not : (text : List ℕ) (fault : ConfFault) → IsTaken text → loaded [] text ≡ Err fault → ⊥
taken_not text fault h is = absurd (cc)

-- of a run that ended, whose message was tried behind what it said
module _ (r : Running) (t : Touched) (between : SinkSeen) where
  abbrev run : Touched
  run = record t { err = used t.err.before between }

  abbrev Ran : LiveEnd → Type 0
  Ran end = Ended end (wanted r.file r.turns r.kept) run

  -- a write that failed was counted
  wrote_not : between.faults ≤ t.err.after.faults → IsWritten t → Writes WriteFault (wanted r.file r.turns r.kept) run → ⊥
  wrote_not said written h =
      ⊎_elim (λ some. ⊎_elim (λ cut. written.trail cut.0.counted) (λ cut. written.out cut.1.counted) some.front)
      (λ none. written.err (rose_first t.err.before.faults between.faults t.err.after.faults none.1 said)) h

  missing : (end : LiveEnd) → Ran end → between.faults ≤ t.err.after.faults → KnownAbsent t.shelf.before r.file → IsRead t → IsWritten t → IsFreely 3 (status_at (refusal_of end))
  missing Done e said none read written = absurd (none_has t.shelf.before.files r.file e.writes.run.text none e.writes.run.has)
  missing ControlFault e said none read written = absurd (none_has t.shelf.before.files r.file e.writes.run.text none e.writes.run.has)
  missing ControlLong e said none read written = absurd (none_has t.shelf.before.files r.file e.writes.run.text none e.writes.run.has)
  missing Absent e said none read written = inl refl
  missing TooLong e said none read written = absurd (none_longer t.shelf.before.files r.file most_text_bytes none e.began.0.0)
  missing (Config fault) e said none read written = absurd (none_has t.shelf.before.files r.file e.began.0.0 none e.began.0.1)
  missing ReadFault e said none read written = absurd (read e.began.0.counted)
  missing WriteFault e said none read written = absurd (wrote_not said written e.writes)
  missing NoMemory e said none read written = inr refl

  not_so_long : (text : List ℕ) → HasFile t.shelf.before r.file text → length text ≤ most_text_bytes → KnownLonger t.shelf.before r.file most_text_bytes → ⊥
  not_so_long text has short long = longer_has t.shelf.before.files r.file text most_text_bytes long has short

  longer : (end : LiveEnd) → Ran end → between.faults ≤ t.err.after.faults → KnownLonger t.shelf.before r.file most_text_bytes → IsRead t → IsWritten t → IsFreely 9 (status_at (refusal_of end))
  longer Done e said long read written = absurd (not_so_long e.writes.run.text e.writes.run.has e.writes.run.short long)
  longer ControlFault e said long read written = absurd (not_so_long e.writes.run.text e.writes.run.has e.writes.run.short long)
  longer ControlLong e said long read written = inl refl
  longer Absent e said long read written = absurd (longer_lacks t.shelf.before.files r.file most_text_bytes long e.began.0.0)
  longer TooLong e said long read written = inl refl
  longer (Config fault) e said long read written = absurd (not_so_long e.began.0.0 e.began.0.1 e.began.0.2 long)
  longer ReadFault e said long read written = absurd (read e.began.0.counted)
  longer WriteFault e said long read written = absurd (wrote_not said written e.writes)
  longer NoMemory e said long read written = inr refl

  not_taken : (other : List ℕ) → HasFile t.shelf.before r.file other → IsTaken other → (text : List ℕ) (fault : ConfFault) → KnownText r t text → loaded [] text ≡ Err fault → ⊥
  not_taken other has taken text fault known is = taken_not text fault (subst IsTaken (same_file t.shelf.before.files r.file text other known.file has) taken) is

  refused : (end : LiveEnd) → Ran end → between.faults ≤ t.err.after.faults → (text : List ℕ) (fault : ConfFault) → KnownText r t text → loaded [] text ≡ Err fault → IsRead t → IsWritten t → IsFreely 4 (status_at (refusal_of end))
  refused Done e said text fault known is read written = absurd (not_taken e.writes.run.text e.writes.run.has e.writes.run.taken text fault known is)
  refused ControlFault e said text fault known is read written = absurd (not_taken e.writes.run.text e.writes.run.has e.writes.run.taken text fault known is)
  refused ControlLong e said text fault known is read written = absurd (not_taken e.writes.run.text e.writes.run.has e.writes.run.taken text fault known is)
  refused Absent e said text fault known is read written = absurd (not_lacking t.shelf.before.files r.file text known.file e.began.0.0)
  refused TooLong e said text fault known is read written = absurd (not_longer t.shelf.before.files r.file text most_text_bytes known.file e.began.0.0 known.short)
  refused (Config f) e said text fault known is read written = inl refl
  refused ReadFault e said text fault known is read written = absurd (read e.began.0.counted)
  refused WriteFault e said text fault known is read written = absurd (wrote_not said written e.writes)
  refused NoMemory e said text fault known is read written = inr refl

  done : (end : LiveEnd) → Ran end → between.faults ≤ t.err.after.faults → (text : List ℕ) → KnownText r t text → IsTaken text → IsRead t → IsGiven t → IsWritten t → IsShort t.control → IsFreely 0 (status_at (refusal_of end))
  done Done e said text known taken read given written short = inl refl
  done ControlFault e said text known taken read given written short = absurd (⊎_elim (λ f. read f.0) (λ f. given f.1) e.stopped.2)
  done ControlLong e said text known taken read given written short = let more = e.stopped.0 in absurd (omega (arith, more, short))
  done Absent e said text known taken read given written short = absurd (not_lacking t.shelf.before.files r.file text known.file e.began.0.0)
  done TooLong e said text known taken read given written short = absurd (not_longer t.shelf.before.files r.file text most_text_bytes known.file e.began.0.0 known.short)
  done (Config fault) e said text known taken read given written short =
      absurd (taken_not text fault taken (subst (λ (x : List ℕ). loaded [] x ≡ Err fault) (same_file t.shelf.before.files r.file text e.began.0.0 known.file e.began.0.1) e.began.0.3))
  done ReadFault e said text known taken read given written short = absurd (read e.began.0.counted)
  done WriteFault e said text known taken read given written short = absurd (wrote_not said written e.writes)
  done NoMemory e said text known taken read given written short = inr refl

  not_more : IsUntouched t.control → GaveMore t → ⊥
  not_more same more = let given = ap (λ (x : SourceSeen). x.given) same in omega (arith, more, given)

  more : (end : LiveEnd) → Ran end → between.faults ≤ t.err.after.faults → (IsUnbegun end → IsUntouched t.control) → GaveMore t → IsWritten t → IsFreely 9 (status_at (refusal_of end))
  more Done e said still over written = let short = e.stopped.short in absurd (omega (arith, over, short))
  more ControlFault e said still over written = let short = e.stopped.0 in absurd (omega (arith, over, short))
  more ControlLong e said still over written = inl refl
  more Absent e said still over written = absurd (not_more (still tt) over)
  more TooLong e said still over written = inl refl
  more (Config fault) e said still over written = absurd (not_more (still tt) over)
  more ReadFault e said still over written = absurd (not_more (still tt) over)
  more WriteFault e said still over written = absurd (wrote_not said written e.writes)
  more NoMemory e said still over written = inr refl

  pub complete : (end : LiveEnd) (status : ℕ) → status ≡ status_at (refusal_of end) → Ran end → between.faults ≤ t.err.after.faults → (IsUnbegun end → IsUntouched t.control) → CompleteLive status r t
  complete end status is e said still = subst (λ (s : ℕ). CompleteLive s r t) (sym is) (record {
    missing = missing end e said;
    longer = longer end e said;
    refused = refused end e said;
    done = done end e said;
    more = more end e said still;
  })

  -- which count rose, by the status
  read_fault : (end : LiveEnd) → Ran end → status_at (refusal_of end) ≡ 6 → Rose t.shelf.before.faults t.shelf.after.faults ⊎ Rose t.control.before.faults t.control.after.faults
  read_fault Done e is = absurd (omega (arith, is))
  read_fault ControlFault e is = ⊎_elim (λ f. inl f.0) (λ f. inr f.1) e.stopped.2
  read_fault ControlLong e is = absurd (omega (arith, is))
  read_fault Absent e is = absurd (omega (arith, is))
  read_fault TooLong e is = absurd (omega (arith, is))
  read_fault (Config fault) e is = absurd (omega (arith, is))
  read_fault ReadFault e is = inl e.began.0.counted
  read_fault WriteFault e is = absurd (omega (arith, is))
  read_fault NoMemory e is = absurd (omega (arith, is))

  write_fault : (end : LiveEnd) → Ran end → between.faults ≤ t.err.after.faults → status_at (refusal_of end) ≡ 7
      → Rose t.err.before.faults t.err.after.faults ⊎ (Rose t.trail.before.faults t.trail.after.faults ⊎ Rose t.out.before.faults t.out.after.faults)
  write_fault Done e said is = absurd (omega (arith, is))
  write_fault ControlFault e said is = absurd (omega (arith, is))
  write_fault ControlLong e said is = absurd (omega (arith, is))
  write_fault Absent e said is = absurd (omega (arith, is))
  write_fault TooLong e said is = absurd (omega (arith, is))
  write_fault (Config fault) e said is = absurd (omega (arith, is))
  write_fault ReadFault e said is = absurd (omega (arith, is))
  write_fault WriteFault e said is =
      ⊎_elim (λ some. ⊎_elim (λ cut. inr (inl cut.0.counted)) (λ cut. inr (inr cut.1.counted)) some.front)
      (λ none. inl (rose_first t.err.before.faults between.faults t.err.after.faults none.1 said)) e.writes
  write_fault NoMemory e said is = absurd (omega (arith, is))

  too_long : (end : LiveEnd) → Ran end → status_at (refusal_of end) ≡ 9 → Rose t.shelf.before.overs t.shelf.after.overs ⊎ GaveMore t
  too_long Done e is = absurd (omega (arith, is))
  too_long ControlFault e is = absurd (omega (arith, is))
  too_long ControlLong e is = inr e.stopped.0
  too_long Absent e is = absurd (omega (arith, is))
  too_long TooLong e is = inl e.began.0.1.counted
  too_long (Config fault) e is = absurd (omega (arith, is))
  too_long ReadFault e is = absurd (omega (arith, is))
  too_long WriteFault e is = absurd (omega (arith, is))
  too_long NoMemory e is = absurd (omega (arith, is))

  pub causes : (end : LiveEnd) (status : ℕ) → status ≡ status_at (refusal_of end) → Ran end → between.faults ≤ t.err.after.faults → CausesLive status t
  causes end status is e said = subst (λ (s : ℕ). CausesLive s t) (sym is) (record { read_fault = read_fault end e; write_fault = write_fault end e said; too_long = too_long end e })
