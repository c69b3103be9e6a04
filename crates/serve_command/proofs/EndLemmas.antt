-- Which status of serving is due, and what each says.
use Rattle.std.proofs.Common.{◌≡◌, ◌⊎◌, inl, inr, ⊎_elim, ℕ, List, refl, sym, subst, arith}
use Rattle.std.specs.Prelude.{Some, false, Err}
use Rattle.journal_text.specs.declared.events.Event.{Event}
use Rattle.journal_text.specs.declared.faults.ScriptFault.{ScriptFault}
use Rattle.outside.specs.Objects.{SinkSeen, Use, IsUntouched, KnownAbsent, KnownLonger, LacksFile, Missed, Rose}
use Rattle.command_words.specs.Askings.{Serving}
use Rattle.command_words.specs.declared.words.Order.TheVariants.{Serve}
use Rattle.scrape_commands.specs.Ends.{Speaks, status_at, status_of}
use Rattle.scrape_commands.specs.Laws.{IsFreely}
use Rattle.scrape_commands.specs.Scripts.{IsFaultOf, IsScriptOf, StandsFor, StandsForNone}
use Rattle.scrape_commands.specs.declared.refusals.Refusal.TheVariants as refusal
use Rattle.scrape_commands.proofs.FaultLemmas.{fault_stands, script_not}
use Rattle.scrape_commands.proofs.FileLemmas.{longer_has, longer_lacks, none_has, none_longer, not_lacking, not_longer, same_file}
use Rattle.status_server.specs.Serving as server
use Rattle.status_server.specs.Serving.{ServesAll}
use Rattle.status_server.specs.declared.serving.ServeEnd.TheVariants as serve
use Rattle.serve_command.specs.Ends.{Complete, EndedServe, GaveMore, IsRead, IsSound, KnownScript, file_said, refusal_of, script_refusal}
use Rattle.serve_command.specs.Serves.{AnswersAll, Ends, IsFaulty, IsReplayed, Touched, Unserved, Wrote, most_script_bytes}
use Rattle.serve_command.specs.declared.ends.ScriptEnd.{ScriptEnd}
use Rattle.serve_command.specs.declared.ends.ScriptEnd.TheVariants as script
use Rattle.serve_command.specs.declared.ends.ServerEnd.{ServerEnd}
use Rattle.serve_command.specs.declared.ends.ServerEnd.TheVariants.{Done, Unreplayed, ReadFault, TooLong, WriteFault, NoMemory}

module _ (s : Serving) (t : Touched) where
  -- the script was replayed; or an end says that it wasn't
  abbrev Replayed : Type 0
  Replayed = (journal : List Event) × IsReplayed s.script t.shelf.before journal

  abbrev Wasnt : ServerEnd → Type 0
  Wasnt end = (e : ScriptEnd) × (end ≡ Unreplayed e) × Unserved e s t

  replayed_at : (end : ServerEnd) → Ends end s t → Replayed ⊎ Wasnt end
  replayed_at Done e = inl (e.served.journal, e.served.replayed)
  replayed_at (Unreplayed u) e = inr (u, refl, e)
  replayed_at ReadFault e = inl (e.served.journal, e.served.replayed)
  replayed_at TooLong e = inl (e.served.journal, e.served.replayed)
  replayed_at WriteFault e =
      ⊎_elim (λ n. inl (n.served.journal, n.served.replayed)) (λ f. inl (f.served.journal, f.served.replayed)) e
  replayed_at NoMemory e = inl (e.nothing.served.journal, e.nothing.served.replayed)

  -- a status is due for a script that isn't replayed, where one that was is impossible
  due_by : (due : ℕ) (end : ServerEnd) → Ends end s t → (Replayed → ⊥) → ((e : ScriptEnd) → Unserved e s t → IsFreely due (status_of (script_refusal e)))
      → IsFreely due (status_at (refusal_of end))
  due_by due end e not at =
      ⊎_elim (λ r. absurd (not r)) (λ u. subst (λ (x : ServerEnd). IsFreely due (status_at (refusal_of x))) (sym u.1) (at u.0 u.2)) (replayed_at end e)

  none_at : KnownAbsent t.shelf.before s.script → IsRead t → (e : ScriptEnd) → Unserved e s t → IsFreely 3 (status_of (script_refusal e))
  none_at none read script.Absent u = inl refl
  none_at none read script.TooLong u = absurd (none_longer t.shelf.before.files s.script most_script_bytes none u.cause.0)
  none_at none read script.ReadFault u = absurd (read u.cause.counted)
  none_at none read (script.Script f) u = absurd (none_has t.shelf.before.files s.script u.cause.bytes none u.cause.has)
  none_at none read script.NoMemory u = inr refl

  longer_at : KnownLonger t.shelf.before s.script most_script_bytes → IsRead t → (e : ScriptEnd) → Unserved e s t → IsFreely 9 (status_of (script_refusal e))
  longer_at long read script.Absent u = absurd (longer_lacks t.shelf.before.files s.script most_script_bytes long u.cause.0)
  longer_at long read script.TooLong u = inl refl
  longer_at long read script.ReadFault u = absurd (read u.cause.counted)
  longer_at long read (script.Script f) u = absurd (longer_has t.shelf.before.files s.script u.cause.bytes most_script_bytes long u.cause.has u.cause.short)
  longer_at long read script.NoMemory u = inr refl

  module _ (bytes : List ℕ) (known : KnownScript s t bytes) (read : IsRead t) where
    unspelled_at : (e : ScriptEnd) → Unserved e s t → IsFreely 5 (status_of (script_refusal e))
    unspelled_at script.Absent u = absurd (not_lacking t.shelf.before.files s.script bytes known.file u.cause.0)
    unspelled_at script.TooLong u = absurd (not_longer t.shelf.before.files s.script bytes most_script_bytes known.file u.cause.0 known.short)
    unspelled_at script.ReadFault u = absurd (read u.cause.counted)
    unspelled_at (script.Script f) u = inl refl
    unspelled_at script.NoMemory u = inr refl

    spells_not : StandsForNone false bytes → Replayed → ⊥
    spells_not none r =
        script_not false bytes r.0
        (subst (λ (b : List ℕ). IsScriptOf false b r.0) (same_file t.shelf.before.files s.script bytes r.1.bytes known.file r.1.has) r.1.is) none

    stands_at : StandsFor false bytes → (e : ScriptEnd) → Unserved e s t → IsFreely 0 (status_of (script_refusal e))
    stands_at stands script.Absent u = absurd (not_lacking t.shelf.before.files s.script bytes known.file u.cause.0)
    stands_at stands script.TooLong u = absurd (not_longer t.shelf.before.files s.script bytes most_script_bytes known.file u.cause.0 known.short)
    stands_at stands script.ReadFault u = absurd (read u.cause.counted)
    stands_at stands (script.Script f) u =
        absurd (fault_stands false bytes f
        (subst (λ (b : List ℕ). IsFaultOf false b f) (same_file t.shelf.before.files s.script bytes u.cause.bytes known.file u.cause.has) u.cause.is) stands)
    stands_at stands script.NoMemory u = inr refl

  gave_more : Wrote serve.TooLong s t → GaveMore t
  gave_more e = let more = e.served.serves.so.1 in let given = e.served.serves.given.given in omega (arith, more, given)

  done : (end : ServerEnd) → Ends end s t → (bytes : List ℕ) → KnownScript s t bytes → StandsFor false bytes → IsSound t → ¬ GaveMore t
      → IsFreely 0 (status_at (refusal_of end))
  done Done e bytes known stands sound few = inl refl
  done (Unreplayed u) e bytes known stands sound few = stands_at bytes known sound.read stands u e
  done ReadFault e bytes known stands sound few = absurd (⊎_elim (λ f. sound.given f.2) (λ f. sound.read f.1) e.served.serves.so.0)
  done TooLong e bytes known stands sound few = absurd (few (gave_more e))
  done WriteFault e bytes known stands sound few =
      absurd (⊎_elim (λ n. sound.put n.served.serves.so.2.counted) (λ f. sound.written f.trail.counted) e)
  done NoMemory e bytes known stands sound few = inr refl

  complete : (end : ServerEnd) → Ends end s t → Complete (status_at (refusal_of end)) s t
  complete end e = record {
    missing = λ none read. due_by 3 end e (λ r. none_has t.shelf.before.files s.script r.1.bytes none r.1.has) (none_at none read);
    longer = λ long read. due_by 9 end e (λ r. longer_has t.shelf.before.files s.script r.1.bytes most_script_bytes long r.1.has r.1.short) (longer_at long read);
    unspelled = λ bytes known none read. due_by 5 end e (spells_not bytes known read none) (unspelled_at bytes known read);
    done = done end e;
  }

  -- what the status says
  absent : (end : ServerEnd) → Ends end s t → status_at (refusal_of end) ≡ 3 → LacksFile t.shelf.before s.script × Missed t.shelf
  absent (Unreplayed script.Absent) e is = e.cause
  absent _ e is = absurd (omega (arith, is))

  misspelled : (end : ServerEnd) → Ends end s t → status_at (refusal_of end) ≡ 5 → (fault : ScriptFault) × IsFaulty s.script t.shelf fault
  misspelled (Unreplayed (script.Script f)) e is = (f, e.cause)
  misspelled _ e is = absurd (omega (arith, is))

  read_fault : (end : ServerEnd) → Ends end s t → status_at (refusal_of end) ≡ 6 → Rose t.shelf.before.faults t.shelf.after.faults ⊎ Rose t.control.before.faults t.control.after.faults
  read_fault (Unreplayed script.ReadFault) e is = inl e.cause.counted
  read_fault ReadFault e is = ⊎_elim (λ f. inr f.2) (λ f. inl f.1) e.served.serves.so.0
  read_fault _ e is = absurd (omega (arith, is))

  write_fault : (end : ServerEnd) → Ends end s t → status_at (refusal_of end) ≡ 7 → Rose t.out.before.faults t.out.after.faults ⊎ Rose t.trail.before.faults t.trail.after.faults
  write_fault WriteFault e is = ⊎_elim (λ n. inl n.served.serves.so.2.counted) (λ f. inr f.trail.counted) e
  write_fault (Unreplayed script.Absent) e is = absurd (omega (arith, is))
  write_fault _ e is = absurd (omega (arith, is))

  too_long : (end : ServerEnd) → Ends end s t → status_at (refusal_of end) ≡ 9 → Rose t.shelf.before.overs t.shelf.after.overs ⊎ GaveMore t
  too_long (Unreplayed script.TooLong) e is = inl e.cause.1.counted
  too_long TooLong e is = inr (gave_more e)
  too_long _ e is = absurd (omega (arith, is))

  whole : ServesAll → (end : ServerEnd) → Ends end s t → status_at (refusal_of end) ≡ 0 → AnswersAll s t
  whole all Done e is = record {
    journal = e.served.journal;
    replayed = e.served.replayed;
    after = e.after;
    answered = all e.served.journal s.file (server.touched t.shelf t.control t.out) e.after e.served.serves;
    trail = e.trail;
  }
  whole all (Unreplayed script.Absent) e is = absurd (omega (arith, is))
  whole all _ e is = absurd (omega (arith, is))

  ended_by : (end : ServerEnd) (err : Use SinkSeen) → Ends end s t → Speaks (refusal_of end) (file_said end s.script) err
      → (status_at (refusal_of end) ≡ 0 → AnswersAll s t) → EndedServe (status_at (refusal_of end)) s t err
  ended_by end err e speaks all = record {
    end = end;
    status_is = refl;
    ends = e;
    speaks = speaks;
    whole = all;
    complete = complete end e;
    causes = record { absent = absent end e; misspelled = misspelled end e; read_fault = read_fault end e; write_fault = write_fault end e; too_long = too_long end e };
  }

  pub ended : ServesAll → (end : ServerEnd) (status : ℕ) (err : Use SinkSeen) → status ≡ status_at (refusal_of end) → Ends end s t
      → Speaks (refusal_of end) (file_said end s.script) err → EndedServe status s t err
  ended all end status err is e speaks = subst (λ (x : ℕ). EndedServe x s t err) (sym is) (ended_by end err e speaks (whole all end e))

  -- nothing was done, since memory ran out
  pub wanting : (err : Use SinkSeen) (file : List ℕ) → IsUntouched t.shelf → IsUntouched t.out → IsUntouched t.trail → IsUntouched t.control
      → Speaks (Err refusal.NoMemory) file err → EndedServe 8 s t err
  wanting err file shelf out trail control speaks =
      ended_by (Unreplayed script.NoMemory) err (record { cause = shelf; out_same = out; trail_same = trail; control_same = control }) speaks (λ is. absurd (omega (arith, is)))

-- words ask for one serving
pub same_serve : (a b : Serving) → Some (Serve a) ≡ Some (Serve b) → a ≡ b
same_serve a b h = cc
