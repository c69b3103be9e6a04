-- Which status is due of a call that ended, whatever its file says.
use Rattle.std.proofs.Common.{◌≡◌, ◌⊎◌, ℕ, ◌≤◌, List, [], length, sym, refl, ap, ◌∙◌, inl, inr, subst, Option, None, Some}
use Rattle.std.specs.Prelude.{Result, Ok, Err, IsSomeAnd}
use Rattle.std.specs.Option.{option_map_or}
use Rattle.outside.specs.Objects.{HasFile, KnownAbsent, KnownLonger, LacksFile, HasLongerFile}
use Rattle.journal_text.specs.declared.faults.ScriptFault.{ScriptFault}
use Rattle.synth.specs.declared.scripts.Plan.{Plan}
use Rattle.command_words.specs.Askings.{Asking, asking}
use Rattle.command_words.specs.Words.{OfFile, asked_in, file_in, file_asked, limit_of}
use Rattle.command_words.specs.declared.words.Asked.{Asked}
use Rattle.command_words.specs.declared.words.Asked.TheVariants.{File, Synth}
use Rattle.command_words.specs.declared.words.Command.{Command}
use Rattle.command_words.specs.declared.words.Command.TheVariants.{Replay, Check, Convert, At}
use Rattle.scrape_commands.specs.Scripts.{HasScriptFault}
use Rattle.scrape_commands.specs.Instants.{IsReady, IsSureOf, RefusesSelector}
use Rattle.scrape_commands.specs.Ends.{Call, work_of, Reads, IsOfFile, IsAskedFor, IsCause, WorkEnds, status_at}
use Rattle.scrape_commands.specs.Laws.{IsRead, IsWritten, IsUncounted, IsFreely, refused_at}
use Rattle.scrape_commands.specs.declared.refusals.Refusal.{Refusal}
use Rattle.scrape_commands.specs.declared.refusals.Refusal.TheVariants.{BadWords, Selector, Absent, Config, Script, OpenMetrics, ReadFault, WriteFault, NoMemory, TooLong}
use Rattle.scrape_commands.specs.declared.refusals.SelectorFault.{SelectorFault}
use Rattle.scrape_commands.proofs.FileLemmas.{some_same, none_has, none_longer, longer_has, longer_lacks}
use Rattle.scrape_commands.proofs.FaultLemmas.{sure_fault}

same_file_asked : (a b : Asking) → File a ≡ File b → a ≡ b
same_file_asked a b e = cc

module _ (c : Call) where
  asked_file : (a : Asking) → asked_in c.words ≡ Some (File a) → file_in c.words ≡ a.file
  asked_file a e = ap (λ (o : Option Asked). option_map_or file_asked o []) e

  asked_same : (a b : Asking) → asked_in c.words ≡ Some (File a) → asked_in c.words ≡ Some (File b) → a ≡ b
  asked_same a b e f = same_file_asked a b (some_same (File a) (File b) (sym e ∙ f))

  -- of what was asked for
  asked_has : (P : Asking → Type 0) (a : Asking) → asked_in c.words ≡ Some (File a) → IsSomeAnd (asked_in c.words) (OfFile P) → P a
  asked_has P a e h = subst (λ (o : Option Asked). IsSomeAnd o (OfFile P)) e h

  some_asked : (o : Option Asked) (P : Asked → Type 0) → o ≡ None → IsSomeAnd o P → ⊥
  some_asked None P e h = h
  some_asked (Some a) P e h = absurd cc

  read_asked : (m : Command) (b : List ℕ) → asked_in c.words ≡ None → Reads m b (work_of c) → ⊥
  read_asked m b e r = let at = r.asked in absurd cc

  text_asked : (text : List ℕ) → asked_in c.words ≡ None → IsAskedFor text (work_of c) → ⊥
  text_asked text e (inl f) = read_asked f.command f.bytes e f.reads
  text_asked text e (inr m) = let at = m.asked in absurd cc

  -- the file of a command that was read has the name in the words
  pub read_file : (m : Command) (b : List ℕ) (r : Reads m b (work_of c)) → HasFile c.shelf.before (file_in c.words) b
  read_file m b r = subst (λ (n : List ℕ). HasFile c.shelf.before n b) (sym (asked_file (asking r.kept r.file m) r.asked)) r.has

  pub words_due : (end : Result (Unit {0}) Refusal) → WorkEnds end (work_of c) → asked_in c.words ≡ None → IsFreely 2 (status_at end)
  words_due (Ok u) w e = absurd (text_asked _ e w.prints.asked_for)
  words_due (Err BadWords) w e = inl refl
  words_due (Err (Selector f)) w e = absurd (some_asked (asked_in c.words) _ e w.cause)
  words_due (Err Absent) w e = absurd (some_asked (asked_in c.words) _ e w.cause)
  words_due (Err (Config f)) w e = absurd (read_asked _ _ e w.cause.1)
  words_due (Err (Script f)) w e = absurd (read_asked _ _ e w.cause.2)
  words_due (Err (OpenMetrics l)) w e = absurd (read_asked _ _ e w.cause.1)
  words_due (Err ReadFault) w e = absurd (some_asked (asked_in c.words) _ e w.cause)
  words_due (Err WriteFault) w e = absurd (text_asked _ e w.cause.asked_for)
  words_due (Err NoMemory) w e = inr refl
  words_due (Err TooLong) w e = absurd (some_asked (asked_in c.words) _ e w.cause)

  -- a script that is made
  module _ (p : Plan) (asked : asked_in c.words ≡ Some (Synth p)) where
    no_file : (P : Asking → Type 0) → IsSomeAnd (asked_in c.words) (OfFile P) → ⊥
    no_file P h = subst (λ (o : Option Asked). IsSomeAnd o (OfFile P)) asked h

    none_read : (m : Command) (b : List ℕ) → Reads m b (work_of c) → ⊥
    none_read m b r = let at = r.asked in absurd cc

    pub made_due : IsWritten c → (end : Result (Unit {0}) Refusal) → WorkEnds end (work_of c) → IsFreely 0 (status_at end)
    made_due n (Ok u) w = inl refl
    made_due n (Err BadWords) w = let at = w.cause in absurd cc
    made_due n (Err (Selector f)) w = absurd (no_file _ w.cause)
    made_due n (Err Absent) w = absurd (no_file _ w.cause)
    made_due n (Err (Config f)) w = absurd (none_read _ _ w.cause.1)
    made_due n (Err (Script f)) w = absurd (none_read _ _ w.cause.2)
    made_due n (Err (OpenMetrics l)) w = absurd (none_read _ _ w.cause.1)
    made_due n (Err ReadFault) w = absurd (no_file _ w.cause)
    made_due n (Err WriteFault) w = absurd (n w.cause.put.counted)
    made_due n (Err NoMemory) w = inr refl
    made_due n (Err TooLong) w = absurd (no_file _ w.cause)

  module _ (a : Asking) (asked : asked_in c.words ≡ Some (File a)) where
    pub of_file : (text : List ℕ) → IsAskedFor text (work_of c) → IsOfFile text (work_of c)
    of_file text (inl f) = f
    of_file text (inr m) = let at = m.asked in absurd cc

    not_none : asked_in c.words ≡ None → ⊥
    not_none e = absurd cc

    pub asked_command : (m : Command) (b : List ℕ) → Reads m b (work_of c) → a.command ≡ m
    asked_command m b r = ap (λ (z : Asking). z.command) (asked_same a (asking r.kept r.file m) asked r.asked)

    -- the selector
    read_ready : (m : Command) (b : List ℕ) → Reads m b (work_of c) → IsReady a.command
    read_ready m b r = subst IsReady (sym (asked_command m b r)) r.ready

    absent_cause : IsCause Absent (work_of c) → IsReady a.command × LacksFile c.shelf.before a.file
    absent_cause h = asked_has (λ z. IsReady z.command × LacksFile c.shelf.before z.file) a asked h

    long_cause : IsCause TooLong (work_of c) → IsReady a.command × HasLongerFile c.shelf.before a.file (limit_of a.command)
    long_cause h = asked_has (λ z. IsReady z.command × HasLongerFile c.shelf.before z.file (limit_of z.command)) a asked h

    pub selector_cause : (f : SelectorFault) → IsCause (Selector f) (work_of c) → RefusesSelector a.command f
    selector_cause f h = asked_has (λ z. RefusesSelector z.command f) a asked h

    pub selector_due : ¬ IsReady a.command → (end : Result (Unit {0}) Refusal) → WorkEnds end (work_of c) → IsFreely 12 (status_at end)
    selector_due n (Ok u) w = absurd (n (read_ready _ _ (of_file _ w.prints.asked_for).reads))
    selector_due n (Err BadWords) w = absurd (not_none w.cause)
    selector_due n (Err (Selector f)) w = inl refl
    selector_due n (Err Absent) w = absurd (n (absent_cause w.cause).0)
    selector_due n (Err (Config f)) w = absurd (n (read_ready _ _ w.cause.1))
    selector_due n (Err (Script f)) w = absurd (n (read_ready _ _ w.cause.2))
    selector_due n (Err (OpenMetrics l)) w = absurd (n (read_ready _ _ w.cause.1))
    selector_due n (Err ReadFault) w = absurd (n (asked_has (λ z. IsReady z.command) a asked w.cause))
    selector_due n (Err WriteFault) w = absurd (n (read_ready _ _ (of_file _ w.cause.asked_for).reads))
    selector_due n (Err NoMemory) w = inr refl
    selector_due n (Err TooLong) w = absurd (n (long_cause w.cause).0)

    -- the file
    pub lacks : IsCause Absent (work_of c) → LacksFile c.shelf.before (file_in c.words)
    lacks h = subst (LacksFile c.shelf.before) (sym (asked_file a asked)) (absent_cause h).1

    pub longer : IsCause TooLong (work_of c) → HasLongerFile c.shelf.before (file_in c.words) (limit_of a.command)
    longer h = subst (λ (n : List ℕ). HasLongerFile c.shelf.before n (limit_of a.command)) (sym (asked_file a asked)) (long_cause h).1

    -- what is read is within the limit of the command that was asked for
    read_short : (m : Command) (b : List ℕ) → Reads m b (work_of c) → length b ≤ limit_of a.command
    read_short m b r = subst (λ (z : Command). length b ≤ limit_of z) (sym (asked_command m b r)) r.short

    not_long : (m : Command) (b : List ℕ) → KnownLonger c.shelf.before (file_in c.words) (limit_of a.command) → Reads m b (work_of c) → ⊥
    not_long m b t r = longer_has c.shelf.before.files (file_in c.words) b (limit_of a.command) t (read_file m b r) (read_short m b r)

    refused_of : (m : Command) (b : List ℕ) (status : ℕ) → Reads m b (work_of c) → status ≡ refused_at m → status ≡ refused_at a.command
    refused_of m b status r e = e ∙ ap refused_at (sym (asked_command m b r))

    script_refused_at : (m : Command) (b : List ℕ) (f : ScriptFault) → HasScriptFault m b f → 5 ≡ refused_at m
    script_refused_at (Replay cut) b f h = refl
    script_refused_at Check b f h = let e = h.1 in absurd cc
    script_refused_at Convert b f h = let e = h.1 in absurd cc
    script_refused_at (At i) b f h = refl

    module _ (sure : IsSureOf a.command) where
      no_selector : (f : SelectorFault) → IsCause (Selector f) (work_of c) → ⊥
      no_selector f h = sure_fault a.command sure f (selector_cause f h)

      pub missing_due : KnownAbsent c.shelf.before (file_in c.words) → IsRead c → (end : Result (Unit {0}) Refusal) → WorkEnds end (work_of c) → IsFreely 3 (status_at end)
      missing_due t n (Ok u) w = absurd (none_has c.shelf.before.files (file_in c.words) _ t (read_file _ _ (of_file _ w.prints.asked_for).reads))
      missing_due t n (Err BadWords) w = absurd (not_none w.cause)
      missing_due t n (Err (Selector f)) w = absurd (no_selector f w.cause)
      missing_due t n (Err Absent) w = inl refl
      missing_due t n (Err (Config f)) w = absurd (none_has c.shelf.before.files (file_in c.words) _ t (read_file _ _ w.cause.1))
      missing_due t n (Err (Script f)) w = absurd (none_has c.shelf.before.files (file_in c.words) _ t (read_file _ _ w.cause.2))
      missing_due t n (Err (OpenMetrics l)) w = absurd (none_has c.shelf.before.files (file_in c.words) _ t (read_file _ _ w.cause.1))
      missing_due t n (Err ReadFault) w = absurd (n w.shelf.counted)
      missing_due t n (Err WriteFault) w = absurd (none_has c.shelf.before.files (file_in c.words) _ t (read_file _ _ (of_file _ w.cause.asked_for).reads))
      missing_due t n (Err NoMemory) w = inr refl
      missing_due t n (Err TooLong) w = absurd (none_longer c.shelf.before.files (file_in c.words) _ t (longer w.cause))

      pub longer_due : KnownLonger c.shelf.before (file_in c.words) (limit_of a.command) → IsRead c → (end : Result (Unit {0}) Refusal) → WorkEnds end (work_of c) → IsFreely 9 (status_at end)
      longer_due t n (Ok u) w = absurd (not_long _ _ t (of_file _ w.prints.asked_for).reads)
      longer_due t n (Err BadWords) w = absurd (not_none w.cause)
      longer_due t n (Err (Selector f)) w = absurd (no_selector f w.cause)
      longer_due t n (Err Absent) w = absurd (longer_lacks c.shelf.before.files (file_in c.words) _ t (lacks w.cause))
      longer_due t n (Err (Config f)) w = absurd (not_long _ _ t w.cause.1)
      longer_due t n (Err (Script f)) w = absurd (not_long _ _ t w.cause.2)
      longer_due t n (Err (OpenMetrics l)) w = absurd (not_long _ _ t w.cause.1)
      longer_due t n (Err ReadFault) w = absurd (n w.shelf.counted)
      longer_due t n (Err WriteFault) w = absurd (not_long _ _ t (of_file _ w.cause.asked_for).reads)
      longer_due t n (Err NoMemory) w = inr refl
      longer_due t n (Err TooLong) w = inl refl

      pub otherwise_due : IsUncounted c → (end : Result (Unit {0}) Refusal) → WorkEnds end (work_of c) → IsFreely 0 (status_at end) ⊎ (status_at end ≡ refused_at a.command)
      otherwise_due n (Ok u) w = inl (inl refl)
      otherwise_due n (Err BadWords) w = absurd (not_none w.cause)
      otherwise_due n (Err (Selector f)) w = absurd (no_selector f w.cause)
      otherwise_due n (Err Absent) w = absurd (n.found w.shelf.counted)
      otherwise_due n (Err (Config f)) w = inr (refused_of Check _ 4 w.cause.1 refl)
      otherwise_due n (Err (Script f)) w = inr (refused_of w.cause.0 _ 5 w.cause.2 (script_refused_at w.cause.0 _ f w.cause.3))
      otherwise_due n (Err (OpenMetrics l)) w = inr (refused_of Convert _ 13 w.cause.1 refl)
      otherwise_due n (Err ReadFault) w = absurd (n.sound.read w.shelf.counted)
      otherwise_due n (Err WriteFault) w = absurd (n.sound.written w.cause.put.counted)
      otherwise_due n (Err NoMemory) w = inl (inr refl)
      otherwise_due n (Err TooLong) w = absurd (n.short w.shelf.counted)
