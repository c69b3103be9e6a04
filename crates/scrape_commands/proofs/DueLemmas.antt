-- Which status is due of a call that ended.
use Rattle.std.proofs.Common.{◌≡◌, ◌⊎◌, ℕ, Bool, List, [], sym, refl, ◌∙◌, inl, inr, arith, subst}
use Rattle.std.specs.Prelude.{Result, Ok, Err, None}
use Rattle.journal_text.specs.declared.faults.ScriptFault.{ScriptFault}
use Rattle.jobs_in_force.specs.Jobs.{loaded}
use Rattle.jobs_in_force.specs.declared.jobs.Filed.{Filed}
use Rattle.config_fields.specs.declared.fault.ConfFault.{ConfFault}
use Rattle.om_reader.specs.Bodies.{converted}
use Rattle.command_words.specs.Askings.{Asking, asking}
use Rattle.command_words.specs.Words.{asked_in, file_in, limit_of}
use Rattle.command_words.specs.declared.words.Command.{Command}
use Rattle.command_words.specs.declared.words.Command.TheVariants.{Check, Convert}
use Rattle.scrape_commands.specs.Checks.{IsFault, IsConf, fault_message}
use Rattle.scrape_commands.specs.Scripts.{HasScriptFault, StandsFor, StandsForNone, HasFault, fault_message as script_message}
use Rattle.scrape_commands.specs.Instants.{RefusesSelector}
use Rattle.scrape_commands.specs.Ends.{Call, work_of, Reads, IsOutput, IsAskedFor, IsCause, WorkEnds, Speaks, IsSaid, Ended, line_message, status_at}
use Rattle.scrape_commands.specs.Laws.{Complete, AsksFile, AskedScript, IsRead, IsSound, IsFreely, refused_at}
use Rattle.scrape_commands.specs.declared.refusals.Refusal.{Refusal}
use Rattle.scrape_commands.specs.declared.refusals.Refusal.TheVariants.{BadWords, Selector, Absent, Config, Script, OpenMetrics, ReadFault, WriteFault, NoMemory, TooLong}
use Rattle.scrape_commands.specs.declared.refusals.SelectorFault.{SelectorFault}
use Rattle.scrape_commands.proofs.AskedLemmas.{words_due, made_due, selector_due, missing_due, longer_due, otherwise_due, asked_command, read_file, lacks, longer, selector_cause, of_file}
use Rattle.scrape_commands.proofs.FileLemmas.{not_lacking, not_longer, same_file}
use Rattle.scrape_commands.proofs.FaultLemmas.{ConfAt, LineAt, sure_fault, conf_alone, line_alone, script_alone, one_fault, one_line, one_script_fault, stands_not, fault_stands}

module _ (c : Call) where
  -- a file that is known
  module _ (m : Command) (bytes : List ℕ) (t : AsksFile m bytes c) where
    abbrev known_asking : Asking
    known_asking = asking t.kept (file_in c.words) m

    known_command : (n : Command) (b : List ℕ) → Reads n b (work_of c) → m ≡ n
    known_command n b r = asked_command c known_asking t.asked n b r

    known_bytes : (n : Command) (b : List ℕ) → Reads n b (work_of c) → b ≡ bytes
    known_bytes n b r = same_file c.shelf.before.files (file_in c.words) bytes b t.known.file (read_file c n b r)

    -- what is said of the file that was read is said of the one that is known
    known_as : (P : Command → List ℕ → Type 0) (n : Command) (b : List ℕ) → Reads n b (work_of c) → P n b → P m bytes
    known_as P n b r p = subst (λ (z : Command). P z bytes) (sym (known_command n b r)) (subst (P n) (known_bytes n b r) p)

    known_found : IsCause Absent (work_of c) → ⊥
    known_found h = not_lacking c.shelf.before.files (file_in c.words) bytes t.known.file (lacks c known_asking t.asked h)

    known_short : IsCause TooLong (work_of c) → ⊥
    known_short h = not_longer c.shelf.before.files (file_in c.words) bytes (limit_of m) t.known.file (longer c known_asking t.asked h) t.known.short

    known_asked : asked_in c.words ≡ None → ⊥
    known_asked e = let at = t.asked in absurd cc

    known_conf : (f : ConfFault) → IsCause (Config f) (work_of c) → ConfAt m bytes f
    known_conf f k = known_as (λ z x. ConfAt z x f) Check k.0 k.1 k.2

    known_script : (f : ScriptFault) → IsCause (Script f) (work_of c) → HasScriptFault m bytes f
    known_script f k = known_as (λ z x. HasScriptFault z x f) k.0 k.1 k.2 k.3

    known_line : (l : ℕ) → IsCause (OpenMetrics l) (work_of c) → LineAt m bytes l
    known_line l k = known_as (λ z x. LineAt z x l) Convert k.0 k.1 k.2

    known_selector : (f : SelectorFault) → IsCause (Selector f) (work_of c) → RefusesSelector m f
    known_selector f k = selector_cause c known_asking t.asked f k

    known_output : (text : List ℕ) → IsAskedFor text (work_of c) → (kept : Bool) × IsOutput m kept bytes text
    known_output text a =
        let f = of_file c known_asking t.asked text a in
        (f.reads.kept, known_as (λ z x. IsOutput z f.reads.kept x text) f.command f.bytes f.reads f.output)

    -- nothing is wrong with the file
    record IsFine : Type 0 where
      pub conf : (f : ConfFault) → ConfAt m bytes f → ⊥
      pub script : (f : ScriptFault) → HasScriptFault m bytes f → ⊥
      pub line : (l : ℕ) → LineAt m bytes l → ⊥
      pub selector : (f : SelectorFault) → RefusesSelector m f → ⊥

    fine_due : IsFine → IsSound c → (end : Result (Unit {0}) Refusal) → WorkEnds end (work_of c) → IsFreely 0 (status_at end)
    fine_due x n (Ok u) w = inl refl
    fine_due x n (Err BadWords) w = absurd (known_asked w.cause)
    fine_due x n (Err (Selector f)) w = absurd (x.selector f (known_selector f w.cause))
    fine_due x n (Err Absent) w = absurd (known_found w.cause)
    fine_due x n (Err (Config f)) w = absurd (x.conf f (known_conf f w.cause))
    fine_due x n (Err (Script f)) w = absurd (x.script f (known_script f w.cause))
    fine_due x n (Err (OpenMetrics l)) w = absurd (x.line l (known_line l w.cause))
    fine_due x n (Err ReadFault) w = absurd (n.read w.shelf.counted)
    fine_due x n (Err WriteFault) w = absurd (n.written w.cause.put.counted)
    fine_due x n (Err NoMemory) w = inr refl
    fine_due x n (Err TooLong) w = absurd (known_short w.cause)

    -- something is wrong with it, for which this status is due
    record IsWrong (due : ℕ) : Type 0 where
      pub conf : (f : ConfFault) → ConfAt m bytes f → 4 ≡ due
      pub script : (f : ScriptFault) → HasScriptFault m bytes f → 5 ≡ due
      pub line : (l : ℕ) → LineAt m bytes l → 13 ≡ due
      pub selector : (f : SelectorFault) → RefusesSelector m f → ⊥
      pub output : (text : List ℕ) → ((kept : Bool) × IsOutput m kept bytes text) → ⊥

    wrong_due : (due : ℕ) → IsWrong due → IsRead c → (end : Result (Unit {0}) Refusal) → WorkEnds end (work_of c) → IsFreely due (status_at end)
    wrong_due due x n (Ok u) w = absurd (x.output _ (known_output _ w.prints.asked_for))
    wrong_due due x n (Err BadWords) w = absurd (known_asked w.cause)
    wrong_due due x n (Err (Selector f)) w = absurd (x.selector f (known_selector f w.cause))
    wrong_due due x n (Err Absent) w = absurd (known_found w.cause)
    wrong_due due x n (Err (Config f)) w = inl (x.conf f (known_conf f w.cause))
    wrong_due due x n (Err (Script f)) w = inl (x.script f (known_script f w.cause))
    wrong_due due x n (Err (OpenMetrics l)) w = inl (x.line l (known_line l w.cause))
    wrong_due due x n (Err ReadFault) w = absurd (n w.shelf.counted)
    wrong_due due x n (Err WriteFault) w = absurd (x.output _ (known_output _ w.cause.asked_for))
    wrong_due due x n (Err NoMemory) w = inr refl
    wrong_due due x n (Err TooLong) w = absurd (known_short w.cause)

  -- a script that is known
  module _ (s : AskedScript c) where
    script_fine : StandsFor s.cut s.bytes → IsFine s.command s.bytes s.asks
    script_fine h = record {
      conf = λ f k. conf_alone s.command s.bytes f k s.cut s.script;
      script = λ f k. fault_stands s.cut s.bytes f (script_alone s.command s.cut s.bytes f s.script k) h;
      line = λ l k. line_alone s.command s.bytes l k s.cut s.script;
      selector = sure_fault s.command s.sure;
    }

    script_wrong : StandsForNone s.cut s.bytes → IsWrong s.command s.bytes s.asks 5
    script_wrong h = record {
      conf = λ f k. absurd (conf_alone s.command s.bytes f k s.cut s.script);
      script = λ f k. refl;
      line = λ l k. absurd (line_alone s.command s.bytes l k s.cut s.script);
      selector = sure_fault s.command s.sure;
      output = λ text o. stands_not s.command s.cut s.bytes o.0 text s.script o.1 h;
    }

    found_due : (fault : ScriptFault) → HasFault s.cut s.bytes fault → (end : Result (Unit {0}) Refusal) → WorkEnds end (work_of c) →
        Speaks end (file_in c.words) c.err → status_at end ≡ 5 → IsSaid (script_message fault) c.err
    found_due fault e (Ok u) w said five = absurd (omega (arith, five))
    found_due fault e (Err (Script f)) w said five =
        let same : fault ≡ f = one_script_fault s.cut s.bytes f fault
        (script_alone s.command s.cut s.bytes f s.script (known_script s.command s.bytes s.asks f w.cause)) e in
        subst (λ (z : ScriptFault). IsSaid (script_message z) c.err) (sym same) said
    found_due fault e (Err _) w said five = absurd (omega (arith, five))

  module _ (bytes : List ℕ) (t : AsksFile Check bytes c) where
    conf_fine : (jobs : List Filed) → IsConf bytes jobs → IsFine Check bytes t
    conf_fine jobs k = record {
      conf = λ f e. absurd cc;
      script = λ f e. let at = e.1 in absurd cc;
      line = λ l e. e;
      selector = λ f e. e;
    }

    conf_wrong : (fault : ConfFault) → IsFault bytes fault → IsWrong Check bytes t 4
    conf_wrong fault k = record {
      conf = λ f e. refl;
      script = λ f e. let at = e.1 in absurd cc;
      line = λ l e. absurd e;
      selector = λ f e. e;
      output = λ text o. let at = o.1.1 in absurd cc;
    }

    said_due : (fault : ConfFault) → IsFault bytes fault → (end : Result (Unit {0}) Refusal) → WorkEnds end (work_of c) →
        Speaks end (file_in c.words) c.err → status_at end ≡ 4 → IsSaid (fault_message fault) c.err
    said_due fault e (Ok u) w s four = absurd (omega (arith, four))
    said_due fault e (Err (Config f)) w s four =
        let same : f ≡ fault = one_fault (loaded [] bytes) fault f e (known_conf Check bytes t f w.cause) in
        subst (λ (z : ConfFault). IsSaid (fault_message z) c.err) same s
    said_due fault e (Err _) w s four = absurd (omega (arith, four))

  module _ (bytes : List ℕ) (t : AsksFile Convert bytes c) where
    plain_fine : (text : List ℕ) → converted bytes ≡ Ok text → IsFine Convert bytes t
    plain_fine text k = record {
      conf = λ f e. e;
      script = λ f e. let at = e.1 in absurd cc;
      line = λ l e. absurd cc;
      selector = λ f e. e;
    }

    line_wrong : (line : ℕ) → converted bytes ≡ Err line → IsWrong Convert bytes t 13
    line_wrong line k = record {
      conf = λ f e. absurd e;
      script = λ f e. let at = e.1 in absurd cc;
      line = λ l e. refl;
      selector = λ f e. e;
      output = λ text o. let at = o.1 in absurd cc;
    }

    line_due : (line : ℕ) → converted bytes ≡ Err line → (end : Result (Unit {0}) Refusal) → WorkEnds end (work_of c) →
        Speaks end (file_in c.words) c.err → status_at end ≡ 13 → IsSaid (line_message line) c.err
    line_due line e (Ok u) w s is = absurd (omega (arith, is))
    line_due line e (Err (OpenMetrics l)) w s is =
        let same : l ≡ line = one_line (converted bytes) line l e (known_line Convert bytes t l w.cause) in
        subst (λ (z : ℕ). IsSaid (line_message z) c.err) same s
    line_due line e (Err _) w s is = absurd (omega (arith, is))

pub complete_by : (status : ℕ) (c : Call) → Ended status c → Complete status c
complete_by status c e = record {
  words = λ none. freely 2 (words_due c e.end e.work_ends none);
  selector = λ a asked n. freely 12 (selector_due c a asked n e.end e.work_ends);
  missing = λ a asked sure known read. freely 3 (missing_due c a asked sure known read e.end e.work_ends);
  longer = λ a asked sure known read. freely 9 (longer_due c a asked sure known read e.end e.work_ends);
  replayed = λ s h sound. freely 0 (fine_due c s.command s.bytes s.asks (script_fine c s h) sound e.end e.work_ends);
  unspelled = λ s h read. freely 5 (wrong_due c s.command s.bytes s.asks 5 (script_wrong c s h) read e.end e.work_ends);
  misspelled = λ s fault is five. found_due c s fault is e.end e.work_ends e.speaks (sym e.status_is ∙ five);
  checked = λ bytes jobs t k sound. freely 0 (fine_due c Check bytes t (conf_fine c bytes t jobs k) sound e.end e.work_ends);
  refused = λ bytes fault t is read. freely 4 (wrong_due c Check bytes t 4 (conf_wrong c bytes t fault is) read e.end e.work_ends);
  said = λ bytes fault t is four. said_due c bytes t fault is e.end e.work_ends e.speaks (sym e.status_is ∙ four);
  plain = λ bytes text t k sound. freely 0 (fine_due c Convert bytes t (plain_fine c bytes t text k) sound e.end e.work_ends);
  faulty = λ bytes line t is read. freely 13 (wrong_due c Convert bytes t 13 (line_wrong c bytes t line is) read e.end e.work_ends);
  line = λ bytes line t is at. line_due c bytes t line is e.end e.work_ends e.speaks (sym e.status_is ∙ at);
  made = λ p asked written. freely 0 (made_due c p asked written e.end e.work_ends);
  otherwise = λ a asked sure n. at_last a (otherwise_due c a asked sure n e.end e.work_ends);
}
  where
    freely : (due : ℕ) → IsFreely due (status_at e.end) → IsFreely due status
    freely due h = subst (IsFreely due) (sym e.status_is) h

    at_last : (a : Asking) → IsFreely 0 (status_at e.end) ⊎ (status_at e.end ≡ refused_at a.command) → IsFreely 0 status ⊎ (status ≡ refused_at a.command)
    at_last a h = subst (λ n. IsFreely 0 n ⊎ (n ≡ refused_at a.command)) (sym e.status_is) h
