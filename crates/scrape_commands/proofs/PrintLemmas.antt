-- What a command printed, or a front of it: the book of a replayed script, the line of a checked configuration, a converted body, what a selector sees,
-- the summary of a script that was made; and why a file gave nothing.
use Rattle.std.proofs.Common.{◌≡◌, ℕ, ◌≤◌, Bool, false, List, length, inl, inr, refl, ap, subst, sym}
use Rattle.std.specs.Prelude.{Some, Ok, Err, pos}
use Rattle.outside.specs.Objects.{ShelfSeen, SinkSeen, Use, used, IsUntouched, HasFile, Took, Cut}
use Rattle.journal_text.specs.declared.events.Event.{Event}
use Rattle.journal_text.specs.declared.faults.ScriptFault.{ScriptFault}
use Rattle.config_fields.specs.declared.fault.ConfFault.{ConfFault}
use Rattle.report_samples.specs.declared.entries.Entry.{Entry}
use Rattle.scrape_machine.specs.Machine.{book_of}
use Rattle.book_text.specs.Texts.{printed}
use Rattle.jobs_in_force.specs.declared.jobs.Filed.{Filed}
use Rattle.om_reader.specs.Bodies.{converted}
use Rattle.synth.specs.declared.scripts.Plan.{Plan}
use Rattle.instant_view.specs.Selectors.{Refuses}
use Rattle.instant_view.specs.declared.matchers.SelectorError.{SelectorError}
use Rattle.instant_view.specs.declared.matchers.SelectorError.TheVariants as error
use Rattle.instant_view.specs.declared.matchers.SelectorParts.{SelectorParts}
use Rattle.scrape_commands.specs.Checks.{IsConf, IsFault, ok_line}
use Rattle.command_words.specs.Askings.{Asking, asking}
use Rattle.command_words.specs.Instants.{Instant}
use Rattle.command_words.specs.Words.{limit_of}
use Rattle.scrape_commands.specs.Scripts.{IsScriptOf, IsFaultOf, cut_of}
use Rattle.scrape_commands.specs.Instants.{IsReady, IsSelectorOf, IsViewText, RefusesSelector, refusal_of}
use Rattle.scrape_commands.specs.Synths.{synth_text}
use Rattle.scrape_commands.specs.Ends.{work, Reads, IsOutput, IsTextOf, IsAskedFor, IsDone, IsRefused}
use Rattle.command_words.specs.declared.words.Asked.TheVariants.{File, Synth}
use Rattle.command_words.specs.declared.words.Command.{Command}
use Rattle.command_words.specs.declared.words.Command.TheVariants.{Replay, Check, Convert, At}
use Rattle.scrape_commands.specs.declared.refusals.SelectorFault.TheVariants.{Syntax, Pattern, Bare}
use Rattle.scrape_commands.specs.declared.refusals.Refusal.TheVariants.{Config, Script, OpenMetrics, WriteFault}

module _ (a : Asking) (text : List ℕ) (shelf : Use ShelfSeen) (out : Use SinkSeen) (is : IsTextOf text a shelf.before) where
  file_asked_for : IsAskedFor text (work (Some (File a)) shelf out)
  file_asked_for = inl (record {
    command = a.command;
    bytes = is.bytes;
    reads = record { file = a.file; kept = a.kept; asked = refl; has = is.has; short = is.short; ready = is.ready };
    output = is.output;
  })

  pub done_by : IsUntouched shelf → Took text out → IsDone (work (Some (File a)) shelf out)
  done_by still took = record { prints = record { text = text; asked_for = file_asked_for; put = took }; shelf = still }

  pub cut_by : IsUntouched shelf → Cut text out → IsRefused WriteFault (work (Some (File a)) shelf out)
  cut_by still cut = record { cause = record { text = text; asked_for = file_asked_for; put = cut }; shelf = still; out = tt }

-- the file of a command that was read
module _ (a : Asking) (bytes slice : List ℕ) (shelf : ShelfSeen) (has : HasFile shelf a.file bytes) (short : length bytes ≤ limit_of a.command)
    (same : slice ≡ bytes) where
  module _ (command : Command) (is : a.command ≡ command) (ready : IsReady command) where
    whole_ready : IsReady a.command
    whole_ready = subst IsReady (sym is) ready

    text_by : (text : List ℕ) → IsOutput command a.kept bytes text → IsTextOf text a shelf
    text_by text output =
        record { bytes = bytes; has = has; short = short; ready = whole_ready; output = subst (λ (z : Command). IsOutput z a.kept bytes text) (sym is) output }

    reads_by : (after : ShelfSeen) (out : Use SinkSeen) → Reads command bytes (work (Some (File a)) (used shelf after) out)
    reads_by after out = record {
      file = a.file;
      kept = a.kept;
      asked = ap (λ (z : Command). Some (File (asking a.kept a.file z))) is;
      has = has;
      short = subst (λ (z : Command). length bytes ≤ limit_of z) is short;
      ready = ready;
    }

  pub replay_text : (cut : Bool) (journal : List Event) (entries : List Entry) → a.command ≡ Replay cut → IsScriptOf cut slice journal →
      entries ≡ book_of journal → IsTextOf (printed a.kept entries) a shelf
  replay_text cut journal entries is script book =
      text_by (Replay cut) is tt (printed a.kept entries)
      (journal, subst (λ (b : List ℕ). IsScriptOf cut b journal) same script, ap (printed a.kept) book)

  pub check_text : (jobs : List Filed) → a.command ≡ Check → IsConf slice jobs → IsTextOf (ok_line (length jobs)) a shelf
  check_text jobs is conf = text_by Check is tt (ok_line (length jobs)) (jobs, subst (λ (b : List ℕ). IsConf b jobs) same conf, refl)

  pub plain_text : (text : List ℕ) → a.command ≡ Convert → converted slice ≡ Ok text → IsTextOf text a shelf
  plain_text text is plain = text_by Convert is tt text (subst (λ (b : List ℕ). converted b ≡ Ok text) same plain)

  pub view_text : (i : Instant) (parts : SelectorParts) (text : List ℕ) → a.command ≡ At i → IsSelectorOf i.selector parts →
      ((journal : List Event) × IsScriptOf false slice journal × IsViewText (book_of journal) parts (pos i.moment) text) → IsTextOf text a shelf
  view_text i parts text is selector seen =
      text_by (At i) is (parts, selector) text
      (seen.0, parts, subst (λ (b : List ℕ). IsScriptOf false b seen.0) same seen.1, selector, seen.2)

  module _ (after : ShelfSeen) (out : Use SinkSeen) (still : IsUntouched (used shelf after)) (unwritten : IsUntouched out) where
    pub script_refused : (command : Command) (cut : Bool) (fault : ScriptFault) → a.command ≡ command → IsReady command → cut_of command ≡ Some cut →
        IsFaultOf cut slice fault → IsRefused (Script fault) (work (Some (File a)) (used shelf after) out)
    script_refused command cut fault is ready may f = record {
      cause = (command, bytes, reads_by command is ready after out, (cut, may, subst (λ (b : List ℕ). IsFaultOf cut b fault) same f));
      shelf = still;
      out = unwritten;
    }

    pub conf_refused : (fault : ConfFault) → a.command ≡ Check → IsFault slice fault → IsRefused (Config fault) (work (Some (File a)) (used shelf after) out)
    conf_refused fault is f = record {
      cause = (bytes, reads_by Check is tt after out, subst (λ (b : List ℕ). IsFault b fault) same f);
      shelf = still;
      out = unwritten;
    }

    pub line_refused : (line : ℕ) → a.command ≡ Convert → converted slice ≡ Err line → IsRefused (OpenMetrics line) (work (Some (File a)) (used shelf after) out)
    line_refused line is f = record {
      cause = (bytes, reads_by Convert is tt after out, subst (λ (b : List ℕ). converted b ≡ Err line) same f);
      shelf = still;
      out = unwritten;
    }

-- a text that is no selector
module _ (a : Asking) (i : Instant) (is : a.command ≡ At i) (shelf : ShelfSeen) (out : SinkSeen) where
  pub selector_refused : (e : SelectorError) → Refuses e i.selector → IsRefused (refusal_of e) (work (Some (File a)) (used shelf shelf) (used out out))
  selector_refused error.Syntax r = record { cause = subst (λ (z : Command). RefusesSelector z Syntax) (sym is) r; shelf = refl; out = refl }
  selector_refused error.Pattern r = record { cause = subst (λ (z : Command). RefusesSelector z Pattern) (sym is) r; shelf = refl; out = refl }
  selector_refused error.Bare r = record { cause = subst (λ (z : Command). RefusesSelector z Bare) (sym is) r; shelf = refl; out = refl }
  selector_refused error.NoMemory r = record { cause = tt; shelf = refl; out = refl }

module _ (p : Plan) (text : List ℕ) (shelf : ShelfSeen) (out : Use SinkSeen)
    (summary : text ≡ synth_text p) where
  made_asked_for : IsAskedFor text (work (Some (Synth p)) (used shelf shelf) out)
  made_asked_for = inr (record { plan = p; asked = refl; summary = summary })

  pub made_by : Took text out → IsDone (work (Some (Synth p)) (used shelf shelf) out)
  made_by took = record { prints = record { text = text; asked_for = made_asked_for; put = took }; shelf = refl }

  pub made_cut_by : Cut text out → IsRefused WriteFault (work (Some (Synth p)) (used shelf shelf) out)
  made_cut_by cut = record { cause = record { text = text; asked_for = made_asked_for; put = cut }; shelf = refl; out = tt }
