-- What is wrong with the file of a command, or with its selector.
use Rattle.std.proofs.Common.{◌≡◌, ℕ, Bool, true, false, List, ◌++◌, append_assoc, sym, ◌∙◌, subst, Some}
use Rattle.std.specs.Prelude.{Result, Err}
use Rattle.std.specs.List.{Any}
use Rattle.journal_text.specs.declared.events.Event.{Event}
use Rattle.journal_text.specs.Events.{events_text}
use Rattle.journal_text.specs.Versions.{first_line}
use Rattle.journal_text.specs.declared.faults.ScriptFault.{ScriptFault}
use Rattle.jobs_in_force.specs.declared.jobs.Filed.{Filed}
use Rattle.config_fields.specs.declared.fault.ConfFault.{ConfFault}
use Rattle.om_reader.specs.Bodies.{converted}
use Rattle.instant_view.specs.Selectors.{IsRefused, Refuses, is_bare}
use Rattle.instant_view.specs.declared.matchers.SelectorParts.{SelectorParts}
use Rattle.instant_view.proofs.CompleteLemmas.{one-reading}
use Rattle.command_words.specs.declared.words.Command.{Command}
use Rattle.command_words.specs.declared.words.Command.TheVariants.{Replay, Check, Convert, At}
use Rattle.scrape_commands.specs.Checks.{IsFault}
use Rattle.scrape_commands.specs.Scripts.{IsScriptOf, IsFaultOf, HasScriptFault, StandsFor, StandsForNone, HasFault, cut_of}
use Rattle.scrape_commands.specs.Instants.{IsSure, IsSureOf, RefusesSelector, error_of}
use Rattle.scrape_commands.specs.Ends.{IsOutput}
use Rattle.scrape_commands.specs.declared.refusals.SelectorFault.{SelectorFault}
use Rattle.scrape_commands.specs.declared.refusals.SelectorFault.TheVariants.{Syntax, Pattern, Bare}

-- a configuration, or a body of OpenMetrics, is the file of a command, and has this fault
abbrev pub ConfAt : Command → List ℕ → ConfFault → Type 0
ConfAt (Replay cut) bytes fault = ⊥
ConfAt Check bytes fault = IsFault bytes fault
ConfAt Convert bytes fault = ⊥
ConfAt (At i) bytes fault = ⊥

abbrev pub LineAt : Command → List ℕ → ℕ → Type 0
LineAt (Replay cut) bytes line = ⊥
LineAt Check bytes line = ⊥
LineAt Convert bytes line = converted bytes ≡ Err line
LineAt (At i) bytes line = ⊥

-- a command that reads a script reads nothing else
pub conf_alone : (m : Command) (bytes : List ℕ) (f : ConfFault) → ConfAt m bytes f → (cut : Bool) → cut_of m ≡ Some cut → ⊥
conf_alone (Replay u) bytes f k cut e = k
conf_alone Check bytes f k cut e = absurd cc
conf_alone Convert bytes f k cut e = k
conf_alone (At i) bytes f k cut e = k

pub line_alone : (m : Command) (bytes : List ℕ) (l : ℕ) → LineAt m bytes l → (cut : Bool) → cut_of m ≡ Some cut → ⊥
line_alone (Replay u) bytes l k cut e = k
line_alone Check bytes l k cut e = k
line_alone Convert bytes l k cut e = absurd cc
line_alone (At i) bytes l k cut e = k

-- a selector that can't be refused isn't
selector_alone : (text : List ℕ) → IsSure text → (f : SelectorFault) → Refuses (error_of f) text → ⊥
selector_alone text s Syntax r = r s.parts s.written
selector_alone text s Pattern r =
    let same : r.0 ≡ s.parts = one-reading text r.0 s.parts r.1 s.written in
    s.patterns (subst (λ (p : SelectorParts). Any IsRefused p.matchers) same r.2)
selector_alone text s Bare r =
    let same : r.0 ≡ s.parts = one-reading text r.0 s.parts r.1 s.written in
    let bare : is_bare s.parts ≡ true = subst (λ (p : SelectorParts). is_bare p ≡ true) same r.2.1 in
    let some = s.some in
    absurd cc

pub sure_fault : (m : Command) → IsSureOf m → (f : SelectorFault) → RefusesSelector m f → ⊥
sure_fault (Replay cut) s f r = r
sure_fault Check s f r = r
sure_fault Convert s f r = r
sure_fault (At i) s f r = selector_alone i.selector s f r

-- faults of configurations and lines
pub one_fault : (said : Result (List Filed) ConfFault) (fault found : ConfFault) → said ≡ Err fault → said ≡ Err found → found ≡ fault
one_fault said fault found e h = cc

pub one_line : (said : Result (List ℕ) ℕ) (line found : ℕ) → said ≡ Err line → said ≡ Err found → found ≡ line
one_line said line found e h = cc

-- scripts: one that stands for a journal has no fault, and one with a fault has no other
same_cut : (a b : Bool) → Some a ≡ Some b → a ≡ b
same_cut a b e = cc

pub script_alone : (m : Command) (cut : Bool) (bytes : List ℕ) (f : ScriptFault) → cut_of m ≡ Some cut → HasScriptFault m bytes f → IsFaultOf cut bytes f
script_alone m cut bytes f e h = subst (λ (z : Bool). IsFaultOf z bytes f) (same_cut h.0 cut (sym h.1 ∙ e)) h.2

pub fault_stands : (cut : Bool) (bytes : List ℕ) (fault : ScriptFault) → IsFaultOf cut bytes fault → StandsFor cut bytes → ⊥
fault_stands false bytes fault f s = f.none s.0 s.1 s.2
fault_stands true bytes fault f s = f.lacks s.0 s.1 s.2

pub script_not : (cut : Bool) (bytes : List ℕ) (journal : List Event) → IsScriptOf cut bytes journal → StandsForNone cut bytes → ⊥
script_not false bytes journal s none = none s.version journal s.spells
script_not true bytes journal s none =
    let stops = s.1.stops in
    none stops.version (events_text journal ++ s.1.rest) (stops.text ∙ append_assoc (first_line stops.version) (events_text journal) s.1.rest)

-- the output of a command that reads a script is that of a journal
pub stands_not : (m : Command) (cut : Bool) (bytes : List ℕ) (kept : Bool) (text : List ℕ) → cut_of m ≡ Some cut → IsOutput m kept bytes text →
    StandsForNone cut bytes → ⊥
stands_not (Replay u) cut bytes kept text e o none = script_not cut bytes o.0 (subst (λ (z : Bool). IsScriptOf z bytes o.0) (same_cut u cut e) o.1) none
stands_not Check cut bytes kept text e o none = absurd cc
stands_not Convert cut bytes kept text e o none = absurd cc
stands_not (At i) cut bytes kept text e o none = script_not cut bytes o.0 (subst (λ (z : Bool). IsScriptOf z bytes o.0) (same_cut false cut e) o.2) none

pub one_script_fault : (cut : Bool) (bytes : List ℕ) (f g : ScriptFault) → IsFaultOf cut bytes f → HasFault cut bytes g → g ≡ f
one_script_fault false bytes f g only is = only.only g is
one_script_fault true bytes f g only is = is.fault_is ∙ sym only.fault_is
