-- Laws of the texts of journals.
use Rattle.std.specs.Prelude.{◌≡◌, ℕ, List, [], ◌++◌}
use Rattle.journal_text.specs.Events.{HasNames, IsInLimits, IsJournal, journal_text, spelling}
use Rattle.journal_text.specs.Fronts.{Begins}
use Rattle.journal_text.specs.declared.events.Event.{Event}
use Rattle.journal_text.specs.declared.versions.Version.{Version}

-- no text is that of two journals, nor of two versions
abbrev pub SpellsOne : Type 0
SpellsOne = (v w : Version) (es fs : List Event) → IsJournal es → IsJournal fs → journal_text v es ≡ journal_text w fs → (v ≡ w) × (es ≡ fs)

-- a journal whose text begins that of another begins that journal
abbrev pub BeginAlike : Type 0
BeginAlike =
    (v w : Version) (es fs : List Event) (rest : List ℕ) → IsJournal es → IsJournal fs →
    journal_text v es ++ rest ≡ journal_text w fs → Begins es fs

-- an event's spelling begins with that of no other event, and is no longer than its own
abbrev pub StandApart : Type 0
StandApart =
    (e f : Event) (rest : List ℕ) → IsInLimits e → HasNames e → IsInLimits f → HasNames f →
    spelling e ++ rest ≡ spelling f → (e ≡ f) × (rest ≡ [])
