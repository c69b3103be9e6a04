-- What a journal that was cut gives: a front of what the whole one gives.
use Rattle.std.specs.Prelude.{ℕ, ◌≡◌, Bool, List, ◌++◌}
use Rattle.journal_text.specs.declared.events.Event.{Event}
use Rattle.journal_text.specs.Faults.{Spells}
use Rattle.journal_text.specs.declared.versions.Version.{Version}
use Rattle.journal_text.specs.Fronts.{Begins, IsFrontOf}
use Rattle.scrape_machine.specs.Machine.{book_of}
use Rattle.book_text.specs.Texts.{printed}

-- these bytes are the beginning of the journal's text, and this is the journal that is read of them
pub record IsCutOf (journal front : List Event) : Type 0 where
  pub bytes : List ℕ
  pub gone : List ℕ
  pub left : ℕ
  pub version : Version
  pub whole : Spells version journal (bytes ++ gone)
  pub is_front : IsFrontOf bytes front left

-- the front is a beginning of the journal, and what is printed of it is the beginning of what is printed of the journal, with verdicts or without
pub record CutLaw (journal front : List Event) (kept : Bool) : Type 0 where
  pub begins : Begins front journal
  pub more : List ℕ
  pub printed_is : printed kept (book_of journal) ≡ printed kept (book_of front) ++ more
