-- Entries of a log.
use Rattle.std.specs.Prelude.{ℕ}
use Rattle.turn_lock.specs.declared.log.Entry.{Entry}

abbrev pub entry : {I : Type 0} → ℕ → I → Entry I
entry by item = record { by = by; item = item }
