-- What a run leaves of the outside objects that its caller has, and why its control loop ended.
use Rattle.std.specs.Prelude.{◌≡◌, ◌≤◌, ◌<◌, ◌⊎◌, ℕ, ◌+◌, Bool, List, [], Option, Some, None, IfSome, Result, Ok, Err, if◌then◌else◌}
use Rattle.outside.specs.Objects.{ShelfSeen, SinkSeen, Use, Adds, Rose}
use Rattle.outside.specs.Sources.{SourceSeen}
use Rattle.station.specs.declared.ends.Stop.{Stop}
use Rattle.station.specs.declared.ends.Stop.TheVariants as stop
use Rattle.station.specs.declared.ends.RunEnd.{RunEnd}
use Rattle.station.specs.declared.ends.RunEnd.TheVariants.{Done, ReadFault, WriteFault, TooLong, NoMemory}

-- the counts of a shelf didn't fall, and its files are as before
pub record ShelfWent (u : Use ShelfSeen) : Type 0 where
  pub files : u.after.files ≡ u.before.files
  pub misses : u.before.misses ≤ u.after.misses
  pub overs : u.before.overs ≤ u.after.overs
  pub faults : u.before.faults ≤ u.after.faults

-- a sink was put some text, and its count didn't fall
pub record SinkWent (u : Use SinkSeen) : Type 0 where
  pub added : (text : List ℕ) × Adds text u
  pub faults : u.before.faults ≤ u.after.faults

-- an input gave some bytes, and its count didn't fall
pub record SourceWent (u : Use SourceSeen) : Type 0 where
  pub given : u.before.given ≤ u.after.given
  pub faults : u.before.faults ≤ u.after.faults

-- the input gave no more than 1 MiB
abbrev pub IsShort : Use SourceSeen → Type 0
IsShort u = u.after.given ≤ u.before.given + 1048576

-- a count is as it was
abbrev pub IsSame : ℕ → ℕ → Type 0
IsSame before now = now ≡ before

-- either the shelf failed to read, or the input did: the other counted no fault
abbrev pub OneFailed : Use ShelfSeen → Use SourceSeen → Type 0
OneFailed shelf control =
    (Rose shelf.before.faults shelf.after.faults × IsSame control.before.faults control.after.faults)
    ⊎ (IsSame shelf.before.faults shelf.after.faults × Rose control.before.faults control.after.faults)

-- where it is known what the input had, nothing of it is left
abbrev pub IsEmptied : Use SourceSeen → Type 0
IsEmptied u = IfSome u.before.left (λ had. u.after.left ≡ Some [])

-- the input gave all that it had, at most 1 MiB, and nothing failed
pub record WasRead (shelf : Use ShelfSeen) (err : Use SinkSeen) (control : Use SourceSeen) : Type 0 where
  pub short : IsShort control
  pub emptied : IsEmptied control
  pub shelf_same : IsSame shelf.before.faults shelf.after.faults
  pub err_same : IsSame err.before.faults err.after.faults
  pub control_same : IsSame control.before.faults control.after.faults

-- why a control loop ended: the first fault ends it, and so does a byte past 1 MiB; then the shelf may have failed before, at the last lines
abbrev pub EndsSo : RunEnd → Use ShelfSeen → Use SinkSeen → Use SourceSeen → Type 0
EndsSo Done shelf err control = WasRead shelf err control
EndsSo ReadFault shelf err control = IsShort control × IsSame err.before.faults err.after.faults × OneFailed shelf control
EndsSo WriteFault shelf err control =
    Rose err.before.faults err.after.faults × IsSame shelf.before.faults shelf.after.faults × IsSame control.before.faults control.after.faults
EndsSo TooLong shelf err control =
    (control.before.given + 1048576 < control.after.given) × IsSame err.before.faults err.after.faults × IsSame control.before.faults control.after.faults
EndsSo NoMemory shelf err control = Unit {0}

-- what a line says of the shelf, and of the sink: where it went well neither counted a fault, and where one failed the other didn't
abbrev pub LineStop : Stop → Use ShelfSeen → Use SinkSeen → Type 0
LineStop stop.ReadFault shelf err = Rose shelf.before.faults shelf.after.faults × IsSame err.before.faults err.after.faults
LineStop stop.WriteFault shelf err = IsSame shelf.before.faults shelf.after.faults × Rose err.before.faults err.after.faults
LineStop stop.NoMemory shelf err = Unit {0}

abbrev pub LineStops : {A : Type 0} → Result A Stop → Use ShelfSeen → Use SinkSeen → Type 0
LineStops (Ok x) shelf err = IsSame shelf.before.faults shelf.after.faults × IsSame err.before.faults err.after.faults
LineStops (Err s) shelf err = LineStop s shelf err

-- the same of what reads a file alone, and of what writes alone
abbrev pub FileStop : Stop → Use ShelfSeen → Type 0
FileStop stop.ReadFault shelf = Rose shelf.before.faults shelf.after.faults
FileStop stop.WriteFault shelf = ⊥
FileStop stop.NoMemory shelf = Unit {0}

abbrev pub FileStops : {A : Type 0} → Result A Stop → Use ShelfSeen → Type 0
FileStops (Ok x) shelf = IsSame shelf.before.faults shelf.after.faults
FileStops (Err s) shelf = FileStop s shelf

abbrev pub SaidStop : Stop → Use SinkSeen → Type 0
SaidStop stop.ReadFault err = ⊥
SaidStop stop.WriteFault err = Rose err.before.faults err.after.faults
SaidStop stop.NoMemory err = Unit {0}

abbrev pub SaidStops : {A : Type 0} → Result A Stop → Use SinkSeen → Type 0
SaidStops (Ok x) err = IsSame err.before.faults err.after.faults
SaidStops (Err s) err = SaidStop s err

-- how a loop ends with a stop, and after a piece
abbrev pub end_of : Stop → RunEnd
end_of stop.ReadFault = ReadFault
end_of stop.WriteFault = WriteFault
end_of stop.NoMemory = NoMemory

abbrev pub end_after : Result (Unit {0}) Stop → Bool → Option RunEnd
end_after (Ok x) long = if long then Some TooLong else None
end_after (Err stop.ReadFault) long = Some (if long then TooLong else ReadFault)
end_after (Err stop.WriteFault) long = Some WriteFault
end_after (Err stop.NoMemory) long = Some NoMemory

-- how it ends with the last line
abbrev pub last_end : Result (Unit {0}) Stop → RunEnd
last_end (Ok x) = Done
last_end (Err s) = end_of s

abbrev pub LastEnds : RunEnd → Use ShelfSeen → Use SinkSeen → Type 0
LastEnds Done shelf err = IsSame shelf.before.faults shelf.after.faults × IsSame err.before.faults err.after.faults
LastEnds ReadFault shelf err = LineStop stop.ReadFault shelf err
LastEnds WriteFault shelf err = LineStop stop.WriteFault shelf err
LastEnds TooLong shelf err = ⊥
LastEnds NoMemory shelf err = Unit {0}

-- the end of a run, by that of the caller's loop: out of memory anywhere is out of memory
abbrev pub run_end : Bool → RunEnd → RunEnd
run_end whole end = if whole then end else NoMemory
