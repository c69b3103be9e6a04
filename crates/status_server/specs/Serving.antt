-- What serving a connection comes to, by what its source gave and what its sink took.
use Rattle.std.specs.Prelude.{◌≡◌, ◌<◌, ◌≤◌, ◌⊎◌, ℕ, ◌+◌, List, [], ◌++◌, length, take, Some, IfSome}
use Rattle.journal_text.specs.declared.events.Event.{Event}
use Rattle.outside.specs.Objects.{ShelfSeen, SinkSeen, Use, Took, Cut, Rose}
use Rattle.outside.specs.Sources.{SourceSeen, Gives}
use Rattle.status_server.specs.Connections.{AreFirst, IsBegun, IsClosed, IsOpen, IsServed, Outcome, outcome}
use Rattle.status_server.specs.Reloads.{Basis, basis}
use Rattle.status_server.specs.Steps.{site}
use Rattle.status_server.specs.declared.connections.Stop.{Stop}
use Rattle.status_server.specs.declared.connections.Stop.TheVariants as stop
use Rattle.status_server.specs.declared.serving.ServeEnd.{ServeEnd}
use Rattle.status_server.specs.declared.serving.ServeEnd.TheVariants.{Done, ReadFault, WriteFault, TooLong, NoMemory}

-- how serving ends with a stop
abbrev pub end_of : Stop → ServeEnd
end_of stop.ReadFault = ReadFault
end_of stop.WriteFault = WriteFault
end_of stop.NoMemory = NoMemory

-- a connection that goes on may give 1 MiB
abbrev pub most_bytes : ℕ
most_bytes = 1048576

-- the objects of a connection before and after
pub record Touched : Type 0 where
  pub shelf : Use ShelfSeen
  pub source : Use SourceSeen
  pub sink : Use SinkSeen

abbrev pub touched : Use ShelfSeen → Use SourceSeen → Use SinkSeen → Touched
touched shelf source sink = record { shelf = shelf; source = source; sink = sink }

-- the bytes that a source gave
pub record HasGiven (bytes : List ℕ) (u : Use SourceSeen) : Type 0 where
  pub left : Gives bytes u.before.left u.after.left
  pub given : u.after.given ≡ u.before.given + length bytes

-- no reading failed
pub record IsSound (shelf : Use ShelfSeen) (source : Use SourceSeen) : Type 0 where
  pub shelf_same : shelf.after.faults ≡ shelf.before.faults
  pub source_same : source.after.faults ≡ source.before.faults

-- where it is known what the source had, nothing of it is left
abbrev pub IsEmptied : Use SourceSeen → Type 0
IsEmptied u = IfSome u.before.left (λ had. u.after.left ≡ Some [])

-- the connection is over: it ended within its first 1 MiB, or its source is at its end
abbrev pub IsOver : Basis → List ℕ → Outcome → Use SourceSeen → Type 0
IsOver b bytes o source =
    IsClosed b (take most_bytes bytes) o ⊎ (IsOpen b bytes o × (length bytes ≤ most_bytes) × IsEmptied source)

-- reading failed: that of the source, behind whole replies to all that it gave; or that of the file, at a request for a reload
abbrev pub FailedRead : Basis → List ℕ → Outcome → Use ShelfSeen → Use SourceSeen → Type 0
FailedRead b bytes o shelf source =
    (IsOpen b bytes o × (length bytes ≤ most_bytes) × Rose source.before.faults source.after.faults)
    ⊎ (IsBegun b (take most_bytes bytes) o × Rose shelf.before.faults shelf.after.faults)

-- the end of a connection that gave these bytes: its requests have these replies and made these loads
abbrev pub EndsSo : ServeEnd → Basis → List ℕ → Outcome → Touched → Type 0
EndsSo Done b bytes o t = IsOver b bytes o t.source × IsSound t.shelf t.source × Took o.replies t.sink
EndsSo ReadFault b bytes o t = FailedRead b bytes o t.shelf t.source × Took o.replies t.sink
EndsSo TooLong b bytes o t =
    IsOpen b (take most_bytes bytes) o × (most_bytes < length bytes) × IsSound t.shelf t.source × Took o.replies t.sink
EndsSo WriteFault b bytes o t = AreFirst b (take most_bytes bytes) o × IsSound t.shelf t.source × Cut o.replies t.sink
EndsSo NoMemory b bytes o t = AreFirst b (take most_bytes bytes) o × IsSound t.shelf t.source × Took o.replies t.sink

-- the journal behind it: out of memory, a load may have joined it whose reply was not put
abbrev pub JournalBehind : ServeEnd → List Event → List Event → Type 0
JournalBehind NoMemory es after = (more : List Event) × (after ≡ es ++ more)
JournalBehind end es after = after ≡ es

-- a connection was served, behind a journal: what came of it, and the journal behind it
pub record Serves (end : ServeEnd) (es : List Event) (file : List ℕ) (t : Touched) (after : List Event) : Type 0 where
  pub bytes : List ℕ
  pub given : HasGiven bytes t.source
  pub replies : List ℕ
  pub loads : List Event
  pub so : EndsSo end (basis es (site t.shelf.before file)) bytes (outcome replies loads) t
  pub journal : JournalBehind end (es ++ loads) after

-- each request of these bytes is answered, behind a journal, with these puts, and this journal behind it
pub record IsServedWhole (b : Basis) (bytes : List ℕ) (sink : Use SinkSeen) (after : List Event) : Type 0 where
  pub replies : List ℕ
  pub loads : List Event
  pub served : IsServed b bytes (outcome replies loads)
  pub put : Took replies sink
  pub journal : after ≡ b.journal ++ loads

-- where it is known what a source has, a connection that was served to its end is answered by all of that
abbrev pub ServesAll : Type 0
ServesAll = (es : List Event) (file : List ℕ) (t : Touched) (after : List Event) → Serves Done es file t after →
    IfSome t.source.before.left (λ had. IsServedWhole (basis es (site t.shelf.before file)) had t.sink after)
