-- Shelves and sinks in memory.
use Rattle.std.specs.Prelude.{ℕ, ◌+◌, Bool, List, ◌++◌, Some, length, nat_lt, nat_eq, ◌||◌, if◌then◌else◌}
use Rattle.std.specs.List.{list_any}
use Rattle.outside.specs.Objects.{raised, ShelfSeen, SinkSeen}
use Rattle.outside.specs.declared.objects.StoredFile.{StoredFile}

-- a shelf of files: how often it was asked for one that it lacks, and for one over the limit
pub record ShelfView : Type 0 where
  pub files : List StoredFile
  pub misses : ℕ
  pub overs : ℕ

-- a shelf that is to fail at some of its calls, which are numbered from 0
pub record FailingShelfView : Type 0 where
  pub files : List StoredFile
  pub misses : ℕ
  pub overs : ℕ
  pub fails : List ℕ
  pub calls : ℕ
  pub faults : ℕ

-- whether a call is to fail, by its number
abbrev pub fails_now : List ℕ → ℕ → Bool
fails_now fails number = list_any (nat_eq number) fails

-- a sink that holds at most so many bytes, and is to fail at some of its calls
pub record SinkView : Type 0 where
  pub bytes : List ℕ
  pub room : ℕ
  pub fails : List ℕ
  pub calls : ℕ
  pub faults : ℕ

-- whether the next put is to fail: by its number, or for want of room
unfoldable pub put_fails : SinkView → List ℕ → Bool
put_fails sink bytes = fails_now sink.fails sink.calls || nat_lt sink.room (length sink.bytes + length bytes)

-- a sink after a put
abbrev pub after_put : SinkView → List ℕ → SinkView
after_put sink bytes =
    if put_fails sink bytes then record sink { calls = raised sink.calls; faults = raised sink.faults }
    else record sink { calls = raised sink.calls; bytes = sink.bytes ++ bytes }

-- what contracts see of each: all that they hold, and their counts
abbrev pub failing_seen : FailingShelfView → ShelfSeen
failing_seen s = record { files = Some s.files; misses = s.misses; overs = s.overs; faults = s.faults }

abbrev pub sink_seen : SinkView → SinkSeen
sink_seen s = record { bytes = Some s.bytes; faults = s.faults }
