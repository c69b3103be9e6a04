-- Links in memory.
use Rattle.std.specs.Prelude.{ℕ, ◌-◌, min, Bool, List, length, nat_eq, nat_lt, ◌&&◌, Some, None}
use Rattle.outside.specs.Links.{LinkSeen}
use Rattle.outside.specs.Memory.{fails_now}

-- a link: whether it is dialled, and what its reads still give
pub record LineView : Type 0 where
  pub dialled : Bool
  pub left : List ℕ

-- a link that takes at most so many bytes, and is to fail at some of its calls: dials, writes and reads, numbered from 0
pub record FailingLineView : Type 0 where
  pub dialled : Bool
  pub left : List ℕ
  pub sent : List ℕ
  pub room : ℕ
  pub fails : List ℕ
  pub calls : ℕ
  pub faults : ℕ

-- what contracts see of each
abbrev pub sure_link_seen : LineView → LinkSeen
sure_link_seen l = record { dialled = l.dialled; sent = None; left = Some l.left; faults = 0 }

abbrev pub failing_link_seen : FailingLineView → LinkSeen
failing_link_seen l = record { dialled = l.dialled; sent = Some l.sent; left = Some l.left; faults = l.faults }

-- whether the next call is to fail, by its number
abbrev pub is_to_fail : FailingLineView → Bool
is_to_fail l = fails_now l.fails l.calls

-- how many bytes of a piece the link takes: as many as it has room for
abbrev pub taken : FailingLineView → List ℕ → ℕ
taken l bytes = min (length bytes) (l.room - length l.sent)

-- whether it has no room for any of a piece that isn't empty
abbrev pub is_full : FailingLineView → List ℕ → Bool
is_full l bytes = nat_lt 0 (length bytes) && nat_eq (taken l bytes) 0
