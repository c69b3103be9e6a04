-- Calls that append a piece to a text.
use Rattle.std.specs.Prelude.{◌≡◌, ℕ, ◌+◌, ◌<◌, ◌≤◌, List, ◌++◌, length, Vec, vec_len, vec_capacity, Result, OnOk, OnErr}
use Rattle.std.specs.List.{SameBelow}

-- the piece stands behind what stood there, or the text had no room for it; what stood there stays either way
pub record Appends {T E Z : Type 0} (piece : List ℕ) (old new : Vec ℕ Z) (outcome : Result T E) : Type 0 where
  pub written : OnOk outcome (new.items ≡ old.items ++ piece)
  pub len : OnOk outcome (vec_len new ≡ vec_len old + length piece)
  pub full : OnErr outcome (vec_capacity old < vec_len old + length piece)
  pub capacity : vec_capacity old ≤ vec_capacity new
  pub longer : vec_len old ≤ vec_len new
  pub front : SameBelow old.items new.items (vec_len old)
