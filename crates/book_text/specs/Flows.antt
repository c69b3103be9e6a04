-- Text that goes to a sink by a page: what was put so far, and what still stands on the page.
use Rattle.std.specs.Prelude.{ℕ, List, ◌++◌, ◌≡◌}
use Rattle.outside.specs.Objects.{SinkSeen, Use, Adds, Took, Rose}

-- the text was added behind what stood on the page; a front of both was put, and the rest stands on the page
pub record Flows (text before after : List ℕ) (u : Use SinkSeen) : Type 0 where
  pub front : List ℕ
  pub whole : before ++ text ≡ front ++ after
  pub put : Took front u

-- a put failed: only a front of what stood on the page and of the text was put
pub record Stops (text before : List ℕ) (u : Use SinkSeen) : Type 0 where
  pub front : List ℕ
  pub rest : List ℕ
  pub whole : before ++ text ≡ front ++ rest
  pub put : Adds front u
  pub counted : Rose u.before.faults u.after.faults
