-- What `at` looks for.
use Rattle.std.specs.Prelude.{ℕ, List}

-- a moment in milliseconds, and the text of a selector
pub record Instant : Type 0 where
  pub moment : ℕ
  pub selector : List ℕ

abbrev pub instant : ℕ → List ℕ → Instant
instant moment selector = record { moment = moment; selector = selector }
