-- From when on a sweep acts on a life: one number for a life, and the least of them.
use Rattle.std.specs.Prelude.{◌≡◌, ◌≤◌, ◌<◌, ◌^◌, pos, ℕ, ℤ, Bool, true, false, min, is_some, Option, Some, None, if◌then◌else◌}
use Rattle.journal_text.specs.Lines.{number}
use Rattle.end_of_run.specs.Endings.{due_at}
use Rattle.scrape_machine.specs.declared.lives.Life.{Life}
pub use Rattle.scrape_steps.specs.Endings.{reached}

abbrev pub wake_by : Life → Option ℤ → Option ℕ
wake_by l None = if is_some l.schedule.flight then None else Some l.schedule.planned
wake_by l (Some c) = if l.ended then None else Some (due_at l.schedule.planned (number c) l.schedule.interval)

-- the moment from which on a sweep makes a scrape of an open life, or takes the ending of a closed one
abbrev pub wake_of : Life → Option ℕ
wake_of l = wake_by l l.schedule.closed

-- the lesser of two, where there are two
abbrev pub sooner : Option ℕ → Option ℕ → Option ℕ
sooner None o = o
sooner (Some a) None = Some a
sooner (Some a) (Some b) = Some (min a b)

-- m is the least moment from `now` on that is due
pub record IsFirstBy (due : ℕ → Bool) (now m : ℕ) : Type 0 where
  pub later : now ≤ m
  pub small : m < 2 ^ 52
  pub due_then : due m ≡ true
  pub least : (n : ℕ) → now ≤ n → n < m → due n ≡ false

-- the least moment from `now` on that is due, or none where none is
abbrev pub IsWakeBy : (ℕ → Bool) → ℕ → Option ℤ → Type 0
IsWakeBy due now None = (n : ℕ) → now ≤ n → n < 2 ^ 52 → due n ≡ false
IsWakeBy due now (Some t) = (m : ℕ) × (t ≡ pos m) × IsFirstBy due now m
