-- How many open lives targets have, and how often they are wanted.
use Rattle.std.specs.Prelude.{◌≡◌, ◌≤◌, ℕ, List, count_by}
use Rattle.label_set.specs.declared.texts.Pair.{Pair}
use Rattle.life_roll.specs.declared.lives.Life.{Life}
use Rattle.life_roll.specs.declared.wanted.Wanted.{Wanted}
use Rattle.life_roll.specs.Seats.{is_seat}
use Rattle.life_roll.specs.Wants.{seat_of}
use Rattle.life_roll.specs.Rolls.{is_open_at}

-- how many open lives a target of a job has
abbrev pub open_count : List Life → ℕ → List Pair → ℕ
open_count ls job identity = count_by (is_open_at job identity) ls

-- how often it is wanted
abbrev pub wanted_count : List Wanted → ℕ → List Pair → ℕ
wanted_count ws job identity = count_by (λ (w : Wanted). is_seat job identity (seat_of w)) ws

-- no target has two open lives
abbrev pub HaveOneEach : List Life → Type 0
HaveOneEach ls = (job : ℕ) (identity : List Pair) → open_count ls job identity ≤ 1

-- none is wanted twice
abbrev pub AreDifferent : List Wanted → Type 0
AreDifferent ws = (job : ℕ) (identity : List Pair) → wanted_count ws job identity ≤ 1

-- each wanted target has one open life, and no other has one
abbrev pub AreOpen : List Wanted → List Life → Type 0
AreOpen ws ls = (job : ℕ) (identity : List Pair) → open_count ls job identity ≡ wanted_count ws job identity
