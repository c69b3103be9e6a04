-- The endings that wait: of each life that is closed and whose ending wasn't taken, the moment from which on a sweep takes it, with the life's number.
use Rattle.std.specs.Prelude.{◌≡◌, ℕ, ◌+◌, ◌≤◌, ℤ, Bool, false, not, List, [], ◌∷◌, ◌++◌, map, sum_by, nat_lt, slice_get, Option, Some, None, if◌then◌else◌}
use Rattle.std.specs.declared.cmp.Reverse.{Reverse}
use Rattle.std.specs.BinaryHeap.{heap_items, heap_len, heap_capacity}
use Rattle.journal_text.specs.Lines.{number}
use Rattle.end_of_run.specs.Endings.{due_at}
use Rattle.scrape_machine.specs.declared.lives.Life.{Life}
use Rattle.scrape_steps.specs.declared.endings.Endings.{Endings}

-- from when on a sweep takes the ending of a life, by whether it was closed: it was, and the ending wasn't taken
abbrev pub due_by : Life → Option ℤ → Option ℕ
due_by l None = None
due_by l (Some c) = if l.ended then None else Some (due_at l.schedule.planned (number c) l.schedule.interval)

abbrev pub due_of : Life → Option ℕ
due_of l = due_by l l.schedule.closed

-- the ending of life number n, where it waits
abbrev pub ending_by : ℕ → Option ℕ → List (ℕ × ℕ)
ending_by n None = []
ending_by n (Some due) = (due, n) ∷ []

abbrev pub ending_of : ℕ → Life → List (ℕ × ℕ)
ending_of n l = ending_by n (due_of l)

-- those of all lives, where the first has number n
abbrev pub endings_from : ℕ → List Life → List (ℕ × ℕ)
endings_from n [] = []
endings_from n (l ∷ ls) = ending_of n l ++ endings_from (n + 1) ls

-- those of the lives with some numbers
abbrev pub ending_there : ℕ → Option Life → List (ℕ × ℕ)
ending_there n None = []
ending_there n (Some l) = ending_of n l

abbrev pub endings_at : List Life → List ℕ → List (ℕ × ℕ)
endings_at ls [] = []
endings_at ls (n ∷ ns) = ending_there n (slice_get ls n) ++ endings_at ls ns

-- an ending is due at m, or isn't yet
abbrev pub is_due : ℕ → ℕ × ℕ → Bool
is_due m e = not (nat_lt m e.0)

abbrev pub is_early : ℕ → ℕ × ℕ → Bool
is_early m e = nat_lt m e.0

-- the number of an ending's life
abbrev pub life_of : ℕ × ℕ → ℕ
life_of e = e.1

-- a moment is at or behind another, where that is there
abbrev pub reached : ℕ → Option ℕ → Bool
reached n None = false
reached n (Some m) = not (nat_lt n m)

-- two lists hold the same, in whatever order: each sum over the one is that over the other
abbrev pub HoldSame : {A : Type 0} → List A → List A → Type 0
HoldSame {A} xs ys = (f : A → ℕ) → sum_by f xs ≡ sum_by f ys

-- what is kept in the order of their moments: the endings, and whether there is room for so many more
abbrev pub ending_in : Reverse (ℕ × ℕ) → ℕ × ℕ
ending_in r = r.0

abbrev pub waiting : Endings → List (ℕ × ℕ)
waiting e = map ending_in (heap_items e.order)

abbrev pub HasRoom : Endings → ℕ → Type 0
HasRoom e n = heap_len e.order + n ≤ heap_capacity e.order
