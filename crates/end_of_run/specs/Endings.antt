-- The ending of a life: at which moment its markers stand, from when on it is due, and what it appends ("Staleness" of the Prometheus documentation:
-- the series of a target that isn't scraped any more end with stale markers).
use Rattle.std.specs.Prelude.{◌≡◌, ℕ, ◌+◌, ◌/◌, ◌^◌, ◌<◌, ◌≤◌, ◌==◌, max, nat_le, ℤ, pos, ◌≤ℤ◌, Bool, true, false, not, ◌&&◌, List, [], ◌∷◌, ◌++◌, map, find, Option, None, if◌then◌else◌}
use Rattle.std.specs.List.Sorted.{IsStrictlySortedBy}
use Rattle.std.specs.Option.{option_map_or}
use Rattle.label_set.specs.Sets.{set_cmp}
use Rattle.report_samples.specs.Markers.{report_markers, stale_entry}
use Rattle.report_samples.specs.declared.closing.Closing.{Closing}
use Rattle.report_samples.specs.declared.entries.Entry.{Entry}
use Rattle.value_text.specs.Numbers.{number}

-- the markers of a life stand where its next scrape was planned, or where it was closed if that is later
abbrev pub marker_at : ℕ → ℕ → ℕ
marker_at planned closed = max planned closed

-- its ending is due an interval and a tenth of it, rounded down, after that
abbrev pub due_at : ℕ → ℕ → ℕ → ℕ
due_at planned closed interval = marker_at planned closed + interval + interval / 10

-- both of a closed life
abbrev pub marker_moment : Closing → ℤ
marker_moment c = pos (marker_at (number c.planned) (number c.closed))

abbrev pub due_from : Closing → ℕ
due_from c = due_at (number c.planned) (number c.closed) (number c.interval)

-- the limits of a closing: its moments and its interval, and that its tracked sets rise
pub record IsInLimits (c : Closing) : Type 0 where
  pub no_negatives : (pos 0 ≤ℤ c.planned) × (pos 0 ≤ℤ c.closed)
  pub planned_limit : number c.planned ≤ 2 ^ 53
  pub closed_limit : number c.closed < 2 ^ 52
  pub interval_limits : (1 ≤ number c.interval) × (number c.interval ≤ 2 ^ 40)
  pub sets_rise : IsStrictlySortedBy set_cmp c.tracked

-- the entries of the ending of a closed life: where a scrape of it counted, a stale marker for each tracked set, sets rising, and then one for each of
-- its reports
abbrev pub ending_entries : Closing → List Entry
ending_entries c = if c.scraped then map (stale_entry c.life (marker_moment c)) c.tracked ++ report_markers c.life c.target c.extra (marker_moment c) else []

-- what contracts see of an ending: the closed life, and whether it was taken
pub record EndingView : Type 0 where
  pub closing : Closing
  pub taken : Bool

-- what contracts see of the endings that were added: their list, and for how many more there is room
pub record EndingsView : Type 0 where
  pub endings : List EndingView
  pub spare : ℕ

-- an ending that was just added
abbrev pub untaken : Closing → EndingView
untaken c = record { closing = c; taken = false }

-- it is that of a life
abbrev pub is_of : ℕ → EndingView → Bool
is_of life e = e.closing.life == life

-- it is due at m, and wasn't taken
abbrev pub is_due : ℤ → EndingView → Bool
is_due m e = not e.taken && nat_le (due_from e.closing) (number m)

-- its entries, unless it was taken
abbrev pub entries_left : EndingView → List Entry
entries_left e = if e.taken then [] else ending_entries e.closing

-- the ending after a sweep at m, which takes it if it is due
abbrev pub swept : ℤ → EndingView → EndingView
swept m e = if is_due m e then record e { taken = true } else e

-- the ending of a life, if one was added
abbrev pub ending_of : ℕ → List EndingView → Option EndingView
ending_of life es = find (is_of life) es

-- no two are of one life
abbrev pub IsOneEach : List EndingView → Type 0
IsOneEach [] = Unit {0}
IsOneEach (e ∷ es) = (ending_of e.closing.life es ≡ None) × IsOneEach es

-- the ending of a life was added, is due at m and wasn't taken
abbrev pub is_life_due : ℕ → ℤ → List EndingView → Bool
is_life_due life m es = option_map_or (is_due m) (ending_of life es) false

-- the entries of a life's ending, if it was added and not taken
abbrev pub life_entries : ℕ → List EndingView → List Entry
life_entries life es = option_map_or entries_left (ending_of life es) []

-- the endings after a sweep at m of one life: its ending is taken if it is due, and the others are as before
abbrev pub swept_life : ℕ → ℤ → List EndingView → List EndingView
swept_life life m es = map (λ (e : EndingView). if is_of life e then swept m e else e) es
