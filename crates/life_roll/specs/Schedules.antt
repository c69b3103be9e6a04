-- When the target of a life is scraped ("Configuration" of the Prometheus documentation, scrape_config: scrape_interval, target_limit;
-- how planned moments move, and that a change or a close cancels the scrape in flight, are rules of this project).
use Rattle.std.specs.Prelude.{ℕ, ℤ, ◌+◌, ◌-◌, ◌%◌, Bool, not, ◌&&◌, nat_lt, min, Some, None, is_some, if◌then◌else◌}
use Rattle.journal_text.specs.Lines.{number}
use Rattle.life_roll.specs.declared.schedule.Schedule.{Schedule}
use Rattle.life_roll.specs.declared.schedule.Scanned.{Scanned}
use Rattle.life_roll.specs.declared.schedule.Scanned.TheVariants.{Nothing, Started, Forced}

-- the planned scrape after one that a scan at m makes, where it was planned at n: the planned moments stay whole intervals apart
abbrev pub next_of : ℕ → ℕ → ℕ → ℕ
next_of m n interval = m + interval - (m - n) % interval

-- a life that begins at m has its first scrape planned then
abbrev pub begun_at : ℕ → ℕ → Schedule
begun_at m interval = record { interval = interval; planned = m; flight = None; closed = None }

abbrev pub is_open : Schedule → Bool
is_open s = not (is_some s.closed)

-- a scan at m makes a scrape of an open life: none is in flight, and the planned moment has come
abbrev pub is_due : ℕ → Schedule → Bool
is_due m s = is_open s && (not (is_some s.flight) && not (nat_lt m s.planned))

-- it starts one; or it forces one, where the job has more targets than its limit
abbrev pub scan_of : ℕ → Bool → Schedule → Scanned
scan_of m over s = if is_due m s then (if over then Forced else Started) else Nothing

abbrev pub starts : ℕ → Bool → Schedule → Bool
starts m over s = is_due m s && not over

abbrev pub forces : ℕ → Bool → Schedule → Bool
forces m over s = is_due m s && over

-- the schedule after a scan at m that makes a scrape
abbrev pub moved : ℤ → Schedule → Schedule
moved m s = record s { planned = next_of (number m) s.planned s.interval }

-- the schedule after a scan that starts a scrape, where k is the next ticket
abbrev pub started : ℤ → ℕ → Schedule → Schedule
started m k s = record (moved m s) { flight = Some (record { ticket = k; moment = m }) }

-- the schedule after a scan
abbrev pub scanned : ℤ → ℕ → Bool → Schedule → Schedule
scanned m k over s = if is_due (number m) s then (if over then moved m s else started m k s) else s

-- the scrape in flight has its finish
abbrev pub landed : Schedule → Schedule
landed s = record s { flight = None }

-- the settings change at m, where this is the interval then: the next scrape is at the lesser of the planned moment and one interval
-- from m on, and the scrape in flight is cancelled
abbrev pub changed_at : ℕ → ℕ → Schedule → Schedule
changed_at m interval s = record s { interval = interval; planned = min s.planned (m + interval); flight = None }

-- the life is closed at m, and its scrape in flight is cancelled
abbrev pub closed_at : ℤ → Schedule → Schedule
closed_at m s = record s { flight = None; closed = Some m }
