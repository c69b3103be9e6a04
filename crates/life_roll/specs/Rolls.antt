-- Lives by number and started scrapes by ticket: what the wanted targets, ticks, finishes and cancellations make of them.
-- That a life is a stretch of time in which a target of a job is scraped, when one stays open, and that a change or a close cancels the
-- scrape in flight for good, are rules of this project.
use Rattle.std.specs.Prelude.{◌≡◌, ⊤, ℕ, ◌-◌, ℤ, vec_len, vec_capacity, Bool, false, not, ◌&&◌, List, [], ◌∷◌, ◌++◌, length, map, filter, slice_get, slice_set, nat_lt, Option, Some, None, is_some, Result, Ok, Err, if◌then◌else◌}
use Rattle.std.specs.List.{list_any}
use Rattle.std.specs.declared.vec.Vec.{Vec}
use Rattle.std.specs.Option.{option_map_or}
use Rattle.journal_text.specs.Lines.{number}
use Rattle.label_set.specs.declared.texts.Pair.{Pair}
use Rattle.life_roll.specs.declared.schedule.Schedule.{Schedule}
use Rattle.life_roll.specs.declared.seats.Seat.{Seat}
use Rattle.life_roll.specs.declared.wanted.Terms.{Terms}
use Rattle.life_roll.specs.declared.wanted.Wanted.{Wanted}
use Rattle.life_roll.specs.declared.lives.Life.{Life}
use Rattle.life_roll.specs.declared.lives.Start.{Start}
use Rattle.life_roll.specs.declared.answers.Began.{Began}
use Rattle.life_roll.specs.declared.answers.Began.TheVariants.{Started, Forced}
use Rattle.life_roll.specs.declared.answers.TickRefusal.{TickRefusal}
use Rattle.life_roll.specs.declared.answers.TickRefusal.TheVariants.{NoLife, Busy, NotDue, NoMemory}
use Rattle.life_roll.specs.Schedules.{begun_at, is_open, changed_at, closed_at}
use Rattle.life_roll.specs.Seats.{is_seat}
use Rattle.life_roll.specs.Wants.{seat_of, terms_at}

-- what contracts see of a roll: the lives by number, the started scrapes by ticket, and for how many more there is room
pub record RollView : Type 0 where
  pub lives : List Life
  pub started : List Start
  pub spare : ℕ

-- for how many more items there is room
abbrev pub room_of : {X Z : Type 0} → Vec X Z → ℕ
room_of v = vec_capacity v - vec_len v

-- The wanted targets

-- a life stays open where its target is wanted on compatible terms
abbrev pub stays : Option Terms → Bool
stays None = false
stays (Some t) = t.compatible

-- and changes at m where the settings aren't the same
abbrev pub kept : ℤ → Terms → Schedule → Schedule
kept m t s = if t.same then s else changed_at (number m) t.interval s

-- every other open life closes
abbrev pub open_after : ℤ → Option Terms → Schedule → Schedule
open_after m None s = closed_at m s
open_after m (Some t) s = if t.compatible then kept m t s else closed_at m s

-- a closed life stays closed as it is
abbrev pub schedule_after : ℤ → Option Terms → Schedule → Schedule
schedule_after m t s = if is_open s then open_after m t s else s

abbrev pub life_after : ℤ → (Seat → Option Terms) → Life → Life
life_after m terms l = record l { schedule = schedule_after m (terms l.seat) l.schedule }

-- an open life that doesn't stay so
abbrev pub closes : (Seat → Option Terms) → Life → Bool
closes terms l = is_open l.schedule && not (stays (terms l.seat))

-- an open life of this target of this job
abbrev pub is_open_at : ℕ → List Pair → Life → Bool
is_open_at job identity l = is_open l.schedule && is_seat job identity l.seat

-- a wanted target without an open life begins one
abbrev pub begins : List Life → Wanted → Bool
begins ls w = not (list_any (is_open_at w.job w.identity) ls)

abbrev pub begun_life : ℤ → Wanted → Life
begun_life m w = record { seat = seat_of w; schedule = begun_at (number m) (number w.interval) }

-- in the order in which they are wanted
abbrev pub begun : ℤ → List Wanted → List Life → List Life
begun m ws ls = map (begun_life m) (filter (begins ls) ws)

-- the lives that there were, and those that begin at m
abbrev pub olds_after : ℤ → List Wanted → List Life → List Life
olds_after m ws ls = map (life_after m (terms_at ws)) ls

abbrev pub news_after : ℤ → List Wanted → List Life → List Life
news_after m ws ls = begun m ws (olds_after m ws ls)

abbrev pub lives_after : ℤ → List Wanted → List Life → List Life
lives_after m ws ls = olds_after m ws ls ++ news_after m ws ls

-- Ticks

-- why a tick at m makes no scrape of a life, the first cause first
abbrev pub schedule_refusal : ℕ → Schedule → Option TickRefusal
schedule_refusal m s = if not (is_open s) then Some NoLife else (if is_some s.flight then Some Busy else (if nat_lt m s.planned then Some NotDue else None))

abbrev pub refusal : ℕ → Option Life → Option TickRefusal
refusal m None = Some NoLife
refusal m (Some l) = schedule_refusal m l.schedule

-- the lives, where life n has its schedule changed so
abbrev pub rescheduled : ℕ → (Schedule → Schedule) → List Life → List Life
rescheduled n f ls = option_map_or (λ (l : Life). slice_set ls n (record l { schedule = f l.schedule })) (slice_get ls n) ls

-- a scrape of life n that starts at m
abbrev pub start_at : ℤ → ℕ → Start
start_at m n = record { life = n; moment = m; landed = false }

-- what a tick answers that is refused so, or isn't: where a scrape starts it has the next ticket, and a forced one has none
abbrev pub answer_by : ℕ → Bool → Option TickRefusal → Result Began TickRefusal
answer_by k over (Some e) = Err e
answer_by k over None = if over then Ok Forced else Ok (Started k)

abbrev pub tick_answer : RollView → ℤ → ℕ → Bool → Result Began TickRefusal
tick_answer r m n over = answer_by (length r.started) over (refusal (number m) (slice_get r.lives n))

abbrev pub HasStarted : Result Began TickRefusal → Type 0
HasStarted (Ok (Started k)) = ⊤
HasStarted (Ok Forced) = ⊥
HasStarted (Err e) = ⊥

-- the answer is what was said; out of memory stands only for a scrape that would have started
abbrev pub AnswersAs : Result Began TickRefusal → Result Began TickRefusal → Type 0
AnswersAs (Ok b) said = said ≡ Ok b
AnswersAs (Err NoLife) said = said ≡ Err NoLife
AnswersAs (Err Busy) said = said ≡ Err Busy
AnswersAs (Err NotDue) said = said ≡ Err NotDue
AnswersAs (Err NoMemory) said = HasStarted said

-- the scrape that an answer begins
abbrev pub starts_of : ℤ → ℕ → Began → List Start
starts_of m n (Started k) = start_at m n ∷ []
starts_of m n Forced = []
