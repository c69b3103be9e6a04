-- The scrapes of a life: those that count, in the order of their events. A scrape counts by the finish of its fetch; one that a scan forces,
-- since its job has more targets than its limit, counts at once and has no samples.
use Rattle.std.specs.Prelude.{ℕ, ℤ, Bool, ◌&&◌, List, [], ◌∷◌, ◌++◌, slice_get, ◌==◌, Option, Some, None, if◌then◌else◌}
use Rattle.std.specs.List.{list_any}
use Rattle.std.specs.Ordering.{is_eq}
use Rattle.label_set.specs.Sets.{set_cmp}
use Rattle.label_set.specs.declared.texts.Pair.{Pair}
use Rattle.outside.specs.declared.replies.Reply.{Reply}
use Rattle.journal_text.specs.declared.events.Event.{Event}
use Rattle.journal_text.specs.declared.events.Event.TheVariants.{Load, Targets, Tick, Sweep, Finish, Halt}
use Rattle.journal_text.specs.Lines.{number}
use Rattle.sample_rows.specs.Outcomes.{forced}
use Rattle.sample_rows.specs.declared.scrape.Sample.{Sample}
use Rattle.sample_rows.specs.declared.scrape.Scrape.{Scrape}
use Rattle.scrape_loop.specs.Tracked.{samples_of}
use Rattle.jobs_in_force.specs.declared.jobs.InForce.{InForce}
use Rattle.scrape_machine.specs.declared.lives.Life.{Life}
use Rattle.scrape_machine.specs.declared.lives.TicketState.{TicketState}
use Rattle.scrape_machine.specs.declared.lives.TicketState.TheVariants.{NotStarted, Cancelled, Counts}
use Rattle.scrape_machine.specs.Lives.{outcome_for}
use Rattle.scrape_machine.specs.Machine.{World, beginning, forces_in, found, step}

-- a scrape of a life: the moment of its start, and what it came to
pub record LifeScrape : Type 0 where
  pub moment : ℤ
  pub outcome : Scrape

-- two label sets are the same series
abbrev pub same_series : List Pair → List Pair → Bool
same_series x y = is_eq (set_cmp x y)

-- a sample is one of series x
abbrev pub is_sample_of : List Pair → Sample → Bool
is_sample_of x r = same_series x r.set

-- a scrape tracks a series: it has a sample by which the series is tracked, one without an honoured timestamp of its own or, where the job tracks
-- those that have, any
abbrev pub tracks : List Pair → LifeScrape → Bool
tracks x s = list_any (λ (r : Sample). r.tracked && is_sample_of x r) (samples_of s.outcome)

-- the scrape of life n that a finish makes count, by what it finds: the one that the life has in flight, at the moment of its start
abbrev pub counting : ℕ → Life → ℤ → Reply → TicketState → List LifeScrape
counting n l took r NotStarted = []
counting n l took r Cancelled = []
counting n l took r (Counts k m) = if k == n then record { moment = m; outcome = outcome_for l took r } ∷ [] else []

-- the scrape that a scan at m forces, if it does
abbrev pub forcing : List InForce → ℤ → Life → List LifeScrape
forcing jobs m l = if forces_in jobs (number m) l then record { moment = m; outcome = forced } ∷ [] else []

-- the scrape of life n that a live event makes count
abbrev pub live_scrape : World → Event → ℕ → Life → List LifeScrape
live_scrape w (Load m text) n l = []
live_scrape w (Targets m name file text) n l = []
live_scrape w (Tick m k) n l = if k == n then forcing w.jobs m l else []
live_scrape w (Sweep m) n l = forcing w.jobs m l
live_scrape w (Finish k took r) n l = counting n l took r (found w k)
live_scrape w (Halt m) n l = []

-- after a halt no scrape counts, and a life that hasn't begun has none
abbrev pub scrape_at : World → Event → ℕ → Option Life → List LifeScrape
scrape_at w e n None = []
scrape_at w e n (Some l) = if w.halted then [] else live_scrape w e n l

-- the scrapes of life n that these events make count, in their order
abbrev pub scrapes_from : World → ℕ → List Event → List LifeScrape
scrapes_from w n [] = []
scrapes_from w n (e ∷ es) = scrape_at w e n (slice_get w.lives n) ++ scrapes_from (step w e) n es

-- the scrapes of life n in a journal
abbrev pub scrapes_of : ℕ → List Event → List LifeScrape
scrapes_of n journal = scrapes_from beginning n journal
