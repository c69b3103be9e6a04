-- One life of a target: what an event is to it, what it makes of it, and the entries that it gives.
-- A life is a stretch of time in which a target of a job is scraped ("Configuration" of the Prometheus documentation, scrape_config;
-- "Staleness" for what its scrapes and its ending append).
use Rattle.std.specs.Prelude.{ℕ, ℤ, pos, Bool, true, false, not, ◌&&◌, List, [], nat_lt, Option, Some, None, if◌then◌else◌}
use Rattle.journal_text.specs.Lines.{number}
use Rattle.outside.specs.declared.replies.Reply.{Reply}
use Rattle.scrape_config.specs.declared.conf.Job.{Job}
use Rattle.sample_rows.specs.Outcomes.{outcome, forced}
use Rattle.sample_rows.specs.declared.scrape.RowRules.{RowRules}
use Rattle.sample_rows.specs.declared.scrape.Scrape.{Scrape}
use Rattle.report_samples.specs.declared.closing.Closing.{Closing}
use Rattle.report_samples.specs.declared.entries.Entry.{Entry}
use Rattle.end_of_run.specs.Endings.{due_at, ending_entries}
use Rattle.scrape_loop.specs.Texts.{AreRight}
use Rattle.scrape_loop.specs.Tracked.{after_forced, after_reply, fresh, released}
use Rattle.scrape_loop.specs.Closings.{closing_of}
use Rattle.scrape_loop.specs.Entries.{entries_of, extra_for, extra_of}
use Rattle.target_set.specs.declared.targets.Target.{Target}
use Rattle.life_roll.specs.Schedules as schedule
use Rattle.life_roll.specs.declared.schedule.InFlight.{InFlight}
use Rattle.scrape_machine.specs.declared.lives.Life.{Life}
use Rattle.scrape_machine.specs.declared.lives.Local.{Local}
use Rattle.scrape_machine.specs.declared.lives.Local.TheVariants.{Nothing, Scan, Answered, Change, Close}

abbrev pub is_open : Life → Bool
is_open l = schedule.is_open l.schedule

-- the interval of settings
abbrev pub interval_of : Job → ℕ
interval_of s = number s.conf.scrape_interval

-- life number n, of a target of a job, that begins at m: its first scrape is planned then
unfoldable pub born : ℕ → ℕ → Job → Target → Life
born m n s t =
    record {
      state = fresh n t.labels s.conf.extra_scrape_metrics;
      identity = t.identity;
      settings = s;
      schedule = schedule.begun_at m (interval_of s);
      ended = false;
    }

-- a scan at m makes a scrape of the life: it starts one, or forces one where its job is over its limit of targets
abbrev pub starts : ℕ → Bool → Life → Bool
starts m over l = schedule.starts m over l.schedule

abbrev pub forces : ℕ → Bool → Life → Bool
forces m over l = schedule.forces m over l.schedule

-- a sweep at m takes the ending of a life that was closed at c: it is due, and it wasn't taken
abbrev pub ends_at : ℕ → ℤ → Life → Bool
ends_at m c l = not l.ended && not (nat_lt m (due_at l.schedule.planned (number c) l.schedule.interval))

abbrev pub closed_ends : ℕ → Life → Option ℤ → Bool
closed_ends m l None = false
closed_ends m l (Some c) = ends_at m c l

abbrev pub ends : ℕ → Life → Bool
ends m l = closed_ends m l l.schedule.closed

-- what is kept of a life that was closed at c until its ending
abbrev pub closing_at : ℤ → Life → Closing
closing_at c l = closing_of l.state (pos l.schedule.planned) c (pos l.schedule.interval)

-- the settings that the rows of a body are judged by
abbrev pub rules_of : Job → RowRules
rules_of s =
    record {
      honor_labels = s.conf.honor_labels;
      honor_timestamps = s.conf.honor_timestamps;
      track_timestamps_staleness = s.conf.track_timestamps_staleness;
      extra_scrape_metrics = s.conf.extra_scrape_metrics;
      timeout = s.conf.scrape_timeout;
      limits = s.conf.limits;
    }

-- the outcome of the life's scrape that took so long and got this reply
unfoldable pub outcome_for : Life → ℤ → Reply → Scrape
outcome_for l took r = outcome (rules_of l.settings) l.settings.metric_rules l.state.target r took

-- the life after its ending was taken: it lets go what it knows of raw texts
abbrev pub with_ending : Life → Life
with_ending l = record l { state = released l.state; ended = true }

-- the life after a scan at m, where k is the next ticket, by whether it was closed: an open one is scanned, of a closed one the ending is taken
abbrev pub scanned_life : ℤ → ℕ → Bool → Life → Option ℤ → Life
scanned_life m k over l None =
    if forces (number m) over l then record l { state = after_forced l.state; schedule = schedule.scanned m k over l.schedule }
    else record l { schedule = schedule.scanned m k over l.schedule }
scanned_life m k over l (Some c) = if ends_at (number m) c l then with_ending l else l

-- the life after a scrape that counts, which took so long and got this reply: nothing is in flight, and its state is that after the reply
abbrev pub counted : Life → ℤ → Reply → Life
counted l took r = record l { state = after_reply l.state (rules_of l.settings) l.settings.metric_rules r took; schedule = schedule.landed l.schedule }

-- what is known of the raw texts of a life's rows is right by its settings
abbrev pub IsRightLife : Life → Type 0
IsRightLife l = AreRight l.settings.conf.honor_labels l.settings.metric_rules l.state.target l.state.cache.texts

-- the life after a change of its job's settings at m
abbrev pub changed : ℤ → Job → Life → Life
changed m s l = record l { settings = s; schedule = schedule.changed_at (number m) (interval_of s) l.schedule }

-- the life after it was closed at m
abbrev pub closed : ℤ → Life → Life
closed m l = record l { schedule = schedule.closed_at m l.schedule }

-- the life after what an event is to it
abbrev pub life_after : Local → Life → Life
life_after Nothing l = l
life_after (Scan m k over) l = scanned_life m k over l l.schedule.closed
life_after (Answered took r) l = counted l took r
life_after (Change m s) l = changed m s l
life_after (Close m) l = closed m l

-- the entries of a scan at m: those of a scrape that it forces, or of the ending that it takes
abbrev pub scan_entries : ℤ → Bool → Life → Option ℤ → List Entry
scan_entries m over l None = if forces (number m) over l then entries_of l.state (extra_of (rules_of l.settings) (pos 0)) forced m (pos 0) else []
scan_entries m over l (Some c) = if ends_at (number m) c l then ending_entries (closing_at c l) else []

-- the entries of a scrape of the life that started at m, took so long and got this reply
abbrev pub counted_entries : Life → ℤ → Reply → ℤ → List Entry
counted_entries l took r m = entries_of l.state (extra_for (rules_of l.settings) (outcome_for l took r) r) (outcome_for l took r) m took

-- the entries of a scrape that counts, by the scrape in flight
abbrev pub counting_entries : Life → ℤ → Reply → Scrape → Option InFlight → List Entry
counting_entries l took r s None = []
counting_entries l took r s (Some f) = entries_of l.state (extra_for (rules_of l.settings) s r) s f.moment took

-- the entries of the life, by what an event is to it
abbrev pub life_gives : Local → Life → List Entry
life_gives Nothing l = []
life_gives (Scan m k over) l = scan_entries m over l l.schedule.closed
life_gives (Answered took r) l = counting_entries l took r (outcome_for l took r) l.schedule.flight
life_gives (Change m s) l = []
life_gives (Close m) l = []
