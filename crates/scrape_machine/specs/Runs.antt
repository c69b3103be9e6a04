-- How often relabelling rules are run, event by event ("Configuration" of the Prometheus documentation: relabel_configs, metric_relabel_configs).
-- A load that is taken runs the rules for targets once for each target that the new configuration lists, and an update that is taken once for each
-- that its job lists. A finish that counts runs the rules for samples once for each raw text of its body that the life's last good scrape didn't
-- have, where status, size and time are in order and the body reads. Nothing else runs any.
use Rattle.std.specs.Prelude.{ℕ, ◌+◌, ℤ, List, [], ◌∷◌, slice_get, Option, Some, None, if◌then◌else◌}
use Rattle.outside.specs.declared.replies.Reply.{Reply}
use Rattle.journal_text.specs.declared.events.Event.{Event}
use Rattle.journal_text.specs.declared.events.Event.TheVariants.{Load, Targets, Tick, Sweep, Finish, Halt}
use Rattle.jobs_in_force.specs.declared.jobs.InForce.{InForce}
use Rattle.jobs_in_force.specs.Listed.{listed_by, listed_by_named}
use Rattle.scrape_loop.specs.Tracked.{runs_for}
use Rattle.scrape_machine.specs.declared.lives.Life.{Life}
use Rattle.scrape_machine.specs.declared.lives.TicketState.{TicketState}
use Rattle.scrape_machine.specs.declared.lives.TicketState.TheVariants.{NotStarted, Cancelled, Counts}
use Rattle.scrape_machine.specs.Lives.{rules_of}
use Rattle.scrape_machine.specs.Machine.{World, beginning, new_jobs, found, step}

-- the runs of a load, and of an update of a job, by the configuration in force after it; none where it is refused
abbrev pub load_runs : Option (List InForce) → ℕ
load_runs None = 0
load_runs (Some news) = listed_by news

abbrev pub update_runs : List ℕ → Option (List InForce) → ℕ
update_runs name None = 0
update_runs name (Some news) = listed_by_named name news

-- those of a life's scrape that took so long and got this reply
abbrev pub scrape_runs : ℤ → Reply → Life → ℕ
scrape_runs took r l = runs_for l.state (rules_of l.settings) l.settings.metric_rules r took

abbrev pub life_runs : ℤ → Reply → Option Life → ℕ
life_runs took r None = 0
life_runs took r (Some l) = scrape_runs took r l

-- those of a finish, by what it finds; none where it doesn't count
abbrev pub finish_runs : World → ℤ → Reply → TicketState → ℕ
finish_runs w took r NotStarted = 0
finish_runs w took r Cancelled = 0
finish_runs w took r (Counts n m) = life_runs took r (slice_get w.lives n)

abbrev pub live_runs : World → Event → ℕ
live_runs w (Load m text) = load_runs (new_jobs w.jobs (Load m text))
live_runs w (Targets m name file text) = update_runs name (new_jobs w.jobs (Targets m name file text))
live_runs w (Tick m k) = 0
live_runs w (Sweep m) = 0
live_runs w (Finish k took r) = finish_runs w took r (found w k)
live_runs w (Halt m) = 0

-- the runs of an event; after a halt there are none
unfoldable pub runs : World → Event → ℕ
runs w e = if w.halted then 0 else live_runs w e

-- those of a whole journal
abbrev pub runs_from : World → List Event → ℕ
runs_from w [] = 0
runs_from w (e ∷ es) = runs w e + runs_from (step w e) es

abbrev pub runs_of : List Event → ℕ
runs_of es = runs_from beginning es
