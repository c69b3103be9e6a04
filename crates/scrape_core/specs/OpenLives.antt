-- The targets that are scraped, as they are shown to who asks ("HTTP API" of the Prometheus documentation, targets: active targets, their labels and
-- their health).
use Rattle.std.specs.Prelude.{ℕ, List, filter, length, slice_get, Option, option_map}
use Rattle.label_set.specs.declared.texts.Pair.{Pair}
use Rattle.journal_text.specs.declared.events.Event.{Event}
use Rattle.scrape_loop.specs.Tracked.{health_of}
use Rattle.scrape_loop.specs.declared.health.Health.{Health}
use Rattle.scrape_machine.specs.declared.lives.Life.{Life}
use Rattle.scrape_machine.specs.Lives.{is_open}
use Rattle.scrape_machine.specs.Machine.{world_of}
use Rattle.scrape_core.specs.declared.open_lives.OpenLife.{OpenLife}

-- what is shown of an open life: its number, the labels of its target, and how the target is
pub record Shown : Type 0 where
  pub life : ℕ
  pub labels : List Pair
  pub health : Health

abbrev pub shown : Life → Shown
shown l = record { life = l.state.life; labels = l.state.target; health = health_of l.state }

-- the same of what a core lends
abbrev pub seen : OpenLife → Shown
seen o = record { life = o.life; labels = o.labels.now; health = o.health }

-- the open lives after a journal, by rising number
abbrev pub open_of : List Event → List Life
open_of es = filter is_open (world_of es).lives

unfoldable pub open_count : List Event → ℕ
open_count es = length (open_of es)

-- the one at a place; none where there are no more
unfoldable pub open_life : List Event → ℕ → Option Shown
open_life es place = option_map shown (slice_get (open_of es) place)
