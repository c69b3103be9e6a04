use Rattle.std.proofs.Common.{◌∙◌, ap}
use Rattle.std.specs.Prelude.{filter, option_map, slice_get}
use Rattle.scrape_machine.specs.Lives.{is_open}
use Rattle.scrape_machine.specs.Machine.{World, world_of}
use Rattle.scrape_core.specs.OpenLives.{open_life, shown}
use Rattle.scrape_core.proofs.machine.Core.open_life.Goals as goal

pub returns : goal.returns
unfolding open_life
returns c =
    c.open_life_in.ensures
    ∙ ap (λ (w : World). option_map shown (slice_get (filter is_open w.lives) c.args.place)) (c.self.invariant.0.state ∙ ap world_of c.self.view_is)
