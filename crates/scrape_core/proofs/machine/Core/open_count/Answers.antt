use Rattle.std.proofs.Common.{◌∙◌, ap, length}
use Rattle.std.specs.Prelude.{filter}
use Rattle.scrape_machine.specs.Lives.{is_open}
use Rattle.scrape_machine.specs.Machine.{World, world_of}
use Rattle.scrape_core.specs.OpenLives.{open_count}
use Rattle.scrape_core.proofs.machine.Core.open_count.Goals as goal

pub returns : goal.returns
unfolding open_count
returns c = c.open_count_in.ensures ∙ ap (λ (w : World). length (filter is_open w.lives)) (c.self.invariant.0.state ∙ ap world_of c.self.view_is)
