use Rattle.std.proofs.Common.{◌∙◌, length, sym, ap}
use Rattle.scrape_machine.specs.Machine.{World, world_of}
use Rattle.scrape_core.proofs.RecordLemmas.{started_is_length}
use Rattle.scrape_core.proofs.machine.Core.started.Goals as goal

pub returns : goal.returns
returns c =
    c.len.ensures
    ∙ (c.self.inside.state.started.ok.0
    ∙ (ap (λ (w : World). length w.started) (c.self.invariant.0.state ∙ ap world_of c.self.view_is) ∙ sym (started_is_length c.args.self.now)))
