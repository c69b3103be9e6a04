use Rattle.std.proofs.Common.{◌∙◌, ap, subst}
use Rattle.std.specs.Prelude.{ℕ}
use Rattle.journal_text.specs.Lines.{number}
use Rattle.scrape_machine.specs.Machine.{world_of}
use Rattle.scrape_core.specs.Readers.{due_in}
use Rattle.scrape_core.specs.Wakes.{IsWakeBy}
use Rattle.scrape_core.proofs.ReaderLemmas.{wake_state}
use Rattle.scrape_core.proofs.machine.Core.wake.Goals as goal

pub returns : goal.returns
returns c =
    let s = c.self.inside.state in
    let n = c.number.ensures.value ∙ ap number c.moment.ensures in
    wake_state c.args.self.now s c.wake_in.result (c.self.invariant.0.state ∙ ap world_of c.self.view_is) (subst (λ (k : ℕ). IsWakeBy (due_in s) k c.wake_in.result) n c.wake_in.ensures)
