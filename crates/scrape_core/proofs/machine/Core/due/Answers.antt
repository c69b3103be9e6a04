use Rattle.std.proofs.Common.{◌≡◌, ◌∙◌, rules}
use Rattle.journal_text.specs.Lines.{number}
use Rattle.scrape_core.specs.Readers.{is_due}
use Rattle.scrape_core.proofs.ReaderLemmas.{due_state}
use Rattle.scrape_core.proofs.machine.Core.due.Goals as goal

pub returns : goal.returns
returns c =
    let m : c.new.result ≡ c.args.moment = search rules in
    c.due_in.ensures
    ∙ (due_state c.self.inside.journal.events c.self.inside.state (number c.new.result) c.self.invariant.0.state ∙ (λ i. is_due (c.self.view_is i) (number (m i))))
