use Rattle.scrape_core.specs.ReadEvents.{finish_with}
use Rattle.scrape_core.proofs.machine.Core.finish_read.Goals as goal

pub returns-clause-laws : goal.returns-clause-laws
returns-clause-laws g c =
    c.step_laws.ensures c.args.self.now (finish_with c.args.ticket c.args.took c.args.body.form c.args.status c.args.body.bytes) c.take_read.new.self
