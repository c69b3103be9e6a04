use Rattle.scrape_core.proofs.machine.Core.step.Goals as goal

pub returns-clause-laws : goal.returns-clause-laws
returns-clause-laws g c = c.step_laws.ensures c.args.self.now c.args.event c.take.new.self
