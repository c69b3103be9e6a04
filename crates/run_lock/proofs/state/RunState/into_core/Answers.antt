use Rattle.run_lock.proofs.RunLemmas.{front_begins}
use Rattle.run_lock.proofs.state.RunState.into_core.Goals as goal

pub returns-clause-begins : goal.returns-clause-begins
returns-clause-begins g c = front_begins g.B.Asked.start c.args.self.core c.args.self.run.begins
