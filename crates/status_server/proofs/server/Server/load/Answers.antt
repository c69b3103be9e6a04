use Rattle.status_server.proofs.ServerLemmas.{stands-taken}
use Rattle.status_server.proofs.server.Server.load.Goals as goal

pub invariant_of-self : goal.invariant_of-self
invariant_of-self g c = stands-taken c.take.result c.laws_of_views.ensures c.self.inside.view c.self.inside.core c.take.new.self _ c.take.ensures.joined c.take.ensures.err c.self.invariant
