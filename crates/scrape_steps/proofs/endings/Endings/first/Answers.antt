use Rattle.std.proofs.Common.{arith, refl}
use Rattle.std.specs.BinaryHeap.{heap_items}
use Rattle.scrape_steps.proofs.WaitingLemmas.{first_reached}
use Rattle.scrape_steps.proofs.endings.Endings.first.Goals as goal

pub returns-in-Some : goal.returns-in-Some
returns-in-Some c = λ n.
    first_reached n c.in-Some.first.now (heap_items c.args.self.now.order) (omega (arith, c.in-Some.ensures.variant.0 refl, c.args.self.now.order.data.ok.0)) c.in-Some.ensures.lookup
    (c.in-Some.ensures.greatest c.args.self.now.ordered)
