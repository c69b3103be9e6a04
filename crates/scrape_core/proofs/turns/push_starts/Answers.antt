use Rattle.std.proofs.Common.{arith, ◌∙◌}
use Rattle.std.proofs.lemmas.Iterator.Adapters.{YieldsList-from_vec}
use Rattle.std.proofs.lemmas.Iterator.Consumers.{YieldsList-turn}
use Rattle.scrape_core.proofs.turns.push_starts.Goals as goal

pub push_reserved-requires : goal.push_reserved-requires
push_reserved-requires c =
    let gives = c.into_iter-start-iterator.ensures.into_iter_gives in
    let list = YieldsList-from_vec {s = c.into_iter-start-iterator.result} c.args.begun.items gives.0 (gives.1 ∙ c.args.begun.ok.0) in
    let t = YieldsList-turn list c.loop-start.yielded c.loop-start.start-iterator c.loop-start.yielded_by c.next.result c.next.new.self c.in-Some.start c.in-Some.is c.next.ensures.steps in
    let len = c.loop-start.invariant.len in
    let room = c.loop-start.invariant.room in
    let fits = c.requires in
    omega (arith, t.0, len, room, fits)
