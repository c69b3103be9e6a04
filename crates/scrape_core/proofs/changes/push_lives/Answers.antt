use Rattle.std.proofs.Common.{arith, ◌∙◌}
use Rattle.std.proofs.lemmas.Iterator.Adapters.{YieldsList-from_vec}
use Rattle.std.proofs.lemmas.Iterator.Consumers.{YieldsList-turn}
use Rattle.scrape_core.proofs.changes.push_lives.Goals as goal

pub push_reserved-requires : goal.push_reserved-requires
push_reserved-requires c =
    let gives = c.into_iter-life-iterator.ensures.into_iter_gives in
    let list = YieldsList-from_vec {s = c.into_iter-life-iterator.result} c.args.begun.items gives.0 (gives.1 ∙ c.args.begun.ok.0) in
    let t = YieldsList-turn list c.loop-life.yielded c.loop-life.life-iterator c.loop-life.yielded_by c.next.result c.next.new.self c.in-Some.life c.in-Some.is c.next.ensures.steps in
    let len = c.loop-life.invariant.len in
    let room = c.loop-life.invariant.room in
    let fits = c.requires in
    omega (arith, t.0, len, room, fits)
