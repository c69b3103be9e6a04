use Rattle.std.proofs.Common.{◌++◌, arith}
use Rattle.scrape_steps.specs.Endings.{waiting}
use Rattle.scrape_steps.proofs.WaitingLemmas.{back_more}
use Rattle.scrape_steps.proofs.endings.Endings.put_back.Goals as goal

pub loop-ending-preserved : goal.loop-ending-preserved
loop-ending-preserved c =
    let l = c.loop-ending in
    record {
      back = back_more (c.args.due.items ++ waiting c.args.self.now) l.due.items c.pop.new.self.items (waiting l.self) (waiting c.add.new.self) c.in-Some.ending l.invariant.back c.in-Some.ensures.items c.add.ensures.added;
      room = c.add.ensures.room _ (omega (arith, l.invariant.room, c.in-Some.ensures.len));
    }
