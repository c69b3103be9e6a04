use Rattle.std.proofs.Common.{◌∙◌}
use Rattle.outside.specs.Objects.{used}
use Rattle.station.proofs.WorkLemmas.{free_worker, busy_worker, worked_more, worked_same, worked_end, counts_rise}
use Rattle.station.proofs.workers.Worker.work.Goals as goal

pub next_task-requires-clause-free : goal.next_task-requires-clause-free
next_task-requires-clause-free g c = free_worker c.args.self.place (g.F.Fetch.seen c.args.self.fetcher) (g.F.Fetch.seen c.loop.fetcher) c.loop.seat.pass c.loop.invariant.worked

pub bring-requires-clause-out : goal.bring-requires-clause-out
bring-requires-clause-out g c =
    busy_worker c.args.self.place c.in-Fetch.ticket (g.F.Fetch.seen c.args.self.fetcher) (g.F.Fetch.seen c.loop.fetcher) c.loop.seat.pass c.next_task.new.self.pass c.loop.invariant.worked c.in-Fetch.ensures.task

pub loop-preserved-in-Fetch : goal.loop-preserved-in-Fetch
loop-preserved-in-Fetch g c =
    let x = g.F.Fetch.seen c.args.self.fetcher in
    let y = g.F.Fetch.seen c.loop.fetcher in
    let z = g.F.Fetch.seen c.fetch.new.self in
    let b = c.bring.ensures.brought c.if-not-bring.false in
    record {
      can = tt;
      finite = tt;
      lock = c.bring.ensures.lock ∙ (c.next_task.ensures.lock ∙ c.loop.invariant.lock);
      seat = c.bring.ensures.seat;
      worked = worked_more
          c.args.self.place
          c.in-Fetch.ticket
          b.0
          c.in-Fetch.request
          c.in-Ok.fetched
          x
          y
          z
          c.loop.seat.pass
          c.next_task.new.self.pass
          c.bring.new.self.pass
          c.loop.invariant.worked
          c.next_task.ensures.seen
          c.in-Fetch.ensures.asked.0
          c.in-Fetch.ensures.task
          c.bring.ensures.seen
          b.1
          c.in-Ok.ensures.added
          (counts_rise (c.in-Ok.fetched).reply (used y z) c.in-Ok.ensures.counts);
    }

pub loop-preserved : goal.loop-preserved
loop-preserved g c = record {
  can = tt;
  finite = tt;
  lock = c.next_task.ensures.lock ∙ c.loop.invariant.lock;
  seat = c.next_task.ensures.seat;
  worked = worked_same c.args.self.place (g.F.Fetch.seen c.args.self.fetcher) (g.F.Fetch.seen c.loop.fetcher) c.loop.seat.pass c.next_task.new.self.pass c.loop.invariant.worked c.next_task.ensures.seen c.in-Wait.ensures.task;
}

pub returns-in-End-clause-worked : goal.returns-in-End-clause-worked
returns-in-End-clause-worked g c =
    λ _. worked_end c.args.self.place (g.F.Fetch.seen c.args.self.fetcher) (g.F.Fetch.seen c.loop.fetcher) c.loop.seat.pass c.next_task.new.self.pass c.loop.invariant.worked c.next_task.ensures.seen c.in-End.ensures.task
