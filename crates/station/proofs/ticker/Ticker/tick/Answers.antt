use Rattle.std.proofs.Common.{◌≡◌, ◌∙◌, ℤ, List, length, sym, ap, subst, arith, rules}
use Rattle.std.specs.Prelude.{IfSome}
use Rattle.outside.specs.Clocks.{ClockSeen, Reads}
use Rattle.run_lock.specs.declared.marks.Entry.{Entry}
use Rattle.run_lock.specs.Entries.{brought_in}
use Rattle.turn_lock.specs.Passes.{own_of}
use Rattle.station.specs.Crews.{HasTicked}
use Rattle.station.proofs.WorkLemmas.{sweep_count, ticked_more}
use Rattle.station.proofs.ticker.Ticker.tick.Goals as goal

-- so many sweeps were made, and no more than this turn's number
pub sweep-requires-clause-left : goal.sweep-requires-clause-left
sweep-requires-clause-left g c =
    let t = c.loop-turn.invariant.ticked in
    let made = ap (λ (xs : List Entry). length (brought_in xs)) (c.plan.ensures.own ∙ t.own_is) in
    omega (arith, made, sweep_count t.sweeps, t.many, c.requires.turns, c.loop-turn-test.true)

pub loop-turn-preserved : goal.loop-turn-preserved
loop-turn-preserved g c =
    let x = g.K.Clock.seen c.args.self.clock in
    let y = g.K.Clock.seen c.loop-turn.clock in
    let z = g.K.Clock.seen c.now.new.self in
    let b = c.sweep.ensures.brought c.if-not-sweep.false in
    let was = subst (HasTicked c.loop-turn._turn x y) (sym c.plan.ensures.own) c.loop-turn.invariant.ticked in
    let read : c.new-reading.result ≡ c.now.result = search rules in
    let known = subst (λ (s : ClockSeen). IfSome s.readings (λ rs. Reads c.now.result rs z.readings)) c.wait_until.ensures c.now.ensures.read in
    record {
      lock = c.sweep.ensures.lock ∙ (c.plan.ensures.lock ∙ c.loop-turn.invariant.lock);
      seat = c.sweep.ensures.seat;
      ticked = ticked_more c.loop-turn._turn b.0 c.new-reading.result x y z (own_of c.plan.new.self.pass) (own_of c.sweep.new.self.pass) was
          (subst (λ (r : ℤ). IfSome y.readings (λ rs. Reads r rs z.readings)) (sym read) known)
          b.1;
    }
