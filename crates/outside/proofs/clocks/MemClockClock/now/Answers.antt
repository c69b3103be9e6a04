use Rattle.outside.proofs.ClockLemmas.{later_keeps}
use Rattle.outside.proofs.clocks.MemClockClock.now.Goals as goal

pub invariant_of-self : goal.invariant_of-self
invariant_of-self c = rw c.take_reading.ensures.later (later_keeps c.self.inside.readings.items c.self.invariant)
