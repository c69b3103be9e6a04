use Rattle.std.proofs.Common.{◌++◌, vec_len}
use Rattle.scrape_steps.specs.Endings.{waiting, HasRoom, HoldSame}
use Rattle.scrape_steps.proofs.endings.Endings.put_back.Given as goal

abbrev pub invariant-loop-ending : goal.invariant-loop-ending
invariant-loop-ending l = record {
  back : HoldSame (l.fn.due.items ++ waiting l.fn.self) (l.due.items ++ waiting l.self);
  room : HasRoom l.self (vec_len l.due);
}

abbrev pub decreases-loop-ending : goal.decreases-loop-ending
decreases-loop-ending l = vec_len l.due
