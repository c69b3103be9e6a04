use Rattle.std.proofs.Common.{◌≡◌, ◌+◌, ◌≤◌, ◌++◌, heap_len, vec_len, vec_capacity}
use Rattle.std.specs.Prelude.{filter}
use Rattle.std.specs.BinaryHeap.{heap_capacity}
use Rattle.scrape_steps.specs.Endings.{is_due, is_early, waiting, HoldSame}
use Rattle.scrape_steps.proofs.endings.Endings.take_due.Given as goal

abbrev pub invariant-loop-ending : goal.invariant-loop-ending
invariant-loop-ending l = record {
  due : HoldSame (filter (is_due l.moment) (waiting l.initial.self)) (l.due.items ++ filter (is_due l.moment) (waiting l.self));
  left : HoldSame (filter (is_early l.moment) (waiting l.initial.self)) (filter (is_early l.moment) (waiting l.self));
  len : heap_len l.self.order + vec_len l.due ≡ heap_len l.initial.self.order;
  capacity : heap_capacity l.self.order ≡ heap_capacity l.initial.self.order;
  fits : heap_len l.initial.self.order ≤ vec_capacity l.due;
}

abbrev pub decreases-loop-ending : goal.decreases-loop-ending
decreases-loop-ending l = heap_len l.self.order
