use Rattle.std.proofs.Common.{◌++◌, ◌+◌, ◌≤◌, take, length, heap_len}
use Rattle.std.specs.BinaryHeap.{heap_capacity}
use Rattle.scrape_steps.specs.Endings.{endings_at, waiting, HoldSame}
use Rattle.scrape_steps.proofs.closings.push_endings.Given as goal

abbrev pub invariant-loop-number : goal.invariant-loop-number
invariant-loop-number l = record {
  joined : HoldSame (endings_at l.lives (take l.number-index l.numbers) ++ waiting l.initial.endings) (waiting l.endings);
  room : heap_len l.endings.order + length l.numbers ≤ heap_capacity l.endings.order + l.number-index;
}
