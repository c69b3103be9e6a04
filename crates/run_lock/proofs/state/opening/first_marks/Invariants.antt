use Rattle.std.proofs.Common.{◌≡◌, ◌<◌, ◌+◌, replicate, vec_len, vec_capacity}
use Rattle.run_lock.specs.declared.marks.Mark.TheVariants.{Before}
use Rattle.run_lock.proofs.state.opening.first_marks.Given as goal

abbrev pub invariant-loop-event : goal.invariant-loop-event
invariant-loop-event l = record {
  items : l.marks.items ≡ replicate l._event Before;
  len : vec_len l.marks ≡ l._event;
  room : l.count + 1 < vec_capacity l.marks;
}
