use Rattle.std.proofs.Common.{◌≡◌, ◌+◌}
use Rattle.std.specs.Prelude.{sum_by}
use Rattle.book_text.specs.Rooms.{label_room}
use Rattle.book_text.proofs.rooms.set_room.Given as goal

abbrev pub invariant-loop-label : goal.invariant-loop-label
invariant-loop-label l = l.room + sum_by label_room l.label-iterator ≡ sum_by label_room l.set
