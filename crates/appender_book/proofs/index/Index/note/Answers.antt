use Rattle.std.proofs.Common.{vec_len, vec_capacity, arith, ap}
use Rattle.appender_book.proofs.index.Index.note.Goals as goal

pub returns-then-follows-clause-room : goal.returns-then-follows-clause-room
returns-then-follows-clause-room c = λ n room. c.follow.ensures.room n (record {
  verdicts =
      let had = room.verdicts in
      let same = ap vec_len c.enter-place.ensures.verdicts in
      let kept = ap vec_capacity c.enter-place.ensures.verdicts in
      let len = c.push_reserved.ensures.len in
      let capacity = c.push_reserved.ensures.capacity in
      omega arith;
  places =
      let had = room.places in
      let same = ap vec_len c.enter-place.ensures.places in
      let kept = ap vec_capacity c.enter-place.ensures.places in
      let len = c.push_reserved-2.ensures.len in
      let capacity = c.push_reserved-2.ensures.capacity in
      omega arith;
  series =
      let left = c.enter-place.ensures.room n room.series in
      record { ends = left.ends; earlier = left.earlier; next = left.next; few = left.few; last = left.last };
})

pub returns-else-follows-clause-room : goal.returns-else-follows-clause-room
returns-else-follows-clause-room c = λ n room. record {
  verdicts =
      let had = room.verdicts in
      let same = ap vec_len c.enter-place.ensures.verdicts in
      let kept = ap vec_capacity c.enter-place.ensures.verdicts in
      let len = c.push_reserved.ensures.len in
      let capacity = c.push_reserved.ensures.capacity in
      omega arith;
  places =
      let had = room.places in
      let same = ap vec_len c.enter-place.ensures.places in
      let kept = ap vec_capacity c.enter-place.ensures.places in
      let len = c.push_reserved-2.ensures.len in
      let capacity = c.push_reserved-2.ensures.capacity in
      omega arith;
  series =
      let left = c.enter-place.ensures.room n room.series in
      record { ends = left.ends; earlier = left.earlier; next = left.next; few = left.few; last = left.last };
}
