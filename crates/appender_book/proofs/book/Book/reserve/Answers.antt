use Rattle.std.proofs.Common.{◌+◌, ◌≤◌, vec_len, vec_capacity, arith, subst, sym}
use Rattle.appender_book.specs.Series.{AreShort}
use Rattle.appender_book.proofs.book.Book.reserve.Goals as goal

pub invariant_of-self : goal.invariant_of-self
invariant_of-self c =
    let fits : vec_len c.make_room.new.entries + c.self.inside.room ≤ vec_capacity c.make_room.new.entries = omega arith in
    let short = subst (AreShort c.self.inside.longest) (sym c.make_room.ensures.entries) c.self.invariant.3 in
    (c.make_room.ensures.index, fits, c.make_room.ensures.index_room c.self.inside.room c.self.invariant.2, short)
