use Rattle.std.proofs.Common.{◌≡◌, ℕ, ◌+◌, ◌-◌, ◌≤◌, vec_len, vec_capacity, arith, subst, sym, ap}
use Rattle.appender_book.specs.Books.{BookView}
use Rattle.appender_book.specs.Index.{HasRoom}
use Rattle.appender_book.specs.Series.{AreShort}
use Rattle.appender_book.proofs.NumberLemmas.{short_more}
use Rattle.appender_book.proofs.book.Book.append.Goals as goal

pub invariant_of-self : goal.invariant_of-self
invariant_of-self c =
    let spare = ap (λ (v : BookView). v.spare) c.self.view_is in
    let e : c.self.inside.room - 1 + 1 ≡ c.self.inside.room = omega arith in
    let fits : vec_len c.push.new.entries + (c.self.inside.room - 1) ≤ vec_capacity c.push.new.entries = omega arith in
    let most = c.self.inside.longest in
    let more = c.max-self-inside.result in
    let short = subst (AreShort more) (sym c.push.ensures.entries) (short_more c.self.inside.entries.items c.args.entry most more c.self.invariant.3 (omega arith) (omega arith)) in
    (c.push.ensures.index, fits, c.push.ensures.index_room (c.self.inside.room - 1) (subst (λ (n : ℕ). HasRoom n c.self.inside.index) (sym e) c.self.invariant.2), short)
