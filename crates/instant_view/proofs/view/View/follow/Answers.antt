use Rattle.std.proofs.Common.{◌≡◌, ◌∙◌, ◌++◌, List, ap, sym, subst, length}
use Rattle.instant_view.specs.declared.rows.Placed.{Placed}
use Rattle.instant_view.specs.Threads.{Rise}
use Rattle.instant_view.specs.Views.{ViewOf, kept_among}
use Rattle.instant_view.proofs.ViewLemmas.{kept_rise}
use Rattle.instant_view.proofs.view.View.follow.Goals as goal

pub take_in-requires-clause-rise : goal.take_in-requires-clause-rise
take_in-requires-clause-rise c =
    let entries = c.args.book.now.entries in
    let fresh = c.in_ok-fresh.fresh.items in
    let kept : c.make_room.new.self.kept.items ≡ kept_among entries c.args.self.now.count = c.in_ok-make_room.ensures.kept ∙ ap (λ (v : ViewOf). v.kept) c.self.view_is ∙ c.requires.kept in
    let all : c.make_room.new.self.kept.items ++ fresh ≡ kept_among entries (length entries) =
    ap (λ (l : List Placed). l ++ fresh) (kept ∙ ap (λ (v : ViewOf). kept_among entries v.count) (sym c.self.view_is)) ∙ sym c.in_ok-fresh.ensures in
    subst Rise (sym all) (kept_rise entries c.laws_of_verdicts.ensures.rise (length entries))
