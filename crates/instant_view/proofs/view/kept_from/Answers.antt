use Rattle.std.proofs.Common.{◌∙◌, ◌++◌, List, ap, sym, append_assoc}
use Rattle.instant_view.specs.declared.rows.Placed.{Placed}
use Rattle.instant_view.specs.Views.{kept_among, kept_at}
use Rattle.instant_view.proofs.ViewLemmas.{among_more}
use Rattle.instant_view.proofs.view.kept_from.Goals as goal

pub loop-place-preserved : goal.loop-place-preserved
loop-place-preserved c =
    let es = c.args.book.now.entries in
    among_more es c.loop-place.place ∙ ap (λ (l : List Placed). l ++ kept_at es c.loop-place.place) c.loop-place.invariant
    ∙ append_assoc (kept_among es c.args.from) c.loop-place.fresh.items (kept_at es c.loop-place.place)
    ∙ ap (λ (l : List Placed). kept_among es c.args.from ++ l) (ap (λ (l : List Placed). c.loop-place.fresh.items ++ l) (sym c.in_ok-placed.ensures) ∙ sym c.in_ok-push_kept.ensures)
