use Rattle.std.proofs.Common.{◌≡◌, true, subst, w64, IfOk, rules}
use Rattle.std.proofs.lemmas.Int.{to_z-of_z}
use Rattle.instant_view.specs.Selectors.{selects}
use Rattle.instant_view.specs.Threads.{IsRowOf}
use Rattle.instant_view.proofs.RowLemmas.{selected_ok}
use Rattle.instant_view.proofs.threads.Threads.selected_row.Goals as goal

pub returns-clause-row : goal.returns-clause-row
returns-clause-row c =
    let kept = c.args.self.now.kept.items in
    let series = c.args.series.now in
    let sure : selects c.args.selecting.now series ≡ true = search rules in
    selected_ok kept c.args.moment series c.row_of_series.result c.args.selecting.now sure
    (subst (λ n. IfOk c.row_of_series.result (λ o. IsRowOf kept n series o)) (to_z-of_z w64 c.args.moment c.ranges.moment) (c.row_of_series.ensures series c.requires.last))
