-- What several selectors see in a book at a moment ("Federation" of the Prometheus documentation: each `match[]` is an instant vector selector, and
-- with several of them the union of all matched series is selected).
use Rattle.std.specs.Prelude.{◌≡◌, ℤ, Bool, true, List, take}
use Rattle.std.specs.List.{list_any}
use Rattle.label_set.specs.declared.texts.Pair.{Pair}
use Rattle.report_samples.specs.declared.entries.Entry.{Entry}
use Rattle.instant_view.specs.Selectors.{selects}
use Rattle.instant_view.specs.Views.{AreRising, IsAmong, IsRow, StandsFor, ViewOf}
use Rattle.instant_view.specs.declared.matchers.SelectorParts.{SelectorParts}
use Rattle.instant_view.specs.declared.rows.ViewRow.{ViewRow}

-- a set is selected by one of these selectors at least
unfoldable pub selected_by_some : List SelectorParts → List Pair → Bool
selected_by_some selectors set = list_any (λ (selector : SelectorParts). selects selector set) selectors

-- what several selectors see in a book at a moment: the rows of the series that some of them select, each series once, by rising label set
pub record IsFederated (entries : List Entry) (selectors : List SelectorParts) (t : ℤ) (rows : List ViewRow) : Type 0 where
  pub rising : AreRising rows
  pub each : (row : ViewRow) → IsAmong rows row → (selected_by_some selectors row.series ≡ true) × IsRow entries t row
  pub all : (row : ViewRow) → selected_by_some selectors row.series ≡ true → IsRow entries t row → IsAmong rows row

-- the rows are what these selectors see at a moment in each book that a view stands for, among the entries that the view has gone over
abbrev pub IsFederationOf : ViewOf → List SelectorParts → ℤ → List ViewRow → Type 0
IsFederationOf view selectors t rows = (entries : List Entry) → StandsFor view entries → IsFederated (take view.count entries) selectors t rows
