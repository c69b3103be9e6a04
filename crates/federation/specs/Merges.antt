-- Two lists of rows made into one that has a row for each series of either. The rows of each list rise by label set.
use Rattle.std.specs.Prelude.{◌≡◌, ◌⊎◌, ◌-◌, List, [], length, slice_get, Option, Some, None}
use Rattle.std.specs.declared.cmp.Ordering.{Ordering}
use Rattle.std.specs.declared.cmp.Ordering.TheVariants.{Less, Greater}
use Rattle.label_set.specs.Sets.{set_cmp}
use Rattle.label_set.specs.declared.texts.Pair.{Pair}
use Rattle.instant_view.specs.Views.{AreRising, IsAmong}
use Rattle.instant_view.specs.declared.rows.ViewRow.{ViewRow}

-- a row is among one list or another
abbrev pub IsOf : List ViewRow → List ViewRow → ViewRow → Type 0
IsOf left right row = IsAmong left row ⊎ IsAmong right row

-- rows have one of a series
abbrev pub HasSeries : List ViewRow → List Pair → Type 0
HasSeries rows series = (row : ViewRow) × IsAmong rows row × (row.series ≡ series)

-- rows of two lists, one for each series, by rising label set
pub record IsMerged (left right rows : List ViewRow) : Type 0 where
  pub rising : AreRising rows
  pub each : (row : ViewRow) → IsAmong rows row → IsOf left right row
  pub all : (row : ViewRow) → IsOf left right row → HasSeries rows row.series

-- the last row, if there is one
abbrev pub last_row : List ViewRow → Option ViewRow
last_row rows = slice_get rows (length rows - 1)

-- the order of two rows by label set, where no row is below each
abbrev pub row_order : Option ViewRow → Option ViewRow → Ordering
row_order None right = Less
row_order (Some left) None = Greater
row_order (Some left) (Some right) = set_cmp left.series right.series

-- some rows of a list are left, all below a row, and each other row of it has the series of that row
pub record IsLeftBelow (row : ViewRow) (rows fewer : List ViewRow) : Type 0 where
  pub rising : AreRising fewer
  pub still : (other : ViewRow) → IsAmong fewer other → IsAmong rows other
  pub below : (other : ViewRow) → IsAmong fewer other → set_cmp other.series row.series ≡ Less
  pub taken : (other : ViewRow) → IsAmong rows other → IsAmong fewer other ⊎ (other.series ≡ row.series)

-- a row with the greatest label set was taken from two lists, and with it each row of its series
pub record IsLast (left right fewer_left fewer_right : List ViewRow) (row : ViewRow) : Type 0 where
  pub from : IsOf left right row
  pub left_below : IsLeftBelow row left fewer_left
  pub right_below : IsLeftBelow row right fewer_right

-- what was taken from two rising lists: such a row, or nothing where there is no row
abbrev pub IsTaken : List ViewRow → List ViewRow → List ViewRow → List ViewRow → Option ViewRow → Type 0
IsTaken left right fewer_left fewer_right None = (left ≡ []) × (right ≡ [])
IsTaken left right fewer_left fewer_right (Some row) = AreRising left → AreRising right → IsLast left right fewer_left fewer_right row

-- two lists of which some rows are still to be merged, and the merged rows above them
pub record IsMerging (left right fewer_left fewer_right rows : List ViewRow) : Type 0 where
  pub left_rising : AreRising fewer_left
  pub right_rising : AreRising fewer_right
  pub rising : AreRising rows
  pub below : (other row : ViewRow) → IsOf fewer_left fewer_right other → IsAmong rows row → set_cmp other.series row.series ≡ Less
  pub still : (row : ViewRow) → IsOf fewer_left fewer_right row → IsOf left right row
  pub each : (row : ViewRow) → IsAmong rows row → IsOf left right row
  pub all : (row : ViewRow) → IsOf left right row → IsOf fewer_left fewer_right row ⊎ HasSeries rows row.series
