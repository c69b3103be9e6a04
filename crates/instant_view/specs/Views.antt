-- What a view keeps of a book, and what a selector sees in a book at a moment ("Querying basics" of the Prometheus documentation, staleness).
use Rattle.std.specs.Prelude.{◌≡◌, ℕ, zero, suc, ℤ, pos, ◌-ℤ◌, ◌<◌, ◌≤◌, ◌<ℤ◌, ◌≤ℤ◌, true, false, List, [], ◌∷◌, ◌++◌, length, take, slice_get, Option, Some, None, if◌then◌else◌}
use Rattle.std.specs.declared.cmp.Ordering.TheVariants.{Less}
use Rattle.label_set.specs.Sets.{set_cmp}
use Rattle.label_set.specs.declared.texts.Pair.{Pair}
use Rattle.report_samples.specs.Kinds.{marks_end}
use Rattle.report_samples.specs.declared.entries.Entry.{Entry}
use Rattle.appender_book.specs.Index.{is_kept_one}
use Rattle.appender_book.specs.Verdicts.{verdict_at}
use Rattle.appender_book.specs.declared.verdicts.Verdict.TheVariants.{Kept}
use Rattle.instant_view.specs.Selectors.{selects}
use Rattle.instant_view.specs.declared.matchers.SelectorParts.{SelectorParts}
use Rattle.instant_view.specs.declared.rows.Placed.{Placed}
use Rattle.instant_view.specs.declared.rows.ViewRow.{ViewRow}

-- what contracts see of a view: how many entries of a book it has gone over, and those of them that are kept, with their places
pub record ViewOf : Type 0 where
  pub count : ℕ
  pub kept : List Placed

-- an entry with its place, where there is one
abbrev pub placed_at : ℕ → Option Entry → List Placed
placed_at place None = []
placed_at place (Some e) = record { place = place; entry = e } ∷ []

-- the entry at a place of a book, where a store keeps it
unfoldable pub kept_at : List Entry → ℕ → List Placed
kept_at entries place = if is_kept_one (verdict_at entries place) then placed_at place (slice_get entries place) else []

-- the kept entries among the first n of a book, with their places
unfoldable pub kept_among : List Entry → ℕ → List Placed
kept_among entries zero = []
kept_among entries (suc n) = kept_among entries n ++ kept_at entries n

-- a view stands for the book of these entries: it has gone over no more than they are, and has those that are kept
pub record StandsFor (view : ViewOf) (entries : List Entry) : Type 0 where
  pub within : view.count ≤ length entries
  pub kept : view.kept ≡ kept_among entries view.count

-- a view stands for a book, whatever is appended later
abbrev pub ViewsStand : Type 0
ViewsStand = (view : ViewOf) (entries later : List Entry) → StandsFor view entries → StandsFor view (entries ++ later)

-- an entry is the last of a series, at this place of a book, that a store keeps and whose moment isn't later than t
pub record IsLastBy (entries : List Entry) (t : ℤ) (series : List Pair) (place : ℕ) (e : Entry) : Type 0 where
  pub entry : slice_get entries place ≡ Some e
  pub kept : verdict_at entries place ≡ Some Kept
  pub series_is : e.series ≡ series
  pub by : e.moment ≤ℤ t
  pub last :
      (later : ℕ) (d : Entry) → place < later → slice_get entries later ≡ Some d → verdict_at entries later ≡ Some Kept →
      d.series ≡ series → t <ℤ d.moment

-- an entry is seen at a moment t, and this is its row: it is no marker, and its moment is above t - 300000
pub record IsSeen (t : ℤ) (e : Entry) (row : ViewRow) : Type 0 where
  pub young : (t -ℤ pos 300000) <ℤ e.moment
  pub no_marker : marks_end e.kind ≡ false
  pub moment_is : row.moment ≡ e.moment
  pub value_is : e.value ≡ Some row.value

-- a row of a book at a moment: the last entry of its series by then, which is seen
abbrev pub IsRow : List Entry → ℤ → ViewRow → Type 0
IsRow entries t row = (e : Entry) × IsLastBy entries t row.series row.place e × IsSeen t e row

-- a row is one of these
abbrev pub IsAmong : List ViewRow → ViewRow → Type 0
IsAmong rows row = (i : ℕ) × (slice_get rows i ≡ Some row)

-- the label sets of rows rise
abbrev pub AreRising : List ViewRow → Type 0
AreRising rows = (i j : ℕ) (r s : ViewRow) → i < j → slice_get rows i ≡ Some r → slice_get rows j ≡ Some s → set_cmp r.series s.series ≡ Less

-- what a selector sees in a book at a moment: the rows of the series that it selects, by rising label set
pub record IsInstantView (entries : List Entry) (selector : SelectorParts) (t : ℤ) (rows : List ViewRow) : Type 0 where
  pub rising : AreRising rows
  pub each : (row : ViewRow) → IsAmong rows row → (selects selector row.series ≡ true) × IsRow entries t row
  pub all : (row : ViewRow) → selects selector row.series ≡ true → IsRow entries t row → IsAmong rows row

-- the rows are what a selector sees at a moment in each book that a view stands for, among the entries that the view has gone over
abbrev pub IsViewOf : ViewOf → SelectorParts → ℤ → List ViewRow → Type 0
IsViewOf view selector t rows = (entries : List Entry) → StandsFor view entries → IsInstantView (take view.count entries) selector t rows
