-- How the last entry of a series by a moment is found among kept ones: from the last of all back, by links to earlier ones of the series.
-- An end is one more than a place in the list of kept entries, and 0 where there is no entry.
use Rattle.std.specs.Prelude.{◌≡◌, ℕ, zero, suc, ℤ, ◌+◌, ◌<◌, ◌≤◌, ◌<ℤ◌, ◌≤ℤ◌, Bool, true, false, List, [], ◌∷◌, length, slice_get, Option, Some, None, IsSome, unwrap_or, vec_len, vec_capacity, if◌then◌else◌, int_lt, codes}
use Rattle.std.specs.BTreeMap.{BTreeMap, get}
use Rattle.std.specs.BTreeSet.{BTreeSet, contains}
use Rattle.std.specs.Option.{option_map_or}
use Rattle.label_set.specs.Bytes.{bytes_cmp}
use Rattle.label_set.specs.Sets.{set_cmp}
use Rattle.label_set.specs.declared.texts.Pair.{Pair}
use Rattle.instant_view.specs.Selectors.{selects, value_in}
use Rattle.instant_view.specs.declared.matchers.SelectorParts.{SelectorParts}
use Rattle.instant_view.specs.declared.rows.Placed.{Placed}
use Rattle.instant_view.specs.declared.rows.ViewRow.{ViewRow}
use Rattle.instant_view.specs.declared.links.Link.{Link}
use Rattle.instant_view.specs.declared.threads.Threads.{Threads}
use Rattle.instant_view.specs.Views.{AreRising, IsAmong, IsSeen}

-- places rise, and so do the moments of each series
abbrev pub Rise : List Placed → Type 0
Rise kept =
    (i j : ℕ) (p q : Placed) → i < j → slice_get kept i ≡ Some p → slice_get kept j ≡ Some q →
    (p.place < q.place) × (p.entry.series ≡ q.entry.series → p.entry.moment <ℤ q.entry.moment)

-- the end of an entry of a series, or none
pub record IsEndOf (kept : List Placed) (series : List Pair) (end : ℕ) : Type 0 where
  pub here : (i : ℕ) → end ≡ suc i → (p : Placed) × (slice_get kept i ≡ Some p) × (p.entry.series ≡ series)

-- the end of the last entry of a series among the first n
pub record IsLastOf (kept : List Placed) (series : List Pair) (n end : ℕ) : Type 0 where
  pub is_end : IsEndOf kept series end
  pub within : end ≤ n
  pub none : (j : ℕ) (q : Placed) → end ≤ j → j < n → slice_get kept j ≡ Some q → ¬ (q.entry.series ≡ series)

-- the links of an entry of a series at a place: the last entry of it before, and an earlier one
pub record IsLink (kept : List Placed) (series : List Pair) (place : ℕ) (link : Link) : Type 0 where
  pub previous : IsLastOf kept series place link.previous
  pub jump : IsEndOf kept series link.jump
  pub back : link.jump ≤ place

-- each kept entry has its links
pub record AreLinked (kept : List Placed) (links : List Link) : Type 0 where
  pub counted : length links ≡ length kept
  pub linked : (i : ℕ) (p : Placed) (l : Link) → slice_get kept i ≡ Some p → slice_get links i ≡ Some l → IsLink kept p.entry.series i l

-- the end that is noted for a series
abbrev pub end_of : BTreeMap (List Pair) ℕ → List Pair → ℕ
end_of ends series = unwrap_or (get set_cmp ends series) 0

-- for each series, the end of its last entry is noted
abbrev pub AreEnds : List Placed → BTreeMap (List Pair) ℕ → Type 0
AreEnds kept ends = (series : List Pair) → IsLastOf kept series (length kept) (end_of ends series)

-- a set is among those that are noted for a name
abbrev pub is_named : BTreeMap (List ℕ) (BTreeSet (List Pair)) → List ℕ → List Pair → Bool
is_named named name set = option_map_or (λ (sets : BTreeSet (List Pair)). contains set_cmp sets set) (get bytes_cmp named name) false

-- each series with a place is noted for its name
abbrev pub AreNamed : BTreeMap (List Pair) ℕ → BTreeMap (List ℕ) (BTreeSet (List Pair)) → Type 0
AreNamed ends named = (series : List Pair) → IsSome (get set_cmp ends series) → is_named named (value_in series (codes "__name__")) series ≡ true

-- the index is that of these kept entries
pub record IsThreaded (threads : Threads) : Type 0 where
  pub rise : Rise threads.kept.items
  pub linked : AreLinked threads.kept.items threads.links.items
  pub ends : AreEnds threads.kept.items threads.ends
  pub named : AreNamed threads.ends threads.named

-- there is room for n more entries
pub record HasRoom (n : ℕ) (threads : Threads) : Type 0 where
  pub kept : vec_len threads.kept + n ≤ vec_capacity threads.kept
  pub links : vec_len threads.links + n ≤ vec_capacity threads.links

-- there is a place for the series of an entry
abbrev pub HasPlace : BTreeMap (List Pair) ℕ → Placed → Type 0
HasPlace ends p = IsSome (get set_cmp ends p.entry.series)

-- the links of the entry with an end
abbrev pub no_link : Link
no_link = record { previous = 0; jump = 0; depth = 0 }

abbrev pub link_at : List Link → ℕ → Link
link_at links zero = no_link
link_at links (suc place) = unwrap_or (slice_get links place) no_link

-- two jumps back from an end
abbrev pub twice_back : List Link → ℕ → ℕ
twice_back links end = (link_at links (link_at links end).jump).jump

-- there is an entry with an end, and its moment is later
abbrev pub is_later_one : ℤ → Option Placed → Bool
is_later_one t None = false
is_later_one t (Some p) = int_lt t p.entry.moment

abbrev pub is_later : List Placed → ℕ → ℤ → Bool
is_later kept zero t = false
is_later kept (suc place) t = is_later_one t (slice_get kept place)

-- an earlier end: that of the jump, where its entry is still later, and else the one before
abbrev pub step_back : List Placed → List Link → ℕ → ℤ → ℕ
step_back kept links end t =
    if is_later kept (link_at links end).jump t then (link_at links end).jump else (link_at links end).previous

-- the end of an entry of a series, behind which all of that series are later
pub record IsBackTo (kept : List Placed) (series : List Pair) (t : ℤ) (end : ℕ) : Type 0 where
  pub is_end : IsEndOf kept series end
  pub later : (j : ℕ) (q : Placed) → end ≤ j → slice_get kept j ≡ Some q → q.entry.series ≡ series → t <ℤ q.entry.moment

-- a row by the kept entries alone
pub record IsKeptRow (kept : List Placed) (t : ℤ) (row : ViewRow) : Type 0 where
  pub at : ℕ
  pub placed : Placed
  pub there : slice_get kept at ≡ Some placed
  pub place_is : placed.place ≡ row.place
  pub series_is : placed.entry.series ≡ row.series
  pub by : placed.entry.moment ≤ℤ t
  pub last : (j : ℕ) (q : Placed) → at < j → slice_get kept j ≡ Some q → q.entry.series ≡ row.series → t <ℤ q.entry.moment
  pub seen : IsSeen t placed.entry row

-- the row of an entry, if it is seen
abbrev pub IsSeenAs : ℤ → Placed → Option ViewRow → Type 0
IsSeenAs t p None = (row : ViewRow) → ¬ (IsSeen t p.entry row)
IsSeenAs t p (Some row) = (row.place ≡ p.place) × (row.series ≡ p.entry.series) × IsSeen t p.entry row

-- the row of a series, if it has one
abbrev pub IsRowOf : List Placed → ℤ → List Pair → Option ViewRow → Type 0
IsRowOf kept t series None = (row : ViewRow) → row.series ≡ series → ¬ (IsKeptRow kept t row)
IsRowOf kept t series (Some row) = (row.series ≡ series) × IsKeptRow kept t row

-- the same, where the series is selected
abbrev pub IsSelectedRow : List Placed → SelectorParts → ℤ → List Pair → Option ViewRow → Type 0
IsSelectedRow kept selector t series None =
    (row : ViewRow) → row.series ≡ series → selects selector series ≡ true → ¬ (IsKeptRow kept t row)
IsSelectedRow kept selector t series (Some row) = (row.series ≡ series) × (selects selector series ≡ true) × IsKeptRow kept t row

-- the rows of the selected series, by rising label set
pub record IsGathered (kept : List Placed) (selector : SelectorParts) (t : ℤ) (rows : List ViewRow) : Type 0 where
  pub rising : AreRising rows
  pub each : (row : ViewRow) → IsAmong rows row → (selects selector row.series ≡ true) × IsKeptRow kept t row
  pub all : (row : ViewRow) → selects selector row.series ≡ true → IsKeptRow kept t row → IsAmong rows row

-- the rows of the first n of these series, of which the selected ones have theirs
pub record IsGatheredTo (kept : List Placed) (selector : SelectorParts) (t : ℤ) (among : List (List Pair) × ℕ) (rows : List ViewRow) : Type 0 where
  pub rising : AreRising rows
  pub each : (row : ViewRow) → IsAmong rows row →
      (selects selector row.series ≡ true) × IsKeptRow kept t row × ((i : ℕ) × (i < among.1) × (slice_get among.0 i ≡ Some row.series))
  pub all :
      (i : ℕ) (row : ViewRow) → i < among.1 → slice_get among.0 i ≡ Some row.series → selects selector row.series ≡ true →
      IsKeptRow kept t row → IsAmong rows row

-- the rows of all of these series
abbrev pub IsGatheredOf : List Placed → SelectorParts → ℤ → List (List Pair) → List ViewRow → Type 0
IsGatheredOf kept selector t series rows = IsGatheredTo kept selector t (series, length series) rows

-- what may be there, as a list
abbrev pub listed : Option ViewRow → List ViewRow
listed None = []
listed (Some row) = row ∷ []

abbrev pub listed_placed : Option Placed → List Placed
listed_placed None = []
listed_placed (Some p) = p ∷ []
