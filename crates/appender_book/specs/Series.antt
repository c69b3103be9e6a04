-- The series of a book: the label sets of its entries, each once, in the order in which they first came. The number of a series is its place there.
use Rattle.std.specs.Prelude.{◌≡◌, ◌≤◌, ℕ, List, [], ◌∷◌, ◌++◌, map, length, if◌then◌else◌, slice_get, Option, Some, None}
use Rattle.std.specs.List.{fold, list_any}
use Rattle.std.specs.Ordering.{is_eq}
use Rattle.label_set.specs.Sets.{set_cmp}
use Rattle.label_set.specs.declared.texts.Pair.{Pair}
use Rattle.report_samples.specs.declared.entries.Entry.{Entry}

-- sets, and one more, if it isn't among them
abbrev pub with_set : List (List Pair) → List Pair → List (List Pair)
with_set sets set = if list_any (λ (s : List Pair). is_eq (set_cmp set s)) sets then sets else sets ++ set ∷ []

-- the series of these entries
unfoldable pub series_of : List Entry → List (List Pair)
series_of entries = fold with_set [] (map (λ (e : Entry). e.series) entries)

-- how many bytes a value has
abbrev pub value_len : Option (List ℕ) → ℕ
value_len None = 0
value_len (Some value) = length value

-- no value of these entries is longer than so many bytes
abbrev pub AreShort : ℕ → List Entry → Type 0
AreShort most entries = (k : ℕ) (e : Entry) → slice_get entries k ≡ Some e → value_len e.value ≤ most
