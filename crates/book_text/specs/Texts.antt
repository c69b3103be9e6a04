-- The printed book: one line for each entry.
use Rattle.std.specs.Prelude.{Bool, true, false, List, [], ◌∷◌, ◌++◌, ℕ, ℤ, flat_map, slice_get, codes, Option, Some, None}
use Rattle.std.specs.Fmt.{decimal, signed_decimal}
use Rattle.std.specs.Option.{option_map_or}
use Rattle.appender_book.specs.Verdicts.{verdict_at, verdict_behind}
use Rattle.appender_book.specs.declared.verdicts.Verdict.{Verdict}
use Rattle.appender_book.specs.declared.verdicts.Verdict.TheVariants.{Kept, OutOfOrder, Duplicate, Same}
use Rattle.label_set.specs.SetText.{set_text}
use Rattle.report_samples.specs.declared.entries.Kind.{Kind}
use Rattle.report_samples.specs.declared.entries.Kind.TheVariants.{Scraped, Stale, Report, ReportStale}
use Rattle.report_samples.specs.declared.entries.Entry.{Entry}

-- the word of a kind
abbrev pub kind_word : Kind → List ℕ
kind_word Scraped = codes "sample"
kind_word Stale = codes "stale"
kind_word Report = codes "report"
kind_word ReportStale = codes "report-stale"

-- a blank and the value of a sample; a marker has none
abbrev pub value_after : Option (List ℕ) → List ℕ
value_after None = []
value_after (Some value) = codes " " ++ value

-- `<moment> <life> <word> `
abbrev pub head_text : ℤ → ℕ → Kind → List ℕ
head_text moment life kind = signed_decimal moment ++ (codes " " ++ (decimal life ++ (codes " " ++ (kind_word kind ++ codes " "))))

abbrev pub entry_head : Entry → List ℕ
entry_head e = head_text e.moment e.life e.kind

-- the set, the value and a line feed
abbrev pub entry_tail : Entry → List ℕ
entry_tail e = set_text e.series ++ (value_after e.value ++ codes "\n")

-- `<moment> <life> <word> <set>`, for samples a blank and the value, and a line feed
unfoldable pub entry_line : Entry → List ℕ
entry_line e = entry_head e ++ entry_tail e

-- the lines of a book
abbrev pub book_text : List Entry → List ℕ
book_text entries = flat_map entry_line entries

-- the verdict and a blank, in front of a line
abbrev pub verdict_mark : Verdict → List ℕ
verdict_mark Kept = codes "kept "
verdict_mark OutOfOrder = codes "outoforder "
verdict_mark Duplicate = codes "duplicate "
verdict_mark Same = codes "same "

-- the line of an entry with the verdict in front, where it stands behind these, of which the last comes first
abbrev pub kept_line : List Entry → Entry → List ℕ
kept_line earlier e = verdict_mark (verdict_behind earlier e) ++ entry_line e

-- such lines of entries that stand behind these
unfoldable pub kept_behind : List Entry → List Entry → List ℕ
kept_behind earlier [] = []
kept_behind earlier (e ∷ entries) = kept_line earlier e ++ kept_behind (e ∷ earlier) entries

-- the lines of a book with the verdicts in front
abbrev pub kept_text : List Entry → List ℕ
kept_text entries = kept_behind [] entries

-- what is printed of a book, with verdicts or without
abbrev pub printed : Bool → List Entry → List ℕ
printed false entries = book_text entries
printed true entries = kept_text entries

-- what stands in front of the line at a place
abbrev pub mark_at : Bool → List Entry → ℕ → List ℕ
mark_at false entries place = []
mark_at true entries place = option_map_or verdict_mark (verdict_at entries place) []

-- the line of the entry at a place
abbrev pub line_at : List Entry → ℕ → List ℕ
line_at entries place = option_map_or entry_line (slice_get entries place) []
