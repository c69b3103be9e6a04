-- The texts of series that are kept while a book is printed, and the head of the last line.
use Rattle.std.specs.Prelude.{◌≡◌, ◌≤◌, ◌<◌, ◌+◌, ℕ, List, Some, length, slice_get, slice_range, vec_capacity}
use Rattle.std.specs.Fmt.{decimal, signed_decimal}
use Rattle.appender_book.specs.Series.{series_of}
use Rattle.label_set.specs.SetText.{set_text}
use Rattle.label_set.specs.declared.texts.Pair.{Pair}
use Rattle.report_samples.specs.declared.entries.Entry.{Entry}
use Rattle.book_text.specs.Texts.{entry_line, head_text}
use Rattle.book_text.specs.declared.texts.Span.{Span}
use Rattle.book_text.specs.declared.texts.Texts.{Texts}
use Rattle.book_text.specs.declared.heads.Head.{Head}
use Rattle.book_text.specs.declared.lines.Lines.{Lines}

-- what stands between bounds that have their order is the text of a set
abbrev pub IsKept : List ℕ → List Pair → Span → Type 0
IsKept bytes set span = span.start ≤ span.end → (span.end ≤ length bytes) × (slice_range bytes span.start span.end ≡ set_text set)

-- what is kept under a number, if anything is, is the text of this set
abbrev pub IsTextOf : Texts → ℕ → List Pair → Type 0
IsTextOf texts number set = (span : Span) → slice_get texts.spans.items number ≡ Some span → IsKept texts.bytes.items set span

-- the texts are those of the first of these series, so many
pub record AreTexts (count : ℕ) (series : List (List Pair)) (texts : Texts) : Type 0 where
  pub kept : (number : ℕ) (set : List Pair) → number < count → slice_get series number ≡ Some set → IsTextOf texts number set
  pub few : length texts.spans.items ≤ count
  pub within : (number : ℕ) (set : List Pair) → number < count → slice_get series number ≡ Some set → length (set_text set) ≤ texts.longest

-- a head is that of its moment, life and kind, and has room for any other
pub record IsHead (head : Head) : Type 0 where
  pub text : head.bytes.items ≡ head_text head.moment head.life head.kind
  pub room : 128 ≤ vec_capacity head.bytes

-- lines of these entries can be written
pub record AreReady (entries : List Entry) (lines : Lines) : Type 0 where
  pub texts : AreTexts (length (series_of entries)) (series_of entries) lines.texts
  pub head : IsHead lines.head
  pub within : (k number : ℕ) (e : Entry) → slice_get entries k ≡ Some e → slice_get (series_of entries) number ≡ Some e.series →
      length (signed_decimal e.moment) + length (decimal e.life) ≤ 79 → length (entry_line e) ≤ lines.most
