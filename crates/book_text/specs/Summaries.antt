-- What is said of a book in place of its text: how many entries it has of each kind, and the digest of that text.
use Rattle.std.specs.Prelude.{ℕ, Bool, true, false, List, ◌++◌, codes, length, count_by}
use Rattle.std.specs.Fmt.{decimal}
use Rattle.hex.specs.Hex.{encode_lower}
use Rattle.md5.specs.Md5.{md5}
use Rattle.report_samples.specs.declared.entries.Kind.{Kind}
use Rattle.report_samples.specs.declared.entries.Kind.TheVariants.{Scraped, Stale, Report, ReportStale}
use Rattle.report_samples.specs.declared.entries.Entry.{Entry}
use Rattle.book_text.specs.Texts.{book_text, kind_word}
use Rattle.book_text.specs.declared.summaries.Counts.{Counts}

abbrev pub is_kind : Kind → Kind → Bool
is_kind Scraped Scraped = true
is_kind Stale Stale = true
is_kind Report Report = true
is_kind ReportStale ReportStale = true
is_kind _ _ = false

-- how many entries are of a kind
unfoldable pub count_of : Kind → List Entry → ℕ
count_of kind entries = count_by (λ (e : Entry). is_kind kind e.kind) entries

-- the count of a kind
abbrev pub count_in : Counts → Kind → ℕ
count_in c Scraped = c.samples
count_in c Stale = c.stale
count_in c Report = c.reports
count_in c ReportStale = c.report_stale

-- `<word> <number>` and a line feed
abbrev pub number_line : List ℕ → ℕ → List ℕ
number_line word number = word ++ (codes " " ++ (decimal number ++ codes "\n"))

-- for each kind a line, by the word that the lines of its entries have
abbrev pub kind_lines : (Kind → ℕ) → List ℕ
kind_lines count =
    number_line (kind_word Scraped) (count Scraped)
    ++ (number_line (kind_word Stale) (count Stale)
    ++ (number_line (kind_word Report) (count Report) ++ number_line (kind_word ReportStale) (count ReportStale)))

-- `digest <hex>` and a line feed
abbrev pub digest_line : List ℕ → List ℕ
digest_line digest = codes "digest " ++ (encode_lower digest ++ codes "\n")

-- the summary: so many events, the entries, those of each kind, and the MD5 of the text of the book without verdicts, as 32 digits
unfoldable pub summary_text : ℕ → List Entry → List ℕ
summary_text events entries =
    number_line (codes "events") events
    ++ (number_line (codes "entries") (length entries) ++ (kind_lines (λ kind. count_of kind entries) ++ digest_line (md5 (book_text entries))))
