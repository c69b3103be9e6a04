-- Counts and text of the entries that are taken, one more at a time.
use Rattle.std.proofs.Common.{◌≡◌, ℕ, ◌+◌, ◌<◌, ◌≤◌, ◌^◌, List, [], ◌∷◌, ◌++◌, length, take, refl, sym, ap, ◌∙◌, arith, append-nil, append_assoc}
use Rattle.std.specs.Prelude.{Option, Some, slice_get, cond, sum_by}
use Rattle.std.specs.Option.{option_map_or}
use Rattle.std.proofs.lemmas.List.{length-take-le}
use Rattle.std.proofs.lemmas.List.Sums.{sum_by-append, count_by-le-length}
use Rattle.std.proofs.lemmas.Grind.{flat_map-append}
use Rattle.report_samples.specs.declared.entries.Kind.{Kind}
use Rattle.report_samples.specs.declared.entries.Kind.TheVariants.{Scraped, Stale, Report, ReportStale}
use Rattle.report_samples.specs.declared.entries.Entry.{Entry}
use Rattle.book_text.specs.Summaries.{is_kind, count_in, count_of, kind_lines}
use Rattle.book_text.specs.Texts.{entry_line, line_at, book_text}
use Rattle.book_text.proofs.PlaceLemmas.{one_more}

pub count_more : (xs : List Entry) (i : ℕ) (e : Entry) (k : Kind) → slice_get xs i ≡ Some e → count_of k (take (i + 1) xs) ≡ count_of k (take i xs) + cond (is_kind k e.kind) 1 0
unfolding count_of
count_more xs i e k at =
    let f : Entry → ℕ = λ (x : Entry). cond (is_kind k x.kind) 1 0 in
    let more : sum_by f (take (i + 1) xs) ≡ sum_by f (take i xs) + sum_by f (e ∷ []) = ap (sum_by f) (one_more xs i e at) ∙ sum_by-append f (take i xs) (e ∷ []) in
    let one : sum_by f (e ∷ []) ≡ f e = grind arith in
    more ∙ ap (λ n. sum_by f (take i xs) + n) one

pub count_few : (xs : List Entry) (i : ℕ) (k : Kind) → i ≤ length xs → i + 1 < 2 ^ 64 → count_of k (take i xs) + 1 < 2 ^ 64
unfolding count_of
count_few xs i k within small =
    let counted = count_by-le-length (λ (x : Entry). is_kind k x.kind) (take i xs) in
    let taken = length-take-le i xs within in
    omega (arith, small, counted, taken)

pub text_more : (xs : List Entry) (i : ℕ) (e : Entry) → slice_get xs i ≡ Some e → book_text (take (i + 1) xs) ≡ book_text (take i xs) ++ line_at xs i
text_more xs i e at =
    ap book_text (one_more xs i e at) ∙ flat_map-append entry_line (take i xs) (e ∷ [])
    ∙ ap (λ z. book_text (take i xs) ++ z) (append-nil (entry_line e) ∙ sym (ap (λ (o : Option Entry). option_map_or entry_line o []) at))

-- the lines of two counts that are one
pub lines_same : (f g : Kind → ℕ) → ((k : Kind) → f k ≡ g k) → kind_lines f ≡ kind_lines g
lines_same f g same = rw (same Scraped, same Stale, same Report, same ReportStale) refl

-- nothing is counted of no entries
pub count_none : (k : Kind) → count_in (record { samples = 0; stale = 0; reports = 0; report_stale = 0 }) k ≡ count_of k []
unfolding count_of
count_none Scraped = refl
count_none Stale = refl
count_none Report = refl
count_none ReportStale = refl

pub four_texts : (a b k d : List ℕ) → ((([] ++ a) ++ b) ++ k) ++ d ≡ a ++ (b ++ (k ++ d))
four_texts a b k d = append_assoc (a ++ b) k d ∙ append_assoc a b (k ++ d)
