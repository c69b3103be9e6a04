-- The texts of series that are kept, with one more.
use Rattle.std.proofs.Common.{◌≡◌, ◌⊎◌, inl, inr, ℕ, zero, suc, ◌+◌, ◌-◌, ◌<◌, ◌≤◌, List, [], ◌∷◌, ◌++◌, length, take, drop, refl, sym, ap, ◌∙◌, subst, arith}
use Rattle.std.specs.Prelude.{Option, Some, slice_get}
use Rattle.std.specs.Option.{option_map_or}
use Rattle.std.proofs.lemmas.List.{take-append-le, length-append, length-drop}
use Rattle.std.proofs.lemmas.Option.{same_Some, slice_get_within}
use Rattle.label_set.specs.SetText.{set_text}
use Rattle.label_set.specs.declared.texts.Pair.{Pair}
use Rattle.report_samples.specs.declared.entries.Entry.{Entry}
use Rattle.appender_book.specs.Series.{AreShort, series_of}
use Rattle.appender_book.proofs.SeriesLemmas.{slice_get_left, slice_get_end}
use Rattle.book_text.specs.declared.texts.Span.{Span}
use Rattle.book_text.specs.declared.texts.Texts.{Texts}
use Rattle.book_text.specs.declared.lines.Lines.{Lines}
use Rattle.book_text.specs.Kept.{AreReady, AreTexts, IsHead, IsKept, IsTextOf}
use Rattle.book_text.specs.Texts.{entry_line, line_at}
use Rattle.book_text.proofs.RoomLemmas.{line_len}

drop_front : {X : Type 0} (n : ℕ) (xs ys : List X) → n ≤ length xs → drop n (xs ++ ys) ≡ drop n xs ++ ys
drop_front zero xs ys le = refl
drop_front (suc n) [] ys le = absurd (omega arith)
drop_front (suc n) (x ∷ xs) ys le = drop_front n xs ys (omega arith)

drop_all : {X : Type 0} (xs ys : List X) → drop (length xs) (xs ++ ys) ≡ ys
drop_all [] ys = refl
drop_all (x ∷ xs) ys = drop_all xs ys

take_all_of : {X : Type 0} (xs : List X) → take (length xs) xs ≡ xs
take_all_of [] = refl
take_all_of (x ∷ xs) = ap (λ ys. x ∷ ys) (take_all_of xs)

-- what is kept stays where more is written behind
pub kept_more : (bytes more : List ℕ) (set : List Pair) (s : Span) → IsKept bytes set s → IsKept (bytes ++ more) set s
kept_more bytes more set s is le =
    let was = is le in
    let up : s.end ≤ length (bytes ++ more) = omega (arith, was.0, length-append bytes more) in
    let fits : s.end - s.start ≤ length (drop s.start bytes) = omega (arith, was.0, length-drop s.start bytes) in
    (up, ap (take (s.end - s.start)) (drop_front s.start bytes more (omega (arith, was.0, le))) ∙ take-append-le (s.end - s.start) (drop s.start bytes) more fits ∙ was.1)

-- what is written behind is kept
pub kept_new : (bytes : List ℕ) (set : List Pair) (s : Span) → s.start ≡ length bytes → s.end ≡ length (bytes ++ set_text set) → IsKept (bytes ++ set_text set) set s
kept_new bytes set s from to le =
    let t : List ℕ = set_text set in
    let long : length (bytes ++ t) ≡ length bytes + length t = length-append bytes t in
    let many : s.end - s.start ≡ length t = omega (arith, from, to, long) in
    let up : s.end ≤ length (bytes ++ t) = omega (arith, to) in
    (up, ap (λ n. take n (drop s.start (bytes ++ t))) many ∙ ap (λ n. take (length t) (drop n (bytes ++ t))) from ∙ ap (take (length t)) (drop_all bytes t) ∙ take_all_of t)

at_end : (n number : ℕ) → n < number + 1 → (n < number) ⊎ (n ≡ number)
at_end zero zero lt = inr refl
at_end zero (suc m) lt = inl (omega arith)
at_end (suc n) zero lt = absurd (omega arith)
at_end (suc n) (suc m) lt = by (at_end n m (omega arith))
  where
    by : (n < m) ⊎ (n ≡ m) → (suc n < suc m) ⊎ (suc n ≡ suc m)
    by (inl less) = inl (omega arith)
    by (inr same) = inr (ap suc same)

-- one text more is kept
pub texts_kept : (number : ℕ) (series : List (List Pair)) (old new : Texts) (set : List Pair) (span : Span) → AreTexts number series old → slice_get series number ≡ Some set →
    length old.spans.items ≡ number → new.spans.items ≡ old.spans.items ++ span ∷ [] → IsKept new.bytes.items set span →
    ((other : List Pair) (s : Span) → IsKept old.bytes.items other s → IsKept new.bytes.items other s) →
    old.longest ≤ new.longest → length (set_text set) ≤ new.longest → AreTexts (number + 1) series new
texts_kept number series old new set span are at count spans kept others wide long = record {
  kept = λ n s lt here sp there. by n s here sp (at_end n number lt) (ap (λ (xs : List Span). slice_get xs n) (sym spans) ∙ there);
  few = omega (arith, ap length spans ∙ length-append old.spans.items (span ∷ []), count);
  within = λ n s lt here. short n s here (at_end n number lt);
}
  where
    same_set : (n : ℕ) (s : List Pair) → slice_get series n ≡ Some s → n ≡ number → set ≡ s
    same_set n s here same = same_Some set s (sym at ∙ ap (slice_get series) (sym same) ∙ here)

    by : (n : ℕ) (s : List Pair) → slice_get series n ≡ Some s → (sp : Span) → (n < number) ⊎ (n ≡ number) → slice_get (old.spans.items ++ span ∷ []) n ≡ Some sp →
        IsKept new.bytes.items s sp
    by n s here sp (inl lt) there = others s sp (are.kept n s lt here sp (sym (slice_get_left old.spans.items span n (omega (arith, lt, count))) ∙ there))
    by n s here sp (inr same) there =
        let one : span ≡ sp = same_Some span sp (sym (slice_get_end old.spans.items span) ∙ ap (slice_get (old.spans.items ++ span ∷ [])) (count ∙ sym same) ∙ there) in
        subst (λ (x : Span). IsKept new.bytes.items s x) one (subst (λ (x : List Pair). IsKept new.bytes.items x span) (same_set n s here same) kept)

    short : (n : ℕ) (s : List Pair) → slice_get series n ≡ Some s → (n < number) ⊎ (n ≡ number) → length (set_text s) ≤ new.longest
    short n s here (inl lt) = omega (arith, wide, are.within n s lt here)
    short n s here (inr same) = subst (λ (x : List Pair). length (set_text x) ≤ new.longest) (same_set n s here same) long

-- one that isn't kept
pub texts_left : (number : ℕ) (series : List (List Pair)) (old new : Texts) (set : List Pair) → AreTexts number series old → slice_get series number ≡ Some set →
    new.spans.items ≡ old.spans.items → new.bytes.items ≡ old.bytes.items → old.longest ≤ new.longest → length (set_text set) ≤ new.longest → AreTexts (number + 1) series new
texts_left number series old new set are at spans bytes wide long = record {
  kept = λ n s lt here sp there. by n s here sp (at_end n number lt) (ap (λ (xs : List Span). slice_get xs n) (sym spans) ∙ there);
  few = let had = are.few in omega (arith, ap length spans, had);
  within = λ n s lt here. short n s here (at_end n number lt);
}
  where
    by : (n : ℕ) (s : List Pair) → slice_get series n ≡ Some s → (sp : Span) → (n < number) ⊎ (n ≡ number) → slice_get old.spans.items n ≡ Some sp → IsKept new.bytes.items s sp
    by n s here sp (inl lt) there = subst (λ (bs : List ℕ). IsKept bs s sp) (sym bytes) (are.kept n s lt here sp there)
    by n s here sp (inr same) there = absurd (let had = are.few in omega (arith, slice_get_within old.spans.items n sp there, had, same))

    short : (n : ℕ) (s : List Pair) → slice_get series n ≡ Some s → (n < number) ⊎ (n ≡ number) → length (set_text s) ≤ new.longest
    short n s here (inl lt) = omega (arith, wide, are.within n s lt here)
    short n s here (inr same) = subst (λ (x : List Pair). length (set_text x) ≤ new.longest) (same_Some set s (sym at ∙ ap (slice_get series) (sym same) ∙ here)) long

-- lines can be written with the texts, a head and the longest value
pub ready_of : (entries : List Entry) (lines : Lines) (value : ℕ) → AreTexts (length (series_of entries)) (series_of entries) lines.texts → IsHead lines.head →
    AreShort value entries → lines.texts.longest + value + 100 ≤ lines.most → AreReady entries lines
ready_of entries lines value texts head short most = record {
  texts = texts;
  head = head;
  within = λ k n e at here few.
      omega (arith, most, line_len e lines.texts.longest value (texts.within n e.series (slice_get_within (series_of entries) n e.series here) here) (short k e at) few);
}

pub text_of : (entries : List Entry) (lines : Lines) (number : ℕ) (set : List Pair) → AreReady entries lines → slice_get (series_of entries) number ≡ Some set →
    IsTextOf lines.texts number set
text_of entries lines number set ready here = ready.texts.kept number set (slice_get_within (series_of entries) number set here) here

pub line_here : (entries : List Entry) (k : ℕ) (e : Entry) → slice_get entries k ≡ Some e → line_at entries k ≡ entry_line e
line_here entries k e at = ap (λ (o : Option Entry). option_map_or entry_line o []) at
