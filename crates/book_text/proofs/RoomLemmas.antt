-- The line of an entry is no longer than the room for it.
use Rattle.std.proofs.Common.{◌≡◌, ◌≤◌, ◌<◌, ◌+◌, ◌^◌, ℕ, ℤ, Bool, true, false, List, [], ◌∷◌, ◌++◌, length, drop, refl, ap, ◌∙◌, arith, codes, pos, negsuc, suc, w64, FitsSigned}
use Rattle.std.specs.Prelude.{Option, Some, None, sum_by, not, find, if◌then◌else◌, ◌==◌, cond}
use Rattle.std.specs.Option.{option_map, option_map_or}
use Rattle.std.specs.Fmt.{decimal, signed_decimal}
use Rattle.std.specs.Str.{bytes_eq}
use Rattle.std.proofs.lemmas.List.{length-append, length-drop}
use Rattle.std.proofs.lemmas.List.Concat.{flat_map-cons}
use Rattle.std.proofs.lemmas.List.Sums.{sum_by-cons}
use Rattle.itoa.proofs.Decimal.{length_wide}
use Rattle.label_set.specs.Bytes.{is_label_name, is_metric_name}
use Rattle.label_set.specs.SetText.{escaped_byte, escaped, metric_label, other_labels, name_text, label_text, labels_after, in_braces, braces_if_any, text_with_name, set_text}
use Rattle.label_set.specs.Sets.{value_of}
use Rattle.label_set.specs.declared.texts.Pair.{Pair}
use Rattle.report_samples.specs.declared.entries.Entry.{Entry}
use Rattle.report_samples.specs.declared.entries.Kind.{Kind}
use Rattle.report_samples.specs.declared.entries.Kind.TheVariants.{Scraped, Stale, Report, ReportStale}
use Rattle.appender_book.specs.Series.{value_len}
use Rattle.book_text.specs.Rooms.{label_room}
use Rattle.book_text.specs.Texts.{kind_word, value_after, head_text, entry_head, entry_tail, entry_line}

-- an escape has two bytes at most
escape_by : (b : ℕ) (x y z : Bool) → length (if x then codes "\\\\" else if y then codes "\\\"" else if z then codes "\\n" else b ∷ []) ≤ 2
escape_by b true y z = omega arith
escape_by b false true z = omega arith
escape_by b false false true = omega arith
escape_by b false false false = omega arith

escape_len : (b : ℕ) → length (escaped_byte b) ≤ 2
unfolding escaped_byte
escape_len b = escape_by b (b == 92) (b == 34) (b == 10)

escaped_len : (bs : List ℕ) → length (escaped bs) ≤ length bs + length bs
escaped_len [] = omega arith
escaped_len (b ∷ bs) =
    let more : length (escaped (b ∷ bs)) ≡ length (escaped_byte b) + length (escaped bs) =
    ap length (flat_map-cons escaped_byte b bs) ∙ length-append (escaped_byte b) (escaped bs) in
    omega (arith, more, escape_len b, escaped_len bs)

name_by : (name : List ℕ) (b : Bool) → length (if b then name else codes "\"" ++ (escaped name ++ codes "\"")) ≤ length name + length name + 2
name_by name true = omega arith
name_by name false = omega (arith, length-append (escaped name) (codes "\""), escaped_len name)

name_len : (name : List ℕ) → length (name_text name) ≤ length name + length name + 2
name_len name = name_by name (is_label_name name)

label_len : (p : Pair) → length (codes "," ++ label_text p) ≤ label_room p
label_len p =
    let name : length (label_text p) ≡ length (name_text p.name) + length (codes "=\"" ++ (escaped p.value ++ codes "\"")) =
    length-append (name_text p.name) (codes "=\"" ++ (escaped p.value ++ codes "\"")) in
    let value : length (escaped p.value ++ codes "\"") ≡ length (escaped p.value) + length (codes "\"") = length-append (escaped p.value) (codes "\"") in
    omega (arith, name, value, name_len p.name, escaped_len p.value)

more_labels : (p : Pair) (ps : List Pair) → length (labels_after (p ∷ ps)) ≡ length (codes "," ++ label_text p) + length (labels_after ps)
more_labels p ps =
    ap length (flat_map-cons (λ (q : Pair). codes "," ++ label_text q) p ps) ∙ length-append (codes "," ++ label_text p) (labels_after ps)

-- the labels without the metric's name, and that name twice beside them
others_by : (p : Pair) (ps : List Pair) (b : Bool) → length (labels_after (other_labels ps)) ≤ sum_by label_room ps →
    length (labels_after (cond b (p ∷ other_labels ps) (other_labels ps))) ≤ label_room p + sum_by label_room ps
others_by p ps true h = omega (arith, h, more_labels p (other_labels ps), label_len p)
others_by p ps false h = omega (arith, h)

others_len : (ps : List Pair) → length (labels_after (other_labels ps)) ≤ sum_by label_room ps
others_len [] = omega arith
others_len (p ∷ ps) = rw (sum_by-cons label_room p ps) (others_by p ps (not (bytes_eq p.name metric_label)) (others_len ps))

abbrev IsNamed : List Pair → List ℕ → Type 0
IsNamed ps name = (length name + length name) + length (labels_after (other_labels ps)) ≤ sum_by label_room ps

named_by : (p : Pair) (ps : List Pair) (name : List ℕ) (b : Bool) → ((n : List ℕ) → value_of ps metric_label ≡ Some n → IsNamed ps n) →
    option_map (λ (q : Pair). q.value) (cond b (Some p) (find (λ (q : Pair). bytes_eq q.name metric_label) ps)) ≡ Some name →
    (length name + length name) + length (labels_after (cond (not b) (p ∷ other_labels ps) (other_labels ps))) ≤ label_room p + sum_by label_room ps
named_by p ps name true ih e =
    let is : length p.value ≡ length name = ap (λ o. option_map_or length o 0) e in
    omega (arith, is, others_len ps)
named_by p ps name false ih e = omega (arith, ih name e, more_labels p (other_labels ps), label_len p)

named_len : (ps : List Pair) (name : List ℕ) → value_of ps metric_label ≡ Some name → IsNamed ps name
named_len [] name e = absurd cc
named_len (p ∷ ps) name e = rw (sum_by-cons label_room p ps) (named_by p ps name (bytes_eq p.name metric_label) (named_len ps) e)

braces_len : (labels : List ℕ) → length (in_braces labels) ≤ length labels + 2
braces_len labels =
    let inner : length (drop 1 labels ++ codes "}") ≡ length (drop 1 labels) + 1 = length-append (drop 1 labels) (codes "}") in
    omega (arith, inner, length-drop 1 labels)

any_len : (labels : List ℕ) → length (braces_if_any labels) ≤ length labels + 2
any_len [] = omega arith
any_len (b ∷ bs) = braces_len (b ∷ bs)

text_by : (name labels : List ℕ) (b : Bool) → length (if b then name ++ braces_if_any labels else codes "{\"" ++ (escaped name ++ (codes "\"" ++ (labels ++ codes "}"))))
    ≤ (length name + length name) + length labels + 4
text_by name labels true = omega (arith, length-append name (braces_if_any labels), any_len labels)
text_by name labels false =
    let last : length (labels ++ codes "}") ≡ length labels + 1 = length-append labels (codes "}") in
    let whole : length (escaped name ++ (codes "\"" ++ (labels ++ codes "}"))) ≡ length (escaped name) + length (codes "\"" ++ (labels ++ codes "}")) =
    length-append (escaped name) (codes "\"" ++ (labels ++ codes "}")) in
    omega (arith, last, whole, escaped_len name)

set_by : (ps : List Pair) (o : Option (List ℕ)) → value_of ps metric_label ≡ o →
    length (option_map_or (λ name. text_with_name name (labels_after (other_labels ps))) o (in_braces (labels_after (other_labels ps)))) ≤ sum_by label_room ps + 4
set_by ps None e = omega (arith, others_len ps, braces_len (labels_after (other_labels ps)))
set_by ps (Some name) e =
    omega (arith, named_len ps name e, text_by name (labels_after (other_labels ps)) (is_metric_name name))

pub set_len : (ps : List Pair) → length (set_text ps) ≤ sum_by label_room ps + 4
set_len ps = set_by ps (value_of ps metric_label) refl

word_len : (k : Kind) → length (kind_word k) ≤ 12
word_len Scraped = omega arith
word_len Stale = omega arith
word_len Report = omega arith
word_len ReportStale = omega arith

after_len : (o : Option (List ℕ)) → length (value_after o) ≤ value_len o + 1
after_len None = omega arith
after_len (Some value) = omega arith

signed_len : (z : ℤ) → FitsSigned w64 z → length (signed_decimal z) ≤ 40
signed_len (pos n) h = let fits = h.sfits in omega (arith, length_wide n (omega arith))
signed_len (negsuc n) h = let fits = h.sfits in omega (arith, length_wide (suc n) (omega arith))

pub numbers_len : (moment : ℤ) (life : ℕ) → FitsSigned w64 moment → life < 2 ^ 64 → length (signed_decimal moment) + length (decimal life) ≤ 79
numbers_len moment life m l = omega (arith, signed_len moment m, length_wide life (omega arith))

pub head_len : (moment : ℤ) (life : ℕ) (kind : Kind) → length (head_text moment life kind) ≤ length (signed_decimal moment) + length (decimal life) + 15
head_len moment life kind =
    let word : length (kind_word kind ++ codes " ") ≡ length (kind_word kind) + 1 = length-append (kind_word kind) (codes " ") in
    let number : length (decimal life ++ (codes " " ++ (kind_word kind ++ codes " "))) ≡ length (decimal life) + length (codes " " ++ (kind_word kind ++ codes " ")) =
    length-append (decimal life) (codes " " ++ (kind_word kind ++ codes " ")) in
    let whole : length (head_text moment life kind) ≡ length (signed_decimal moment) + length (codes " " ++ (decimal life ++ (codes " " ++ (kind_word kind ++ codes " ")))) =
    length-append (signed_decimal moment) (codes " " ++ (decimal life ++ (codes " " ++ (kind_word kind ++ codes " ")))) in
    omega (arith, word, number, whole, word_len kind)

pub line_len : (e : Entry) (longest value : ℕ) → length (set_text e.series) ≤ longest → value_len e.value ≤ value →
    length (signed_decimal e.moment) + length (decimal e.life) ≤ 79 → length (entry_line e) ≤ longest + value + 100
unfolding entry_line
line_len e longest value set short few =
    let tail : length (value_after e.value ++ codes "\n") ≡ length (value_after e.value) + 1 = length-append (value_after e.value) (codes "\n") in
    let whole : length (entry_tail e) ≡ length (set_text e.series) + length (value_after e.value ++ codes "\n") = length-append (set_text e.series) (value_after e.value ++ codes "\n") in
    omega (arith, set, short, few, tail, whole, length-append (entry_head e) (entry_tail e), head_len e.moment e.life e.kind, after_len e.value)
