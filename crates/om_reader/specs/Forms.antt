-- The parts of a sample line as they are found in it, from its front on (OpenMetrics 1.0, "ABNF").
use Rattle.std.specs.Prelude.{ℕ, zero, suc, ℤ, ◌+◌, ◌-◌, Bool, false, not, ◌&&◌, ◌||◌, List, [], length, take, drop, slice_index, Option, Some, None, option_map, option_and_then, if◌then◌else◌, ◌==◌, codes}
use Rattle.std.specs.List.{prefix_len}
use Rattle.std.specs.Str.{bytes_eq}
use Rattle.label_set.specs.Bytes.{is_label_name, is_metric_name}
use Rattle.label_set.specs.declared.texts.Pair.{Pair}
use Rattle.value_text.specs.Values.{is_value}
use Rattle.expo_reader.specs.Bodies.{has_metric_label}
use Rattle.expo_reader.specs.Forms.{closed_or, names_differ, with_first}
use Rattle.expo_reader.specs.Texts.{mark_at, text_at, text_value, word_at}
use Rattle.om_reader.specs.Timestamps.{stamp_millis}

-- what a sample line says but for its number
pub record Sample : Type 0 where
  pub raw : List ℕ
  pub name : List ℕ
  pub labels : List Pair
  pub value : List ℕ
  pub stamp : Option ℤ

-- a label of a name and a text in quotes
abbrev pub label_of : List ℕ → List ℕ → Option Pair
label_of name text = if is_label_name name then option_map (λ (value : List ℕ). record { name = name; value = value }) (text_value text) else None

-- a label, `NAME="TEXT"`, and what follows it; no blank stands in it but in the text
abbrev pub valued_label : List ℕ → Option (List ℕ × List ℕ) → Option (Pair × List ℕ)
valued_label name None = None
valued_label name (Some (text, rest)) = option_map (λ (label : Pair). (label, rest)) (label_of name text)

abbrev pub named_label : Option (List ℕ × List ℕ) → Option (Pair × List ℕ)
named_label None = None
named_label (Some (name, rest)) = option_and_then (λ (quoted : List ℕ). valued_label name (text_at quoted)) (mark_at 61 rest)

unfoldable pub label_at : List ℕ → Option (Pair × List ℕ)
label_at bs = named_label (word_at bs)

-- behind a label: a comma and one more, or `}`
abbrev pub after_label : (List ℕ → Option (List Pair × List ℕ)) → List ℕ → Option (List ℕ) → Option (List Pair × List ℕ)
after_label more bs (Some next) = more next
after_label more bs None = option_map (λ (rest : List ℕ). ([], rest)) (mark_at 125 bs)

abbrev pub label_and_more : (List ℕ → Option (List Pair × List ℕ)) → Option (Pair × List ℕ) → Option (List Pair × List ℕ)
label_and_more more None = None
label_and_more more (Some (label, rest)) = with_first label (after_label more rest (mark_at 44 rest))

-- a label with what may follow one, and what follows the `}`; n labels at most
unfoldable pub labels_at : ℕ → List ℕ → Option (List Pair × List ℕ)
labels_at zero bs = None
labels_at (suc n) bs = label_and_more (λ next. labels_at n next) (label_at bs)

-- behind `{`: `}`, or labels, of which there are no more than bytes
abbrev pub all_labels_at : List ℕ → Option (List Pair × List ℕ)
all_labels_at bs = closed_or (mark_at 125 bs) (labels_at (length bs + 1) bs)

-- the same where no two of them have one name
abbrev pub differing : Option (List Pair × List ℕ) → Option (List Pair × List ℕ)
differing None = None
differing (Some (labels, rest)) = if names_differ labels then Some (labels, rest) else None

unfoldable pub braced : List ℕ → Option (List Pair × List ℕ)
braced bs = differing (all_labels_at bs)

-- how many bytes stand before the first space
abbrev pub field_len : List ℕ → ℕ
field_len bs = prefix_len (λ b. not (b == 32)) bs

-- behind one space: the bytes before the next one, and what follows them
abbrev pub field_behind : List ℕ → List ℕ × List ℕ
field_behind t = (take (field_len t) t, drop (field_len t) t)

unfoldable pub field_at : List ℕ → Option (List ℕ × List ℕ)
field_at bs = option_map field_behind (mark_at 32 bs)

-- the timestamp and what follows it: a space and no `#` begin one
abbrev pub stamped : Option (List ℕ × List ℕ) → Option (Option ℤ × List ℕ)
stamped None = None
stamped (Some (word, rest)) = option_map (λ (ms : ℤ). (Some ms, rest)) (stamp_millis word)

unfoldable pub stamp_at : List ℕ → Option (Option ℤ × List ℕ)
stamp_at bs = if (slice_index bs 0 == 32) && not (slice_index bs 1 == 35) then stamped (field_at bs) else Some (None, bs)

-- a space, a value, and a space and a timestamp or nothing; and what follows them
abbrev pub valued : Option (List ℕ × List ℕ) → Option (List ℕ × Option ℤ × List ℕ)
valued None = None
valued (Some (value, rest)) = if is_value value then option_map (λ (s : Option ℤ × List ℕ). (value, s.0, s.1)) (stamp_at rest) else None

unfoldable pub measure_at : List ℕ → Option (List ℕ × Option ℤ × List ℕ)
measure_at bs = valued (field_at bs)

-- nothing follows
abbrev pub is_last : Option (List ℕ × Option ℤ × List ℕ) → Bool
is_last None = false
is_last (Some (value, stamp, rest)) = length rest == 0

-- an exemplar behind its `{`
abbrev pub is_measured : Option (List Pair × List ℕ) → Bool
is_measured None = false
is_measured (Some (labels, rest)) = is_last (measure_at rest)

-- nothing, or ` # {` and an exemplar
unfoldable pub is_end : List ℕ → Bool
is_end bs = (length bs == 0) || (bytes_eq (take 4 bs) (codes " # {") && is_measured (braced (drop 4 bs)))

-- the sample of a line with these parts, where a value follows and then the end
abbrev pub made : List ℕ → List ℕ → List Pair → Option (List ℕ × Option ℤ × List ℕ) → Option Sample
made raw name labels None = None
made raw name labels (Some (value, stamp, rest)) =
    if is_end rest then Some (record { raw = raw; name = name; labels = labels; value = value; stamp = stamp }) else None

-- the same of a line that ends so; the raw text goes through the name or the closing brace
abbrev pub cut : List ℕ → List ℕ → List Pair → List ℕ → Option Sample
cut line name labels rest = made (take (length line - length rest) line) name labels (measure_at rest)

-- behind the name: labels in braces, none of which is `__name__`, or nothing
abbrev pub labelled : List ℕ → List ℕ → Option (List Pair × List ℕ) → Option Sample
labelled line name None = None
labelled line name (Some (labels, rest)) = if has_metric_label labels then None else cut line name labels rest

abbrev pub after_name : List ℕ → List ℕ → List ℕ → Option (List ℕ) → Option Sample
after_name line name rest (Some inside) = labelled line name (braced inside)
after_name line name rest None = cut line name [] rest

abbrev pub named : List ℕ → Option (List ℕ × List ℕ) → Option Sample
named line None = None
named line (Some (name, rest)) = if is_metric_name name then after_name line name rest (mark_at 123 rest) else None

-- the sample of a line: a metric name, labels in braces or none, a value, a timestamp or none, an exemplar or none, with one space between them
unfoldable pub sample_at : List ℕ → Option Sample
sample_at line = named line (word_at line)
