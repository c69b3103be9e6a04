-- How the parts of a selector are found, from the front.
use Rattle.std.specs.Prelude.{ℕ, zero, suc, ◌+◌, List, [], ◌∷◌, length, take, drop, slice_index, Option, Some, None, option_map, if◌then◌else◌, ◌==◌, nat_lt}
use Rattle.std.specs.List.{list_all, prefix_len}
use Rattle.label_set.specs.Bytes.{is_label_name, is_metric_name, is_name_byte, is_metric_byte}
use Rattle.expo_reader.specs.Texts.{bare, mark_at, mark_in, text_in, text_value}
use Rattle.instant_view.specs.Grammar.{is_apart, is_one_line}
use Rattle.instant_view.specs.declared.matchers.Matcher.{Matcher}
use Rattle.instant_view.specs.declared.matchers.Operator.{Operator}
use Rattle.instant_view.specs.declared.matchers.Operator.TheVariants.{Equal, Unequal, Match, Mismatch}
use Rattle.instant_view.specs.declared.matchers.SelectorParts.{SelectorParts}

-- a label name behind blanks and what follows it: the longest run of bytes of names
abbrev pub label_at : List ℕ → Option (List ℕ × List ℕ)
label_at t =
    if is_label_name (take (prefix_len is_name_byte t) t) then Some (take (prefix_len is_name_byte t) t, drop (prefix_len is_name_byte t) t) else None

unfoldable pub label_in : List ℕ → Option (List ℕ × List ℕ)
label_in bs = label_at (bare bs)

-- the operator of two bytes, and how many of them it takes
abbrev pub operator_of : ℕ → ℕ → Option (Operator × ℕ)
operator_of first second =
    if first == 61 then (if second == 126 then Some (Match, 2) else Some (Equal, 1))
    else (if first == 33 then (if second == 61 then Some (Unequal, 2) else (if second == 126 then Some (Mismatch, 2) else None)) else None)

abbrev pub operator_cut : List ℕ → Option (Operator × ℕ) → Option (Operator × List ℕ)
operator_cut t None = None
operator_cut t (Some (operator, n)) = Some (operator, drop n t)

-- an operator behind blanks and what follows it; something does
abbrev pub operator_at : List ℕ → Option (Operator × List ℕ)
operator_at t = if nat_lt (length t) 2 then None else operator_cut t (operator_of (slice_index t 0) (slice_index t 1))

unfoldable pub operator_in : List ℕ → Option (Operator × List ℕ)
operator_in bs = operator_at (bare bs)

-- a matcher of a label, an operator and a text in quotes
abbrev pub matcher_of : List ℕ → Operator → List ℕ → Option Matcher
matcher_of label operator text =
    if is_one_line text then option_map (λ (value : List ℕ). record { label = label; operator = operator; value = value }) (text_value text) else None

-- a matcher and what follows it; blanks may stand between the parts
abbrev pub valued : List ℕ → Operator → Option (List ℕ × List ℕ) → Option (Matcher × List ℕ)
valued label operator None = None
valued label operator (Some (text, rest)) = option_map (λ (m : Matcher). (m, rest)) (matcher_of label operator text)

abbrev pub compared : List ℕ → Option (Operator × List ℕ) → Option (Matcher × List ℕ)
compared label None = None
compared label (Some (operator, rest)) = valued label operator (text_in rest)

abbrev pub labelled : Option (List ℕ × List ℕ) → Option (Matcher × List ℕ)
labelled None = None
labelled (Some (label, rest)) = compared label (operator_in rest)

unfoldable pub matcher_in : List ℕ → Option (Matcher × List ℕ)
matcher_in bs = labelled (label_in bs)

-- matchers and what follows them
abbrev pub with_first : Matcher → Option (List Matcher × List ℕ) → Option (List Matcher × List ℕ)
with_first m None = None
with_first m (Some (ms, rest)) = Some (m ∷ ms, rest)

-- behind a matcher: a comma and more, or `}`
abbrev pub after_matcher : (List ℕ → Option (List Matcher × List ℕ)) → List ℕ → Option (List ℕ) → Option (List Matcher × List ℕ)
after_matcher more bs (Some next) = more next
after_matcher more bs None = option_map (λ (rest : List ℕ). ([], rest)) (mark_in 125 bs)

abbrev pub matcher_and_more : (List ℕ → Option (List Matcher × List ℕ)) → Option (Matcher × List ℕ) → Option (List Matcher × List ℕ)
matcher_and_more more None = None
matcher_and_more more (Some (m, rest)) = with_first m (after_matcher more rest (mark_in 44 rest))

abbrev pub closed_or : Option (List ℕ) → Option (List Matcher × List ℕ) → Option (List Matcher × List ℕ)
closed_or (Some rest) matchers = Some ([], rest)
closed_or None matchers = matchers

-- behind `{` or a comma: `}`, or a matcher with what may follow one; fewer than n matchers
unfoldable pub matchers_in : ℕ → List ℕ → Option (List Matcher × List ℕ)
matchers_in zero bs = None
matchers_in (suc n) bs = closed_or (mark_in 125 bs) (matcher_and_more (λ next. matchers_in n next) (matcher_in bs))

-- behind `{`: all matchers, of which there are no more than bytes
abbrev pub all_matchers_in : List ℕ → Option (List Matcher × List ℕ)
all_matchers_in bs = matchers_in (length bs + 1) bs

-- nothing follows the `}`
abbrev pub ending : Option (List Matcher × List ℕ) → Option (List Matcher)
ending None = None
ending (Some (ms, [])) = Some ms
ending (Some (ms, b ∷ bs)) = None

-- the matchers behind the `{` that may be there
abbrev pub braced : Option (List ℕ) → Option (List Matcher)
braced None = None
braced (Some inside) = ending (all_matchers_in inside)

abbrev pub parts_of : Option (List ℕ) → List Matcher → SelectorParts
parts_of name ms = record { name = name; matchers = ms }

-- none of them is for `__name__`
abbrev pub apart : Option (List Matcher) → Option (List Matcher)
apart None = None
apart (Some ms) = if list_all is_apart ms then Some ms else None

-- behind a name: nothing, or matchers in braces
abbrev pub behind_name : List ℕ → Option (List Matcher)
behind_name [] = Some []
behind_name (b ∷ bs) = apart (braced (mark_in 123 (b ∷ bs)))

-- a name and its matchers
abbrev pub with_name : List ℕ → Option (List Matcher) → Option SelectorParts
with_name name matchers = if is_metric_name name then option_map (parts_of (Some name)) matchers else None

-- a selector
unfoldable pub selector_in : List ℕ → Option SelectorParts
selector_in text =
    if prefix_len is_metric_byte text == 0 then option_map (parts_of None) (braced (mark_at 123 text))
    else with_name (take (prefix_len is_metric_byte text) text) (behind_name (drop (prefix_len is_metric_byte text) text))
