-- Selectors as a grammar: how they are written ("Querying basics" of the Prometheus documentation, instant vector selectors). It says which selectors
-- there are by what they are put together from, and knows nothing of how they are read.
use Rattle.std.specs.Prelude.{◌≡◌, ◌⊎◌, ℕ, ◌==◌, Bool, true, not, List, [], ◌∷◌, ◌++◌, Option, Some, None, codes}
use Rattle.std.specs.List.{list_all}
use Rattle.std.specs.Str.{bytes_eq, is_utf8}
use Rattle.label_set.specs.Bytes.{is_label_name, is_metric_name}
use Rattle.expo_reader.specs.Grammar.{IsBlanks, IsText}
use Rattle.instant_view.specs.declared.matchers.Matcher.{Matcher}
use Rattle.instant_view.specs.declared.matchers.Operator.{Operator}
use Rattle.instant_view.specs.declared.matchers.Operator.TheVariants.{Equal, Unequal, Match, Mismatch}
use Rattle.instant_view.specs.declared.matchers.SelectorParts.{SelectorParts}

-- an operator as it is written
abbrev pub operator_text : Operator → List ℕ
operator_text Equal = codes "="
operator_text Unequal = codes "!="
operator_text Match = codes "=~"
operator_text Mismatch = codes "!~"

-- no line feed stands in a text
unfoldable pub is_one_line : List ℕ → Bool
is_one_line text = list_all (λ b. not (b == 10)) text

-- a matcher as it is written, with blanks round it: the name of its label, its operator, and a text in quotes as the text exposition format has them,
-- on one line and of UTF-8
abbrev pub IsMatcher : List ℕ → Matcher → Type 0
IsMatcher bs m =
    (b1 : List ℕ) × (b2 : List ℕ) × (b3 : List ℕ) × (text : List ℕ) × (b4 : List ℕ)
    × IsBlanks b1 × IsBlanks b2 × IsBlanks b3 × IsBlanks b4
    × (is_label_name m.label ≡ true) × IsText text m.value × (is_one_line text ≡ true) × (is_utf8 m.value ≡ true)
    × (bs ≡ b1 ++ (m.label ++ (b2 ++ (operator_text m.operator ++ (b3 ++ 34 ∷ (text ++ 34 ∷ b4))))))

-- what stands between the braces: nothing but blanks, or matchers with commas between them, and one more comma behind the last or none
abbrev pub IsMatchers : List ℕ → List Matcher → Type 0
IsMatchers bs [] = IsBlanks bs
IsMatchers bs (m ∷ ms) =
    (one : List ℕ) × IsMatcher one m × (((ms ≡ []) × (bs ≡ one)) ⊎ ((rest : List ℕ) × (bs ≡ one ++ 44 ∷ rest) × IsMatchers rest ms))

-- matchers in braces
abbrev pub IsBraced : List ℕ → List Matcher → Type 0
IsBraced bs ms = (inside : List ℕ) × IsMatchers inside ms × (bs ≡ 123 ∷ (inside ++ 125 ∷ []))

-- a matcher asks for another label than `__name__`
abbrev pub is_apart : Matcher → Bool
is_apart m = not (bytes_eq m.label (codes "__name__"))

-- a selector as it is written: matchers in braces; or a metric name; or a metric name and matchers in braces, none of them for `__name__`.
-- Blanks may stand between the name and the brace, and none in front of all or behind all.
abbrev pub IsNamed : List ℕ → Option (List ℕ) → List Matcher → Type 0
IsNamed text None ms = IsBraced text ms
IsNamed text (Some name) ms =
    (is_metric_name name ≡ true)
    × (((ms ≡ []) × (text ≡ name))
    ⊎ ((blanks : List ℕ) × (braces : List ℕ) × IsBlanks blanks × IsBraced braces ms × (list_all is_apart ms ≡ true)
    × (text ≡ name ++ (blanks ++ braces))))

unfoldable pub IsSelector : List ℕ → SelectorParts → Type 0
IsSelector text parts = IsNamed text parts.name parts.matchers

-- a text gives one selector at most
abbrev pub HasOneReading : Type 0
HasOneReading = (text : List ℕ) (one other : SelectorParts) → IsSelector text one → IsSelector text other → one ≡ other
