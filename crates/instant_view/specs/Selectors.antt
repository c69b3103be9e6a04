-- What a selector selects, and what is refused as one ("Querying basics" of the Prometheus documentation, instant vector selectors).
use Rattle.std.specs.Prelude.{◌≡◌, ℕ, Bool, true, not, ◌&&◌, List, [], All, Option, unwrap_or, is_none, codes}
use Rattle.std.specs.List.{list_all, Any}
use Rattle.std.specs.Option.{option_map_or}
use Rattle.std.specs.Str.{bytes_eq}
use Rattle.label_set.specs.Sets.{value_of}
use Rattle.label_set.specs.declared.texts.Pair.{Pair}
use Rattle.pattern_rule.specs.Patterns.{IsPattern, MayBeRefused, matches}
use Rattle.instant_view.specs.Grammar.{IsSelector}
use Rattle.instant_view.specs.declared.matchers.Matcher.{Matcher}
use Rattle.instant_view.specs.declared.matchers.Operator.{Operator}
use Rattle.instant_view.specs.declared.matchers.Operator.TheVariants.{Equal, Unequal, Match, Mismatch}
use Rattle.instant_view.specs.declared.matchers.SelectorParts.{SelectorParts}
use Rattle.instant_view.specs.declared.matchers.SelectorError.{SelectorError}
use Rattle.instant_view.specs.declared.matchers.SelectorError.TheVariants.{Syntax, Pattern, Bare, NoMemory}

-- a matcher with this operator and text holds of a value: texts are equal by their bytes, and a pattern matches the whole value
abbrev pub holds_by : Operator → List ℕ → List ℕ → Bool
holds_by Equal text value = bytes_eq value text
holds_by Unequal text value = not (bytes_eq value text)
holds_by Match text value = matches text value
holds_by Mismatch text value = not (matches text value)

abbrev pub holds : Matcher → List ℕ → Bool
holds m value = holds_by m.operator m.value value

-- the value of a label; that of one which the set doesn't have is empty
abbrev pub value_in : List Pair → List ℕ → List ℕ
value_in set label = unwrap_or (value_of set label) []

-- a matcher holds of a set
abbrev pub holds_in : List Pair → Matcher → Bool
holds_in set m = holds m (value_in set m.label)

-- the name is the value of `__name__`, where there is a name
abbrev pub is_of_name : Option (List ℕ) → List Pair → Bool
is_of_name name set = option_map_or (λ (n : List ℕ). bytes_eq (value_in set (codes "__name__")) n) name true

-- the set is selected: the name is its own, and each matcher holds of it
unfoldable pub selects : SelectorParts → List Pair → Bool
selects parts set = is_of_name parts.name set && list_all (holds_in set) parts.matchers

-- each set that is selected has this name
abbrev pub IsNameOf : SelectorParts → List ℕ → Type 0
IsNameOf parts name = (set : List Pair) → selects parts set ≡ true → value_in set (codes "__name__") ≡ name

-- the same of matchers
abbrev pub IsNameAmong : List Matcher → List ℕ → Type 0
IsNameAmong ms name = (set : List Pair) → list_all (holds_in set) ms ≡ true → value_in set (codes "__name__") ≡ name

-- the same of one
abbrev pub IsNameBy : Matcher → List ℕ → Type 0
IsNameBy m name = (set : List Pair) → holds_in set m ≡ true → value_in set (codes "__name__") ≡ name

-- there is no name, and each matcher holds of the empty text
abbrev pub holds_of_nothing : Matcher → Bool
holds_of_nothing m = holds m []

abbrev pub is_bare : SelectorParts → Bool
is_bare parts = is_none parts.name && list_all holds_of_nothing parts.matchers

-- the matcher has no pattern, or a pattern that is one
abbrev pub HasPattern : Operator → List ℕ → Type 0
HasPattern Equal text = Unit {0}
HasPattern Unequal text = Unit {0}
HasPattern Match text = IsPattern text
HasPattern Mismatch text = IsPattern text

abbrev pub IsBuilt : Matcher → Type 0
IsBuilt m = HasPattern m.operator m.value

-- the matcher has a pattern that may be refused
abbrev pub MayFail : Operator → List ℕ → Type 0
MayFail Equal text = ⊥
MayFail Unequal text = ⊥
MayFail Match text = MayBeRefused text
MayFail Mismatch text = MayBeRefused text

abbrev pub IsRefused : Matcher → Type 0
IsRefused m = MayFail m.operator m.value

-- why the parts of a selector give none: a pattern of it may be refused; or it is bare, with each pattern built
abbrev pub PartsRefused : SelectorError → SelectorParts → Type 0
PartsRefused Syntax parts = ⊥
PartsRefused Pattern parts = Any IsRefused parts.matchers
PartsRefused Bare parts = All IsBuilt parts.matchers × (is_bare parts ≡ true)
PartsRefused NoMemory parts = Unit {0}

-- why a text gives no selector: it isn't written as one; or it is, and the parts are refused
abbrev pub Refuses : SelectorError → List ℕ → Type 0
Refuses Syntax text = (parts : SelectorParts) → ¬ (IsSelector text parts)
Refuses Pattern text = (parts : SelectorParts) × IsSelector text parts × PartsRefused Pattern parts
Refuses Bare text = (parts : SelectorParts) × IsSelector text parts × PartsRefused Bare parts
Refuses NoMemory text = Unit {0}
