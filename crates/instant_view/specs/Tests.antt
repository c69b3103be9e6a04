-- Matchers with their patterns.
use Rattle.std.specs.Prelude.{ℕ, List, Option, Some, None}
use Rattle.std.specs.List.{Any}
use Rattle.pattern_rule.specs.Patterns.{MayBeRefused}
use Rattle.instant_view.specs.declared.matchers.Matcher.{Matcher}
use Rattle.instant_view.specs.declared.matchers.Operator.{Operator}
use Rattle.instant_view.specs.declared.matchers.Operator.TheVariants.{Equal, Unequal, Match, Mismatch}
use Rattle.instant_view.specs.declared.matchers.SelectorError.{SelectorError}
use Rattle.instant_view.specs.declared.matchers.SelectorError.TheVariants.{Syntax, Pattern, Bare, NoMemory}
use Rattle.instant_view.specs.Selectors.{IsRefused}

-- the pattern of an operator and a text, where there is one
abbrev pub pattern_by : Operator → List ℕ → Option (List ℕ)
pattern_by Equal text = None
pattern_by Unequal text = None
pattern_by Match text = Some text
pattern_by Mismatch text = Some text

abbrev pub pattern_of : Matcher → Option (List ℕ)
pattern_of m = pattern_by m.operator m.value

-- a pattern isn't built where it may be refused, or memory ran out
abbrev pub IsPatternFault : SelectorError → List ℕ → Type 0
IsPatternFault Syntax text = ⊥
IsPatternFault Pattern text = MayBeRefused text
IsPatternFault Bare text = ⊥
IsPatternFault NoMemory text = Unit {0}

-- the same of the pattern of a matcher
abbrev pub IsFaultOf : SelectorError → Matcher → Type 0
IsFaultOf Syntax m = ⊥
IsFaultOf Pattern m = IsRefused m
IsFaultOf Bare m = ⊥
IsFaultOf NoMemory m = Unit {0}

-- the same of that of one of these matchers
abbrev pub IsFaultAmong : SelectorError → List Matcher → Type 0
IsFaultAmong Syntax ms = ⊥
IsFaultAmong Pattern ms = Any IsRefused ms
IsFaultAmong Bare ms = ⊥
IsFaultAmong NoMemory ms = Unit {0}
