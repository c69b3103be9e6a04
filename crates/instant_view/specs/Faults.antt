-- What a part of a selector gives.
use Rattle.std.specs.Prelude.{◌≡◌, ℕ, List, [], ◌∷◌, ◌++◌, Option, Some, None, Result, MatchResult}
use Rattle.instant_view.specs.declared.matchers.Matcher.{Matcher}
use Rattle.instant_view.specs.declared.matchers.SelectorError.{SelectorError}
use Rattle.instant_view.specs.declared.matchers.SelectorError.TheVariants.{Syntax, Pattern, Bare, NoMemory}

-- it isn't written so where nothing was said, and out of memory says nothing
abbrev pub FaultIs : {A : Type 0} → SelectorError → Option A → Type 0
FaultIs Syntax said = said ≡ None
FaultIs Pattern said = ⊥
FaultIs Bare said = ⊥
FaultIs NoMemory said = Unit {0}

-- what was returned is what was said, unless memory ran out
abbrev pub Finds : {A B : Type 0} → (A → B) → Result A SelectorError → Option B → Type 0
Finds view result said = MatchResult result (λ v. said ≡ Some (view v)) (λ f. FaultIs f said)

-- matchers as they were and as they are
pub record Growth : Type 0 where
  pub old : List Matcher
  pub new : List Matcher

abbrev pub from_to : List Matcher → List Matcher → Growth
from_to old new = record { old = old; new = new }

-- the matcher that was said was added, and what follows it was returned, unless memory ran out
abbrev pub AddsOne : {A : Type 0} → (A → List ℕ) → Result A SelectorError → Option (Matcher × List ℕ) → Growth → Type 0
AddsOne rest_of result said growth =
    MatchResult result (λ r. (m : Matcher) × (said ≡ Some (m, rest_of r)) × (growth.new ≡ growth.old ++ m ∷ [])) (λ f. FaultIs f said)

-- the same of matchers
abbrev pub AddsAll : {A : Type 0} → (A → List ℕ) → Result A SelectorError → Option (List Matcher × List ℕ) → Growth → Type 0
AddsAll rest_of result said growth =
    MatchResult result (λ r. (ms : List Matcher) × (said ≡ Some (ms, rest_of r)) × (growth.new ≡ growth.old ++ ms)) (λ f. FaultIs f said)
