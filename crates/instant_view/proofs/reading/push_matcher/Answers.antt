use Rattle.std.proofs.Common.{◌≡◌, ◌++◌, ◌∷◌, [], List, ℕ, Option, Some, MatchResult, sym, subst}
use Rattle.instant_view.specs.declared.matchers.Matcher.{Matcher}
use Rattle.instant_view.specs.Faults.{FaultIs}
use Rattle.instant_view.proofs.StepLemmas.{no_label, no_operator, by_text}
use Rattle.instant_view.proofs.reading.push_matcher.Goals as goal

pub returns-in_default-clause-matcher : goal.returns-in_default-clause-matcher
returns-in_default-clause-matcher c = no_label c.args.text.now c.in_default.ensures.part

pub returns-in_default-operator_in-clause-matcher : goal.returns-in_default-operator_in-clause-matcher
returns-in_default-operator_in-clause-matcher c =
    no_operator c.args.text.now c.in-Some.label.bytes.now c.in-Some.label.rest.now c.in-Some.ensures.part c.in_default-operator_in.ensures.part

pub returns-clause-matcher : goal.returns-clause-matcher
returns-clause-matcher c =
    subst
    (λ (o : Option (Matcher × List ℕ)).
    MatchResult c.push_valued.result
    (λ rest. (m : Matcher) × (o ≡ Some (m, rest.now)) × (c.push_valued.new.matchers.items ≡ c.args.matchers.now.items ++ m ∷ [])) (λ f. FaultIs f o))
    (sym (by_text c.args.text.now c.in-Some.label.bytes.now c.in-Some.label.rest.now c.in-Some.ensures.part
    c.in-Some-operator_in.compares.operator c.in-Some-operator_in.compares.rest.now c.in-Some-operator_in.ensures.part))
    c.push_valued.ensures.matcher
