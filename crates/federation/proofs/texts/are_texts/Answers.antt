use Rattle.std.proofs.Common.{List, rules, subst, sym}
use Rattle.std.specs.List.{AllByRecursion}
use Rattle.std.specs.Str.{IsUtf8}
use Rattle.std.proofs.lemmas.List.Elements.{All-from_recursion}
use Rattle.label_set.specs.declared.texts.Pair.{Pair}
use Rattle.federation.specs.Readings.{IsLabelText}
use Rattle.federation.proofs.texts.are_texts.Goals as goal

pub loop-label-preserved : goal.loop-label-preserved
loop-label-preserved c = λ rest.
    let p : Pair = record { name = c.in-Some.label.name.now; value = c.in-Some.label.value.now } in
    let texts : IsLabelText p = record { name = search rules; value = search rules } in
    c.loop-label.invariant (subst (AllByRecursion IsLabelText) (sym c.in-Some.ensures.steps) (texts, rest))

pub returns-clause-texts : goal.returns-clause-texts
returns-clause-texts c = All-from_recursion IsLabelText c.args.set.now (search rules)
