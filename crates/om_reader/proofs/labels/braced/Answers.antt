use Rattle.std.proofs.Common.{◌≡◌, ◌∙◌, ◌++◌, [], ℕ, List, ap}
use Rattle.expo_reader.specs.Bodies.{names_of}
use Rattle.expo_reader.specs.Forms.{names_differ_from}
use Rattle.om_reader.proofs.LabelLemmas.{braced-fault, braced-none, braced-some, braced-twice}
use Rattle.om_reader.proofs.labels.braced.Goals as goal

pub returns-in-Some-clause-labels : goal.returns-in-Some-clause-labels
returns-in-Some-clause-labels c = ([], braced-none c.args.text.now c.in-Some.rest.now c.in-Some.ensures.rest, c.clear.ensures.items)

pub returns-in-Err-clause-labels : goal.returns-in-Err-clause-labels
returns-in-Err-clause-labels c = braced-fault c.args.text.now c.in_default.ensures.rest c.in-Err.fault c.in-Err.ensures.labels

pub returns-then-not-differ-clause-labels : goal.returns-then-not-differ-clause-labels
returns-then-not-differ-clause-labels c =
    let found = c.in-Ok.ensures.labels in
    let names : c.push_labels.new.room ≡ names_of found.0 = found.2 ∙ ap (λ (l : List (List ℕ)). l ++ names_of found.0) c.clear.ensures.items in
    let test = c.in_ok-differ.ensures ∙ ap (names_differ_from []) (c.as_slice.ensures.value ∙ c.room-2.view_is) in
    braced-twice c.args.text.now c.in-Ok.rest.now found.0 c.in_default.ensures.rest found.1 c.push_labels.new.room names c.in_ok-differ.differ test c.if-not-differ.true

pub returns-clause-labels : goal.returns-clause-labels
returns-clause-labels c =
    let found = c.in-Ok.ensures.labels in
    let names : c.push_labels.new.room ≡ names_of found.0 = found.2 ∙ ap (λ (l : List (List ℕ)). l ++ names_of found.0) c.clear.ensures.items in
    let test = c.in_ok-differ.ensures ∙ ap (names_differ_from []) (c.as_slice.ensures.value ∙ c.room-2.view_is) in (
      found.0,
      braced-some c.args.text.now c.in-Ok.rest.now found.0 c.in_default.ensures.rest found.1 c.push_labels.new.room names c.in_ok-differ.differ test c.if-not-differ.false,
      names,
    )
