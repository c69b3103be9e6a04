use Rattle.std.proofs.Common.{◌≡◌, ◌∙◌, ◌++◌, ap, List}
use Rattle.label_set.specs.declared.texts.Pair.{Pair}
use Rattle.expo_reader.proofs.SpanLemmas.{after-tail, braced-said, name-tail, tail-tail}
use Rattle.expo_reader.proofs.spans.braced_parts.Goals as goal

pub labelled_parts-requires-clause-tail : goal.labelled_parts-requires-clause-tail
labelled_parts-requires-clause-tail c =
    let line = c.args.line.now in
    let rest = c.in-Ok.rest.now in
    let tail = c.in-Ok-labels_after.rest.now in
    let found = c.in-Ok-labels_after.ensures.labels in
    tail-tail line rest tail (name-tail line c.in-Ok.field-0-0 rest c.in-Ok.ensures.name) (after-tail rest found.0 tail found.1)

pub returns-in-Ok-labels_after-clause-said : goal.returns-in-Ok-labels_after-clause-said
returns-in-Ok-labels_after-clause-said c = λ number.
    (let line = c.args.line.now in
    let name = c.in-Ok.field-0-0 in
    let found = c.in-Ok-labels_after.ensures.labels in
    let items : c.deref.result.now ≡ found.0 = c.deref.ensures.value ∙ found.2 ∙ ap (λ (l : List Pair). l ++ found.0) c.clear.ensures.items in
    braced-said number line name c.in-Ok.rest.now c.in-Ok-labels_after.rest.now found.0 c.deref.result.now c.in-Ok.ensures.name found.1 items c.labelled_parts.result
    (c.labelled_parts.ensures.said number name))
