use Rattle.std.proofs.Common.{◌≡◌, ◌∙◌, ◌+◌, ◌++◌, sym, ap, refl, subst, arith, List, Option, Some, MatchResult, length, length-append, []}
use Rattle.label_set.specs.declared.forms.Form.TheVariants.{Quoted}
use Rattle.label_set.specs.declared.texts.Pair.{Pair}
use Rattle.expo_reader.specs.Faults.{FaultIs}
use Rattle.expo_reader.specs.Forms.{braced_row, row_of, sample_in, value_in}
use Rattle.expo_reader.specs.Names.{braced_name}
use Rattle.expo_reader.specs.Spans.{braced_labels, row_at, word_of}
use Rattle.expo_reader.specs.declared.rows.BodyRow.{BodyRow}
use Rattle.expo_reader.proofs.SpanLemmas.{bare-is, front-only, inside-fault, inside-said, labels-tail, mark-tail, name-front, no-front, parts-said, rest-tail, said-spanned, tail-length, tail-tail, word-tail}
use Rattle.expo_reader.proofs.spans.line_parts.Goals as goal

pub parts_of-requires-clause-raw : goal.parts_of-requires-clause-raw
parts_of-requires-clause-raw c =
    let name = c.in-Some.name.bytes.now in
    let rest = c.in-Some.name.rest.now in
    omega (arith, length-append name rest, tail-length c.args.line.now (name ++ rest) (word-tail c.args.line.now name rest c.in-Some.ensures.part))

pub parts_of-requires-clause-tail : goal.parts_of-requires-clause-tail
parts_of-requires-clause-tail c = rest-tail c.args.line.now c.in-Some.name.bytes.now c.in-Some.name.rest.now c.in-Some.ensures.part

pub returns-in_default-mark_in-clause-said : goal.returns-in_default-mark_in-clause-said
returns-in_default-mark_in-clause-said c = λ number.
    (let form = c.args.form in
    let line = c.args.line.now in
    let name = c.in-Some.name.bytes.now in
    let rest = c.in-Some.name.rest.now in
    let word = c.in-Some.ensures.part in
    let is = front-only form number line name rest word ∙ bare-is form number line name rest word c.in-Some.ensures.name c.in_default-mark_in.ensures.rest in
    said-spanned form number line name [] (row_of number name name [] (value_in rest)) is c.parts_of.result
    (parts-said number line name name rest [] (length name) (name-front line name rest word c.requires.bare) (row_of number name name [] (value_in rest)) refl c.parts_of.result c.parts_of.ensures.parts))

pub returns-in-Err-clause-said : goal.returns-in-Err-clause-said
returns-in-Err-clause-said c = λ number.
    inside-fault c.args.form number c.args.line.now c.in-Some.name.bytes.now c.in-Some.name.rest.now c.in-Some-mark_in.inside.now c.in-Some.ensures.part c.in-Some-mark_in.ensures.rest
    c.in-Some.ensures.name c.in-Err.fault c.in-Err.ensures.labels

pub labelled_parts-requires-clause-tail : goal.labelled_parts-requires-clause-tail
labelled_parts-requires-clause-tail c =
    let line = c.args.line.now in
    let rest = c.in-Some.name.rest.now in
    let inside = c.in-Some-mark_in.inside.now in
    let found = c.in-Ok.ensures.labels in
    let here = tail-tail line rest inside (rest-tail line c.in-Some.name.bytes.now rest c.in-Some.ensures.part) (mark-tail 123 rest inside (omega arith) c.in-Some-mark_in.ensures.rest) in
    tail-tail line inside c.in-Ok.rest.now here (labels-tail c.args.form (length inside + 1) inside found.0 c.in-Ok.rest.now found.1)

pub returns-in-Ok-clause-said : goal.returns-in-Ok-clause-said
returns-in-Ok-clause-said c = λ number.
    (let found = c.in-Ok.ensures.labels in
    let name = c.in-Some.name.bytes.now in
    let items : c.deref.result.now ≡ found.0 = c.deref.ensures.value ∙ found.2 ∙ ap (λ (l : List Pair). l ++ found.0) c.clear.ensures.items in
    inside-said c.args.form number c.args.line.now name c.in-Some.name.rest.now c.in-Some-mark_in.inside.now c.in-Some.ensures.part c.in-Some-mark_in.ensures.rest
    c.in-Some.ensures.name found.0 c.deref.result.now c.in-Ok.rest.now found.1 items c.labelled_parts.result (c.labelled_parts.ensures.said number name))

pub returns-in-Plain-clause-said : goal.returns-in-Plain-clause-said
returns-in-Plain-clause-said c = λ number.
    ap (λ f. sample_in f number c.args.line.now) c.in-Plain.is ∙ (no-front number c.args.line.now c.in_default.ensures.none).0

pub returns-in-Quoted-clause-said : goal.returns-in-Quoted-clause-said
returns-in-Quoted-clause-said c = λ number.
    (let line = c.args.line.now in
    let said = said-spanned Quoted number line (word_of (braced_name line)) (braced_labels (braced_name line)) (braced_row number line (braced_name line))
    (no-front number line c.in_default.ensures.none).1 c.braced_parts.result (c.braced_parts.ensures.said number) in
    subst (λ (o : Option BodyRow). MatchResult c.braced_parts.result (λ s. o ≡ Some (row_at number line s)) (λ f. FaultIs f o))
    (sym (ap (λ f. sample_in f number line) c.in-Quoted.is)) said)
