use Rattle.std.proofs.Common.{◌≡◌, ◌∙◌, sym, ap, map, drop, drop_of_length-le, []}
use Rattle.httparse.specs.Spans.{header_bytes}
use Rattle.http_fetch.specs.Fields.{coding_after, values, transfer_encoding}
use Rattle.http_fetch.proofs.FieldLemmas.{coding-all}
use Rattle.http_fetch.proofs.fields.coding_of.Goals as goal

pub returns : goal.returns
returns c =
    let none : drop c.loop-field.field-index c.args.fields.now ≡ [] = drop_of_length-le c.args.fields.now c.loop-field-test.false in
    sym (ap (λ hs. coding_after c.loop-field.coding (values transfer_encoding (map (header_bytes c.args.text.now) hs))) none) ∙ c.loop-field.invariant ∙ coding-all _
