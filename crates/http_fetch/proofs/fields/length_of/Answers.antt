use Rattle.std.proofs.Common.{◌≡◌, ◌∙◌, sym, ap, map, drop, drop_of_length-le, []}
use Rattle.httparse.specs.Spans.{header_bytes}
use Rattle.http_fetch.specs.Fields.{length_after, values, content_length}
use Rattle.http_fetch.proofs.FieldLemmas.{length-all}
use Rattle.http_fetch.proofs.fields.length_of.Goals as goal

pub returns : goal.returns
returns c =
    let none : drop c.loop-field.field-index c.args.fields.now ≡ [] = drop_of_length-le c.args.fields.now c.loop-field-test.false in
    sym (ap (λ hs. length_after c.loop-field.framing (values content_length (map (header_bytes c.args.text.now) hs))) none) ∙ c.loop-field.invariant ∙ length-all _
