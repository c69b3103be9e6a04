use Rattle.std.proofs.Common.{◌≡◌, map, drop}
use Rattle.httparse.specs.Spans.{header_bytes}
use Rattle.http_fetch.specs.Fields.{length_after, values, content_length}
use Rattle.http_fetch.specs.declared.fields.Framing.TheVariants.{ToEnd}
use Rattle.http_fetch.proofs.fields.length_of.Given as goal

abbrev pub invariant-loop-field : goal.invariant-loop-field
invariant-loop-field l =
    length_after l.framing (values content_length (map (header_bytes l.text) (drop l.field-index l.fields)))
    ≡ length_after ToEnd (values content_length (map (header_bytes l.text) l.fields))
