use Rattle.std.proofs.Common.{◌≡◌, map, drop}
use Rattle.httparse.specs.Spans.{header_bytes}
use Rattle.http_fetch.specs.Fields.{content_type, kind_first, values}
use Rattle.http_fetch.proofs.fields.kind_of.Given as goal

abbrev pub invariant-loop-field : goal.invariant-loop-field
invariant-loop-field l =
    kind_first (values content_type (map (header_bytes l.text) (drop l.field-index l.fields)))
    ≡ kind_first (values content_type (map (header_bytes l.text) l.fields))
