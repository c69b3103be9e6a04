use Rattle.std.proofs.Common.{◌≡◌, map, drop}
use Rattle.std.specs.List.{list_any}
use Rattle.httparse.specs.Spans.{header_bytes}
use Rattle.request_heads.specs.Requests.{tells_body}
use Rattle.request_heads.proofs.fields.has_body.Given as goal

abbrev pub invariant-loop-field : goal.invariant-loop-field
invariant-loop-field l = list_any tells_body (map (header_bytes l.text) (drop l.field-index l.fields)) ≡ list_any tells_body (map (header_bytes l.text) l.fields)
