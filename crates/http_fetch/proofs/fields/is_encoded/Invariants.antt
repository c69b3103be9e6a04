use Rattle.std.proofs.Common.{◌≡◌, map, drop}
use Rattle.httparse.specs.Spans.{header_bytes}
use Rattle.http_fetch.specs.Fields.{is_encoded}
use Rattle.http_fetch.proofs.fields.is_encoded.Given as goal

abbrev pub invariant-loop-field : goal.invariant-loop-field
invariant-loop-field l = is_encoded (map (header_bytes l.text) (drop l.field-index l.fields)) ≡ is_encoded (map (header_bytes l.text) l.fields)
