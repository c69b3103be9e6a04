use Rattle.std.proofs.Common.{◌≡◌, map, drop}
use Rattle.httparse.specs.Spans.{header_bytes}
use Rattle.http_fetch.specs.Fields.{coding_after, values, transfer_encoding}
use Rattle.http_fetch.specs.declared.fields.Coding.TheVariants.{Absent}
use Rattle.http_fetch.proofs.fields.coding_of.Given as goal

abbrev pub invariant-loop-field : goal.invariant-loop-field
invariant-loop-field l =
    coding_after l.coding (values transfer_encoding (map (header_bytes l.text) (drop l.field-index l.fields)))
    ≡ coding_after Absent (values transfer_encoding (map (header_bytes l.text) l.fields))
