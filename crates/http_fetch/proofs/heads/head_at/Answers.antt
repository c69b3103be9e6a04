use Rattle.std.proofs.Common.{◌≤◌, ◌∙◌, arith, ap, length}
use Rattle.http_fetch.specs.Fields.{framing, kind}
use Rattle.http_fetch.proofs.FrameLemmas.{head-found, head-long, head-full}
use Rattle.httparse.specs.Spans.{header_bytes}
use Rattle.http_fetch.proofs.StepLemmas.{fields-few}
use Rattle.http_fetch.proofs.heads.head_at.Goals as goal

pub returns-then-head-gt-MOST_HEAD : goal.returns-then-head-gt-MOST_HEAD
returns-then-head-gt-MOST_HEAD c =
    let h = rw c.in-Ok-Complete.field-0-is at c.in-Ok-Complete.ensures.complete in
    head-long c.args.bytes.now c.in-Ok-Complete.head.len h.0 h.1.reads h.1.len c.if-head-gt-MOST_HEAD.true

pub returns-else-head-gt-MOST_HEAD : goal.returns-else-head-gt-MOST_HEAD
returns-else-head-gt-MOST_HEAD c =
    let h = rw c.in-Ok-Complete.field-0-is at c.in-Ok-Complete.ensures.complete in
    let within = rw c.in-Ok-Complete.field-0-is at c.in-Ok-Complete.ensures.within in
    head-found c.args.bytes.now c.in-Ok-Complete.head.len c.in-Ok-Complete.head.code c.framing_of.result c.kind_of.result h.0 h.1.reads h.1.len h.1.code
    (c.framing_of.ensures ∙ ap framing h.1.fields) (c.kind_of.ensures ∙ ap kind h.1.fields)
    (fields-few (header_bytes c.args.bytes.now) c.parse_response.new.headers h.0.fields c.in-Ok-Complete.head.headers h.1.fields within.section.count_fits
    (let k : length c.parse_response.new.headers ≤ 64 = omega (arith, c.parse_response.auto.headers) in k)) c.if-head-gt-MOST_HEAD.false

pub returns-else-bytes-lt-MOST_HEAD : goal.returns-else-bytes-lt-MOST_HEAD
returns-else-bytes-lt-MOST_HEAD c = head-full c.args.bytes.now (rw c.in-Ok-Partial.field-0-is at c.in-Ok-Partial.ensures.partial) c.if-bytes-lt-MOST_HEAD.false
