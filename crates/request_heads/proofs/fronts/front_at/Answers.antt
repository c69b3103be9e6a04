use Rattle.std.proofs.Common.{◌<◌, ◌≤◌, ◌∙◌, arith, ap, length}
use Rattle.std.specs.List.{list_any}
use Rattle.httparse.specs.Grammar.{print_request}
use Rattle.httparse.specs.Spans.{header_bytes}
use Rattle.request_heads.specs.Requests.{asked, query_of, tells_close}
use Rattle.request_heads.proofs.FrontLemmas.{fields-few, head-full, head-long, request-some}
use Rattle.request_heads.proofs.fronts.front_at.Goals as goal

pub returns-then-head-gt-MOST_HEAD : goal.returns-then-head-gt-MOST_HEAD
returns-then-head-gt-MOST_HEAD c =
    let h = rw c.in-Ok-Complete.field-0-is at c.in-Ok-Complete.ensures.complete in
    head-long c.args.bytes.now c.in-Ok-Complete.head.len h.0 h.1.reads h.1.len c.if-head-gt-MOST_HEAD.true

pub returns-else-head-gt-MOST_HEAD : goal.returns-else-head-gt-MOST_HEAD
returns-else-head-gt-MOST_HEAD c =
    let h = rw c.in-Ok-Complete.field-0-is at c.in-Ok-Complete.ensures.complete in
    let within = rw c.in-Ok-Complete.field-0-is at c.in-Ok-Complete.ensures.within in
    let some : 0 < length (print_request h.0) = request-some h.0 in
    let room : length c.parse_request.new.headers ≤ 64 = omega (arith, c.parse_request.auto.headers) in
    let target = c.of-target.ensures ∙ h.1.path in
    record {
      head = h.0;
      reads = record {
        reads = h.1.reads;
        few = fields-few (header_bytes c.args.bytes.now) c.parse_request.new.headers h.0.fields c.in-Ok-Complete.head.headers h.1.fields within.section.count_fits room;
        short = omega (arith, h.1.len, c.if-head-gt-MOST_HEAD.false);
      };
      len_is = h.1.len;
      page_is = c.asked.ensures ∙ (λ i. asked ((c.of.ensures ∙ h.1.method) i) (target i) (h.1.fields i));
      query_is = c.query_of.ensures ∙ ap query_of target;
      closes_is = c.closes.ensures ∙ ap (list_any tells_close) h.1.fields;
      some = omega (arith, some, h.1.len);
      within = within.section.len_fits;
    }

pub returns-else-bytes-lt-MOST_HEAD : goal.returns-else-bytes-lt-MOST_HEAD
returns-else-bytes-lt-MOST_HEAD c = head-full c.args.bytes.now (rw c.in-Ok-Partial.field-0-is at c.in-Ok-Partial.ensures.partial) c.if-bytes-lt-MOST_HEAD.false
