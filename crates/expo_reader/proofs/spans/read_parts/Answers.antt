use Rattle.std.proofs.Common.{Some, None, Ok, ap, ◌∙◌}
use Rattle.expo_reader.specs.Spans.{row_at}
use Rattle.expo_reader.proofs.PartLemmas.{line-blank, line-comment, line-sample}
use Rattle.expo_reader.proofs.SpanLemmas.{bare-bare}
use Rattle.expo_reader.proofs.spans.read_parts.Goals as goal

pub returns-in_default-clause-said : goal.returns-in_default-clause-said
returns-in_default-clause-said g c = line-blank c.args.body_line.now.form c.args.body_line.now.number c.args.body_line.now.bytes.now c.in_default.ensures.place

pub returns-then-line-start-eq35-clause-said : goal.returns-then-line-start-eq35-clause-said
returns-then-line-start-eq35-clause-said g c = line-comment c.args.body_line.now.form c.args.body_line.now.number c.args.body_line.now.bytes.now c.in-Some.start c.in-Some.ensures.place c.if-line-start-eq35.true

pub like_parts-requires-clause-bare : goal.like_parts-requires-clause-bare
like_parts-requires-clause-bare g c = bare-bare c.args.body_line.now.bytes.now c.behind.result.now c.in-Some.start c.in-Some.ensures.place c.behind.ensures

pub returns-in-Ok-clause-said : goal.returns-in-Ok-clause-said
returns-in-Ok-clause-said g c =
    line-sample c.args.body_line.now.form c.args.body_line.now.number c.args.body_line.now.bytes.now c.in-Some.start c.in-Some.ensures.place c.in-Some.ensures.some c.if-line-start-eq35.false
    c.behind.result.now c.behind.ensures (Some (row_at c.args.body_line.now.number c.behind.result.now c.in-Ok.parts)) (c.in-Ok.ensures.said c.args.body_line.now.number)
    ∙ ap (λ t. Ok (Some (row_at c.args.body_line.now.number t c.in-Ok.parts))) c.behind.ensures

pub returns-in-Err-Faulty-clause-said : goal.returns-in-Err-Faulty-clause-said
returns-in-Err-Faulty-clause-said g c =
    line-sample c.args.body_line.now.form c.args.body_line.now.number c.args.body_line.now.bytes.now c.in-Some.start c.in-Some.ensures.place c.in-Some.ensures.some c.if-line-start-eq35.false
    c.behind.result.now c.behind.ensures None (rw c.in-Err-Faulty.field-0-is at (c.in-Err-Faulty.ensures.said c.args.body_line.now.number))
