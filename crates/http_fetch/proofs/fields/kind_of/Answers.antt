use Rattle.std.proofs.Common.{◌∙◌, sym, ap}
use Rattle.httparse.specs.Spans.{header_bytes}
use Rattle.http_fetch.specs.Fields.{content_type, kind, kind_by, kind_first}
use Rattle.http_fetch.proofs.FieldLemmas.{named-here, named-other}
use Rattle.http_fetch.proofs.fields.kind_of.Goals as goal

pub returns-then-is_named : goal.returns-then-is_named
unfolding kind
returns-then-is_named c =
    c.kind_by.ensures ∙ ap kind_by c.of.ensures
    ∙ sym (named-here content_type (header_bytes c.args.text.now) c.args.fields.now c.loop-field.field-index _ c.loop-field-test.true (sym c.is_named.ensures ∙ c.if-is_named.true))
    ∙ c.loop-field.invariant

pub loop-field-preserved : goal.loop-field-preserved
loop-field-preserved c =
    ap kind_first
    (sym (named-other content_type (header_bytes c.args.text.now) c.args.fields.now c.loop-field.field-index _ c.loop-field-test.true (sym c.is_named.ensures ∙ c.if-is_named.false)))
    ∙ c.loop-field.invariant
