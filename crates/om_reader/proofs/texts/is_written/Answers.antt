use Rattle.std.proofs.Common.{◌∙◌, ap, sym, is_some}
use Rattle.expo_reader.proofs.TextLemmas.{ascii-value, plain-text}
use Rattle.om_reader.proofs.TextLemmas.{value-some}
use Rattle.om_reader.proofs.texts.is_written.Goals as goal

pub returns-then-is_ascii_plain : goal.returns-then-is_ascii_plain
returns-then-is_ascii_plain c = sym (ap is_some (ascii-value c.args.text.now (sym c.is_ascii_plain.ensures ∙ c.if-is_ascii_plain.true)))

pub returns-then-is_plain : goal.returns-then-is_plain
returns-then-is_plain c =
    c.is_utf8.ensures ∙ value-some c.args.text.now c.args.text.now (plain-text c.args.text.now c.is_plain.result c.is_plain.ensures c.if-is_plain.true)

pub returns : goal.returns
returns c = c.is_utf8-2.ensures ∙ value-some c.args.text.now c.as_slice.result.now (c.as_slice.ensures.value ∙ c.in_ok-resolve.ensures)
