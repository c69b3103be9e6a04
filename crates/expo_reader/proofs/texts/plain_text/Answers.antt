use Rattle.std.proofs.Common.{◌∙◌, ap, sym, Some}
use Rattle.expo_reader.proofs.TextLemmas.{ascii-utf8, ascii-value}
use Rattle.expo_reader.proofs.texts.plain_text.Goals as goal

pub utf8_text-requires : goal.utf8_text-requires
utf8_text-requires c = ascii-utf8 c.args.part.now c.requires

pub returns : goal.returns
returns c = ascii-value c.args.part.now c.requires ∙ ap Some (sym (c.whole_text.ensures ∙ c.utf8_text.ensures))
