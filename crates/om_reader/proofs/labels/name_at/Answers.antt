use Rattle.std.proofs.Common.{◌∙◌, sym}
use Rattle.om_reader.proofs.LabelLemmas.{label-no_name, label-no_word}
use Rattle.om_reader.proofs.labels.name_at.Goals as goal

pub returns-in_default-clause-none : goal.returns-in_default-clause-none
returns-in_default-clause-none c = label-no_word c.args.text.now c.in_default.ensures.part

pub returns-else-are_label_name-clause-none : goal.returns-else-are_label_name-clause-none
returns-else-are_label_name-clause-none c =
    label-no_name c.args.text.now c.in-Some.name.bytes.now c.in-Some.name.rest.now c.in-Some.ensures.part (sym c.are_label_name.ensures ∙ c.if-are_label_name.false)
