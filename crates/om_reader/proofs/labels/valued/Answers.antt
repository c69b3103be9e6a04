use Rattle.std.proofs.Common.{◌∙◌, ap, sym}
use Rattle.om_reader.specs.Forms.{valued_label}
use Rattle.om_reader.proofs.LabelLemmas.{written}
use Rattle.om_reader.proofs.labels.valued.Goals as goal

pub returns-then-written-clause-label : goal.returns-then-written-clause-label
returns-then-written-clause-label c =
    let name = c.args.name.now in
    let k = written name c.in-Some.value.bytes.now c.in-Some.value.rest.now c.requires (sym c.in_ok-written.ensures ∙ c.if-written.true) in
    (k.0, ap (valued_label name) c.in-Some.ensures.part ∙ k.1, k.2)
