use Rattle.std.proofs.Common.{◌∙◌, ap, sym, subst}
use Rattle.instant_view.specs.Faults.{FaultIs}
use Rattle.instant_view.specs.Forms.{selector_in}
use Rattle.instant_view.proofs.RefusalLemmas.{not-written, refused-of, written-of}
use Rattle.instant_view.proofs.selector.Selector.read.Goals as goal

pub returns-in-Ok-clause-written : goal.returns-in-Ok-clause-written
returns-in-Ok-clause-written c =
    written-of c.args.text.now c.in-Ok.parts (ap selector_in (sym c.as_bytes.ensures.value) ∙ c.in-Ok.ensures) c.ready.result c.ready.ensures.parts

pub returns-in-Ok-clause-refused : goal.returns-in-Ok-clause-refused
returns-in-Ok-clause-refused c =
    refused-of c.args.text.now c.in-Ok.parts (ap selector_in (sym c.as_bytes.ensures.value) ∙ c.in-Ok.ensures) c.ready.result c.ready.ensures.refused

pub returns-in-Err-clause-refused : goal.returns-in-Err-clause-refused
returns-in-Err-clause-refused c = not-written c.in-Err.fault c.args.text.now (subst (λ t. FaultIs c.in-Err.fault (selector_in t)) c.as_bytes.ensures.value c.in-Err.ensures)
