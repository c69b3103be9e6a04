use Rattle.std.proofs.Common.{◌∙◌, List, ap, to_z, of_z, w64}
use Rattle.journal_text.specs.declared.events.Event.{Event}
use Rattle.journal_text.specs.declared.events.Event.TheVariants.{Load}
use Rattle.scrape_machine.specs.Machine.{answer, world_of}
use Rattle.live_run.proofs.LoadLemmas.{load_refused, load_taken}
use Rattle.live_run.proofs.first_load.step_load.Goals as goal

pub returns-in-Some-clause-refused : goal.returns-in-Some-clause-refused
returns-in-Some-clause-refused g c =
    let m = to_z w64 (of_z w64 c.args.moment) in
    load_refused m c.args.text c.in-Ok-take.answer c.fault_of.result c.in-Some.fault
    (c.in-Ok-take.ensures.answer ∙ ap (λ (es : List Event). answer (world_of es) (Load m c.args.text)) c.in-Ok.ensures) c.fault_of.ensures c.in-Some.is

pub returns-in-None-clause-taken : goal.returns-in-None-clause-taken
returns-in-None-clause-taken g c =
    let m = to_z w64 (of_z w64 c.args.moment) in
    load_taken m c.args.text c.in-Ok-take.answer c.fault_of.result
    (c.in-Ok-take.ensures.answer ∙ ap (λ (es : List Event). answer (world_of es) (Load m c.args.text)) c.in-Ok.ensures) c.fault_of.ensures c.in-None.is
