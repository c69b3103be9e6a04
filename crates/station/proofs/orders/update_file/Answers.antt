use Rattle.turn_lock.specs.Passes.{own_of}
use Rattle.jobs_in_force.specs.Jobs.{updated}
use Rattle.run_lock.specs.Callers.{IsAnswered, jobs_known}
use Rattle.run_lock.specs.declared.tasks.ControlOrder.TheVariants.{Update}
use Rattle.station.proofs.OrderLemmas.{if_some_is, on_some, update_done}
use Rattle.station.proofs.orders.update_file.Goals as goal

pub returns-in-Some-clause-does : goal.returns-in-Some-clause-does
returns-in-Some-clause-does g c =
    let jobs = jobs_known g.B.Asked.start (own_of c.args.seat.now.pass) in
    let text = c.in-Ok-Text.text in
    update_done (g.S.Shelf.seen c.args.shelf.now).files jobs c.args.job c.args.file text (own_of c.args.seat.now.pass) (own_of c.carry_out-answer.new.self.pass) c.refusal_of.result c.in-Ok-Text.field-0 c.in-Ok-Text.field-0-is c.in-Ok-Text.ensures.found
    (on_some c.carry_out-answer.result c.in-Some.answer c.in-Some.is c.carry_out-answer.ensures.ordered)
    (c.refusal_of.ensures (updated jobs c.args.job c.args.file text) (if_some_is (IsAnswered jobs (Update c.args.job c.args.file text)) c.carry_out-answer.result c.in-Some.answer c.in-Some.is c.carry_out-answer.ensures.answer))
