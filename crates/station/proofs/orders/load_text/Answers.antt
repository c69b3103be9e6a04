use Rattle.std.proofs.Common.{◌∙◌, sym, subst}
use Rattle.std.specs.Prelude.{Result, IfSome}
use Rattle.turn_lock.specs.Passes.{own_of}
use Rattle.jobs_in_force.specs.Jobs.{loaded}
use Rattle.run_lock.specs.Callers.{IsAnswered, jobs_known}
use Rattle.run_lock.specs.declared.tasks.ControlOrder.TheVariants.{Load}
use Rattle.station.specs.Control.{Does, load_taken}
use Rattle.station.specs.declared.ends.Stop.{Stop}
use Rattle.station.proofs.OrderLemmas.{if_some_is, on_some, load_refused, load_done, taken_of}
use Rattle.station.proofs.orders.load_text.Goals as goal

pub returns-in-Some-fault_of-clause-does : goal.returns-in-Some-fault_of-clause-does
returns-in-Some-fault_of-clause-does g c =
    let jobs = jobs_known g.B.Asked.start (own_of c.args.seat.now.pass) in
    let text = c.args.text in
    load_refused (g.S.Shelf.seen c.args.shelf.now).files jobs text c.in-Some-fault_of.fault (own_of c.args.seat.now.pass) (own_of c.carry_out-answer.new.self.pass)
    (sym c.in-Some-fault_of.is ∙ c.fault_of.ensures (loaded jobs text) (if_some_is (IsAnswered jobs (Load text)) c.carry_out-answer.result c.in-Some.answer c.in-Some.is c.carry_out-answer.ensures.answer))
    (on_some c.carry_out-answer.result c.in-Some.answer c.in-Some.is c.carry_out-answer.ensures.ordered)

pub returns-in-Ok-clause-does : goal.returns-in-Ok-clause-does
returns-in-Ok-clause-does g c =
    let start = g.B.Asked.start in
    let text = c.args.text in
    let o = (g.S.Shelf.seen c.args.shelf.now).files in
    let v = own_of c.args.seat.now.pass in
    let u = own_of c.read_listed-done.new.seat.pass in
    let jobs = jobs_known start v in
    subst (λ (r : Result (Unit {0}) Stop). IfSome o (λ files. Does (taken_of r) (load_taken files text (loaded jobs text)) v u)) c.in-Ok.is
    (load_done c.read_listed-done.result o start text v (own_of c.carry_out-answer.new.self.pass) u
    (sym c.in_default-fault_of.is ∙ c.fault_of.ensures (loaded jobs text) (if_some_is (IsAnswered jobs (Load text)) c.carry_out-answer.result c.in-Some.answer c.in-Some.is c.carry_out-answer.ensures.answer))
    (on_some c.carry_out-answer.result c.in-Some.answer c.in-Some.is c.carry_out-answer.ensures.ordered) c.read_listed-done.ensures.orders)

pub returns-in-Err-clause-does : goal.returns-in-Err-clause-does
returns-in-Err-clause-does g c =
    let start = g.B.Asked.start in
    let text = c.args.text in
    let o = (g.S.Shelf.seen c.args.shelf.now).files in
    let v = own_of c.args.seat.now.pass in
    let u = own_of c.read_listed-done.new.seat.pass in
    let jobs = jobs_known start v in
    subst (λ (r : Result (Unit {0}) Stop). IfSome o (λ files. Does (taken_of r) (load_taken files text (loaded jobs text)) v u)) c.in-Err.is
    (load_done c.read_listed-done.result o start text v (own_of c.carry_out-answer.new.self.pass) u
    (sym c.in_default-fault_of.is ∙ c.fault_of.ensures (loaded jobs text) (if_some_is (IsAnswered jobs (Load text)) c.carry_out-answer.result c.in-Some.answer c.in-Some.is c.carry_out-answer.ensures.answer))
    (on_some c.carry_out-answer.result c.in-Some.answer c.in-Some.is c.carry_out-answer.ensures.ordered) c.read_listed-done.ensures.orders)
