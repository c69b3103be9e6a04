use Rattle.std.proofs.Common.{◌≡◌, ◌∙◌, List, ap, ap₂, subst}
use Rattle.std.specs.Prelude.{Option, IfOk, slice_get}
use Rattle.outside.specs.declared.requests.Request.{Request}
use Rattle.scrape_machine.specs.declared.lives.Life.{Life}
use Rattle.scrape_machine.specs.declared.lives.StartedScrape.{StartedScrape}
use Rattle.scrape_machine.specs.Machine.{World, world_of}
use Rattle.scrape_core.specs.Readers.{start_request, request}
use Rattle.scrape_core.proofs.AskLemmas.{request_awaited}
use Rattle.scrape_core.proofs.machine.Core.request.Goals as goal

pub returns-clause-request : goal.returns-clause-request
unfolding request
returns-clause-request c =
    let k = c.args.ticket in
    let read = ap₂ (λ (ls : List Life) (ss : List StartedScrape). start_request ls (slice_get ss k)) c.deref.ensures.value c.deref-2.ensures.value in
    let kept = ap (λ (w : World). start_request w.lives (slice_get w.started k)) (c.self.invariant.0.state ∙ ap world_of c.self.view_is) in
    subst (λ (x : Option Request). IfOk c.request_in.result (λ o. o ≡ x)) (read ∙ kept) c.request_in.ensures.request

pub returns-clause-awaited : goal.returns-clause-awaited
returns-clause-awaited c = request_awaited c.args.self.now c.args.ticket c.request_in.result (returns-clause-request c)
