use Rattle.http_fetch.proofs.StepLemmas.{trailer-step, trailer-end, trailer-never}
use Rattle.http_fetch.proofs.stages.trailer_step.Goals as goal

pub returns-in-Found-clause-leads : goal.returns-in-Found-clause-leads
returns-in-Found-clause-leads c = trailer-step c.args.text.now c.in-Found.len c.args.room c.args.limit c.args.got c.in-Found.ensures.0 c.in-Found.ensures.1 c.in-Found.ensures.2

pub returns-in-Last-clause-leads : goal.returns-in-Last-clause-leads
returns-in-Last-clause-leads c = trailer-end c.args.text.now c.in-Last.len c.args.room c.args.limit c.args.got c.in-Last.ensures.0 c.in-Last.ensures.1

pub returns-in-Never-clause-leads : goal.returns-in-Never-clause-leads
returns-in-Never-clause-leads c = rw (c.lost.ensures.next, c.lost.ensures.used) (trailer-never c.args.text.now c.args.room c.args.limit c.args.got c.requires c.in-Never.ensures)
