use Rattle.http_fetch.proofs.StepLemmas.{end-found, end-never}
use Rattle.http_fetch.proofs.stages.end_step.Goals as goal

pub returns-in-Found-clause-leads : goal.returns-in-Found-clause-leads
returns-in-Found-clause-leads c = end-found c.args.text.now c.args.limit c.args.got c.in-Found.ensures

pub returns-in-Never-clause-leads : goal.returns-in-Never-clause-leads
returns-in-Never-clause-leads c = rw (c.lost.ensures.next, c.lost.ensures.used) (end-never c.args.text.now c.args.limit c.args.got c.requires c.in-Never.ensures)
