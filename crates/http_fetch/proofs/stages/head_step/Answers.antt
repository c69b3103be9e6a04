use Rattle.std.proofs.Common.{sym, subst, drop}
use Rattle.http_fetch.specs.declared.stages.Stage.{Stage}
use Rattle.http_fetch.specs.declared.stages.Stage.TheVariants.{Heads}
use Rattle.http_fetch.specs.Steps.{Steps}
use Rattle.http_fetch.proofs.StepLemmas.{head-step, head-never}
use Rattle.http_fetch.specs.Kinds.{StageKind}
use Rattle.http_fetch.proofs.KindLemmas.{head-kind}
use Rattle.http_fetch.proofs.stages.head_step.Goals as goal

pub returns-in-Found-clause-leads : goal.returns-in-Found-clause-leads
returns-in-Found-clause-leads c =
    subst (λ (n : Stage). Steps (Heads c.args.left) c.args.limit c.args.got c.args.text.now (n, c.in-Found.len)) (sym c.after_head.ensures)
    (head-step c.args.text.now c.in-Found.status c.in-Found.len c.in-Found.framing c.in-Found.kind c.args.limit c.args.left c.args.got c.in-Found.ensures)

pub returns-in-Never-clause-leads : goal.returns-in-Never-clause-leads
returns-in-Never-clause-leads c = rw (c.lost.ensures.next, c.lost.ensures.used) (head-never c.args.text.now c.args.limit c.args.left c.args.got c.requires c.in-Never.ensures)

pub returns-in-Found-clause-kind : goal.returns-in-Found-clause-kind
returns-in-Found-clause-kind c =
    subst (λ (n : Stage). StageKind n c.in-Found.kind c.args.left c.args.text.now (drop c.in-Found.len c.args.text.now)) (sym c.after_head.ensures)
    (head-kind c.args.text.now c.in-Found.status c.in-Found.len c.in-Found.framing c.in-Found.kind c.args.limit c.args.left c.in-Found.ensures)

pub returns-in-Never-clause-kind : goal.returns-in-Never-clause-kind
returns-in-Never-clause-kind c = rw c.lost.ensures.next tt
