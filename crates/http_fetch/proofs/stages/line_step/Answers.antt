use Rattle.std.proofs.Common.{◌∙◌, ap, sym, subst}
use Rattle.http_fetch.specs.declared.stages.Stage.{Stage}
use Rattle.http_fetch.specs.declared.stages.Stage.TheVariants.{Line}
use Rattle.http_fetch.specs.Steps.{Steps, after_line}
use Rattle.http_fetch.proofs.StepLemmas.{line-step, line-never}
use Rattle.http_fetch.proofs.KindLemmas.{line-behind}
use Rattle.http_fetch.proofs.stages.line_step.Goals as goal

pub returns-in-Found-clause-leads : goal.returns-in-Found-clause-leads
returns-in-Found-clause-leads c =
    subst (λ (n : Stage). Steps Line c.args.limit c.args.got c.args.text.now (n, c.in-Found.len)) (sym (c.after_line.ensures ∙ ap (after_line c.in-Found.size) c.saturating_sub.ensures))
    (line-step c.args.text.now c.in-Found.len c.in-Found.size c.args.limit c.args.got c.in-Found.ensures)

pub returns-in-Never-clause-leads : goal.returns-in-Never-clause-leads
returns-in-Never-clause-leads c = rw (c.lost.ensures.next, c.lost.ensures.used) (line-never c.args.text.now c.args.limit c.args.got c.requires c.in-Never.ensures)

pub returns-in-Found-clause-kind : goal.returns-in-Found-clause-kind
returns-in-Found-clause-kind c = rw c.after_line.ensures (line-behind c.in-Found.size c.saturating_sub.result)
