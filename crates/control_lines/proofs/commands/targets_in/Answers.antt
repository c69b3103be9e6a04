use Rattle.std.proofs.Common.{◌≡◌, sym, subst, ◌∙◌, arith}
use Rattle.std.specs.Prelude.{Some, None, Option, IfOk}
use Rattle.std.proofs.lemmas.Str.Pattern.{split_once_first}
use Rattle.control_lines.specs.declared.commands.Command.{Command}
use Rattle.control_lines.proofs.CommandLemmas.{targets_garbled, targets_unbroken, targets_of}
use Rattle.control_lines.proofs.commands.targets_in.Goals as goal

pub returns-in_default-clause-command : goal.returns-in_default-clause-command
returns-in_default-clause-command c = targets_garbled c.args.names.now c.in_default.ensures.cases.0

pub returns-in-Some-clause-command : goal.returns-in-Some-clause-command
returns-in-Some-clause-command c =
    subst
    (λ (t : Option Command). IfOk c.named_targets.result (λ o. o ≡ t))
    (targets_of c.args.names.now c.in-Ok.names.now c.in-Some.job.now c.in-Some.file.now c.in-Ok.ensures.cases.0 (split_once_first 32 c.in-Ok.names.now (Some (c.in-Some.job, c.in-Some.file)) c.in-Some.ensures.cases (omega arith)) c.in-Ok.ensures.cases.1)
    c.named_targets.ensures.command

pub returns-in-None-clause-command : goal.returns-in-None-clause-command
returns-in-None-clause-command c =
    targets_unbroken c.args.names.now c.in-Ok.names.now c.in-Ok.ensures.cases.0 (split_once_first 32 c.in-Ok.names.now None c.in-None.ensures.cases (omega arith)) c.in-Ok.ensures.cases.1
