use Rattle.std.proofs.Common.{◌≡◌, true, false, sym, ap, ◌∙◌, ℕ, List}
use Rattle.std.specs.Prelude.{Some}
use Rattle.control_lines.specs.declared.commands.Command.TheVariants.{Load}
use Rattle.control_lines.proofs.CommandLemmas.{load_garbled, load_of}
use Rattle.control_lines.proofs.commands.load_in.Goals as goal

pub returns-in_default-clause-command : goal.returns-in_default-clause-command
returns-in_default-clause-command c = load_garbled c.args.file.now c.in_default.ensures.cases.0

pub returns-then-not-is_name-clause-command : goal.returns-then-not-is_name-clause-command
returns-then-not-is_name-clause-command c = load_of c.args.file.now c.in-Ok.file.now false c.in-Ok.ensures.cases.0 c.in-Ok.ensures.cases.1 (sym c.if-not-is_name.ensures.is)

pub returns-clause-command : goal.returns-clause-command
returns-clause-command c =
    ap (λ (f : List ℕ). Some (Load f)) c.in_ok-file.ensures ∙ load_of c.args.file.now c.in-Ok.file.now true c.in-Ok.ensures.cases.0 c.in-Ok.ensures.cases.1 (sym c.if-not-is_name.ensures.is)
