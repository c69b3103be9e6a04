use Rattle.std.proofs.Common.{◌∙◌}
use Rattle.std.specs.Prelude.{Some, None}
use Rattle.command_words.proofs.WordLemmas.{given_by}
use Rattle.command_words.proofs.arguments.is_given.Goals as goal

pub returns-in-Some : goal.returns-in-Some
returns-in-Some c = c.eq.ensures ∙ given_by c.args.id.now c.args.matches.now (Some c.in-Some.value.now) c.in-Some.ensures

pub returns-in-None : goal.returns-in-None
returns-in-None c = given_by c.args.id.now c.args.matches.now None c.in-None.ensures
