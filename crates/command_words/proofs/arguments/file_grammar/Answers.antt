use Rattle.std.proofs.Common.{rules, ap₂, ◌∙◌}
use Rattle.clap.specs.Words.{with_rule}
use Rattle.command_words.specs.Arguments.{file_app}
use Rattle.command_words.proofs.arguments.file_grammar.Goals as goal

pub returns : goal.returns
unfolding file_app
returns c = c.in_ok-whole.ensures.shape (search rules) ∙ ap₂ with_rule c.bare.ensures c.word.ensures.rule
