use Rattle.std.proofs.Common.{rules, ap₂, ◌∙◌}
use Rattle.clap.specs.Words.{with_rule}
use Rattle.command_words.specs.Arguments.{serve_app}
use Rattle.command_words.proofs.arguments.serve_grammar.Goals as goal

pub returns : goal.returns
unfolding serve_app
returns c =
    c.in_ok-whole.ensures.shape (search rules)
    ∙ ap₂ with_rule (c.in_ok-with_script.ensures.shape (search rules) ∙ ap₂ with_rule c.bare.ensures c.word.ensures.rule) c.word-2.ensures.rule
