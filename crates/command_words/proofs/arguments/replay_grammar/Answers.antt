use Rattle.std.proofs.Common.{rules, ap₂, ◌∙◌}
use Rattle.clap.specs.Words.{with_rule}
use Rattle.command_words.specs.Arguments.{replay_app}
use Rattle.command_words.proofs.arguments.replay_grammar.Goals as goal

pub returns : goal.returns
unfolding replay_app
returns c =
    c.in_ok-whole.ensures.shape (search rules)
    ∙ ap₂ with_rule (c.in_ok-with_cut.ensures.shape (search rules)
    ∙ ap₂ with_rule (c.in_ok-with_kept.ensures.shape (search rules) ∙ ap₂ with_rule c.bare.ensures c.flag.ensures.rule) c.flag-2.ensures.rule) c.word.ensures.rule
