use Rattle.std.proofs.Common.{rules, ap₂, ◌≡◌, ◌∙◌}
use Rattle.clap.specs.Words.{rule_of, with_rule}
use Rattle.command_words.specs.Arguments.{turns_rule, run_app}
use Rattle.command_words.proofs.arguments.run_grammar.Goals as goal

pub returns : goal.returns
unfolding run_app
returns c =
    let turns_is : rule_of c.required-turns.result ≡ turns_rule = search rules in
    c.in_ok-whole.ensures.shape (search rules)
    ∙ ap₂ with_rule (c.in_ok-with_kept.ensures.shape (search rules)
    ∙ ap₂ with_rule (c.in_ok-with_turns.ensures.shape (search rules) ∙ ap₂ with_rule c.bare.ensures turns_is) c.flag.ensures.rule) c.word.ensures.rule
