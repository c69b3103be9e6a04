use Rattle.std.proofs.Common.{codes, ◌++◌, ◌∙◌, subst}
use Rattle.outside.specs.Objects.{used}
use Rattle.scrape_commands.specs.Ends.{IsSaid}
use Rattle.scrape_commands.proofs.messages.say_selector.Goals as goal

pub returns : goal.returns
returns g c =
    subst (λ word. IsSaid (codes "scrape: selector " ++ (word ++ codes "\n")) (used (g.E.Sink.seen c.args.err.now) (g.E.Sink.seen c.say_three.new.err)))
    (c.as_bytes-word.ensures.value ∙ c.selector_word.ensures) c.say_three.ensures
