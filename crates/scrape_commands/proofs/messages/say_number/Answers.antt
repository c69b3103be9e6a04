use Rattle.std.proofs.Common.{codes, ◌∙◌}
use Rattle.std.specs.Fmt.{decimal}
use Rattle.scrape_commands.proofs.SaidLemmas.{said_then, cut_then}
use Rattle.scrape_commands.proofs.messages.say_number.Goals as goal

pub returns-in-Ok : goal.returns-in-Ok
returns-in-Ok g c =
    said_then _ (decimal c.args.number) (codes "\n") (c.as_bytes.ensures.value ∙ c.format.ensures.text) _ _ _ c.in-Ok.ensures.whole c.say_text.ensures

pub returns-in-Err : goal.returns-in-Err
returns-in-Err g c = cut_then _ (decimal c.args.number) (codes "\n") (c.as_bytes.ensures.value ∙ c.format.ensures.text) _ c.in-Err.ensures.cut
