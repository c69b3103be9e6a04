use Rattle.std.proofs.Common.{codes, ◌++◌, ◌∙◌, refl}
use Rattle.std.specs.Fmt.{decimal}
use Rattle.scrape_commands.specs.Scripts.{cause_word}
use Rattle.scrape_commands.proofs.SaidLemmas.{said_named, cut_named}
use Rattle.scrape_commands.proofs.messages.say_script.Goals as goal

pub returns-in-Ok : goal.returns-in-Ok
returns-in-Ok g c =
    said_named (codes "scrape: script ") (cause_word c.args.fault.now.cause) (codes " at ") (decimal c.args.fault.now.offset ++ codes "\n") _ _
    (c.as_bytes-word.ensures.value ∙ c.cause_word.ensures) refl _ _ _
    c.in-Ok.ensures.whole c.say_number.ensures

pub returns-in-Err : goal.returns-in-Err
returns-in-Err g c =
    cut_named (codes "scrape: script ") (cause_word c.args.fault.now.cause) (codes " at ") (decimal c.args.fault.now.offset ++ codes "\n") _ _
    (c.as_bytes-word.ensures.value ∙ c.cause_word.ensures) refl _
    c.in-Err.ensures.cut
