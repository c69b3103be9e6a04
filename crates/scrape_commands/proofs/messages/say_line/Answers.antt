use Rattle.std.proofs.Common.{codes, ◌++◌, refl}
use Rattle.std.specs.Fmt.{decimal}
use Rattle.scrape_commands.proofs.SaidLemmas.{said_then, cut_then}
use Rattle.scrape_commands.proofs.messages.say_line.Goals as goal

pub returns-in-Ok : goal.returns-in-Ok
returns-in-Ok g c =
    said_then _ (codes "scrape: openmetrics line ") (decimal c.args.line ++ codes "\n") refl _ _ _ c.in-Ok.ensures.whole c.say_number.ensures

pub returns-in-Err : goal.returns-in-Err
returns-in-Err g c = cut_then _ (codes "scrape: openmetrics line ") (decimal c.args.line ++ codes "\n") refl _ c.in-Err.ensures.cut
