use Rattle.std.proofs.Common.{codes, ◌++◌, ◌∙◌}
use Rattle.control_lines.specs.Faults.{fault_word, fault_place, fault_limit}
use Rattle.scrape_commands.proofs.SaidLemmas.{said_named, cut_named}
use Rattle.scrape_commands.proofs.messages.say_fault.Goals as goal

pub returns-in-Ok : goal.returns-in-Ok
returns-in-Ok g c =
    said_named (codes "scrape: config ") (fault_word c.args.fault.now) (fault_place c.args.fault.now) (fault_limit c.args.fault.now ++ codes "\n") _ _
    (c.as_bytes-word.ensures.value ∙ c.fault_word.ensures) (c.as_bytes-place.ensures.value ∙ c.fault_place.ensures) _ _ _
    c.in-Ok.ensures.whole c.say_limit.ensures

pub returns-in-Err : goal.returns-in-Err
returns-in-Err g c =
    cut_named (codes "scrape: config ") (fault_word c.args.fault.now) (fault_place c.args.fault.now) (fault_limit c.args.fault.now ++ codes "\n") _ _
    (c.as_bytes-word.ensures.value ∙ c.fault_word.ensures) (c.as_bytes-place.ensures.value ∙ c.fault_place.ensures) _
    c.in-Err.ensures.cut
