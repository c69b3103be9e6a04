use Rattle.std.proofs.Common.{sym}
use Rattle.scrape_config.proofs.ReadLemmas.{json_of-text, json_of-no_text}
use Rattle.scrape_config.proofs.read.json_of.Goals as goal

pub returns-in_default : goal.returns-in_default
returns-in_default c = sym (json_of-no_text c.args.bytes.now c.in_default.ensures.cases.0)

pub returns-in-Ok-from_str : goal.returns-in-Ok-from_str
returns-in-Ok-from_str c =
    rw (json_of-text c.args.bytes.now c.in-Ok.ensures.cases.1, ← c.in-Ok.ensures.cases.0, c.in-Ok-from_str.ensures.ok)
