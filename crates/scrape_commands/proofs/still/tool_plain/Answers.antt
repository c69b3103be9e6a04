use Rattle.scrape_commands.proofs.StillLemmas.{still_by}
use Rattle.scrape_commands.proofs.still.tool_plain.Goals as goal

pub returns : goal.returns
returns g c = rw c.status_at.ensures (still_by c.run-ending.result.end _ c.run-ending.ensures.ends (c.run-ending.ensures.speaks _ c.tell.ensures))
