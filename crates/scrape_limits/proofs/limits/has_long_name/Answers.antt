use Rattle.std.proofs.Common.{sym}
use Rattle.scrape_limits.proofs.LimitLemmas.{no_long_name}
use Rattle.scrape_limits.proofs.limits.has_long_name.Goals as goal

pub returns-else-limit-ne0 : goal.returns-else-limit-ne0
returns-else-limit-ne0 c = rw c.if-limit-ne0.false (sym (no_long_name c.args.set.now))
