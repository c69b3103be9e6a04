use Rattle.std.proofs.Common.{sym}
use Rattle.scrape_config.proofs.DefaultLemmas.{item_count_view}
use Rattle.scrape_config.proofs.defaults.count_under.Goals as goal

pub returns : goal.returns
returns c = rw (← c.list_under.ensures) (sym (item_count_view c.list_under.result.now))
