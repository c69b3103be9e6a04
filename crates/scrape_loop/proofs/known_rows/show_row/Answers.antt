use Rattle.scrape_loop.proofs.TextLemmas.{stamp_same}
use Rattle.scrape_loop.proofs.known_rows.show_row.Goals as goal

pub returns-in-Some-clause-undone : goal.returns-in-Some-clause-undone
returns-in-Some-clause-undone g c =
    stamp_same c.raw.result.now c.is_tracked.result c.args.cache.now c.show.new.self (rw c.in-Some.is at c.in_ok-series.ensures.texts) c.in_ok-series.ensures.kept
