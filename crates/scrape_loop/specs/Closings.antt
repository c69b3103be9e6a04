-- What a life leaves behind when it is closed.
use Rattle.std.specs.Prelude.{ℤ}
use Rattle.report_samples.specs.declared.closing.Closing.{Closing}
use Rattle.scrape_loop.specs.Tracked.{LifeView}

-- of a life whose next scrape is planned at a moment, closed at another one, with this scrape interval: the sets that its last counted scrape tracked,
-- and whether there was one
abbrev pub closing_of : LifeView → ℤ → ℤ → ℤ → Closing
closing_of l planned closed interval =
    record {
      life = l.life;
      target = l.target;
      tracked = l.tracked;
      scraped = l.scraped;
      planned = planned;
      closed = closed;
      interval = interval;
      extra = l.extra;
    }
