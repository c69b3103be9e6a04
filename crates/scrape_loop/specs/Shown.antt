-- What a cache shows of a scrape.
use Rattle.std.specs.Prelude.{◌≡◌, List}
use Rattle.label_set.specs.declared.texts.Pair.{Pair}
use Rattle.sample_rows.specs.declared.scrape.Scrape.{Scrape}
use Rattle.series_cache.specs.Caches.{CacheView, now_sets, shown_sets}
use Rattle.series_cache.specs.Sets.{has}
use Rattle.scrape_loop.specs.Tracked.{samples_of, sets_in, tracked_in}

-- the texts that were shown since the last turn have just the sets of the samples of a scrape, and those that are tracked have just the sets of
-- its samples by which their series are tracked
pub record Shows (c : CacheView) (s : Scrape) : Type 0 where
  pub tracked : (x : List Pair) → has x (now_sets c.texts) ≡ has x (tracked_in (samples_of s))
  pub all : (x : List Pair) → has x (shown_sets c.texts) ≡ has x (sets_in (samples_of s))
