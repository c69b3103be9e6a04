-- The sets that a scrape adds: those of the texts that were shown since the last turn which no text of the last good scrape has, each once.
use Rattle.std.specs.Prelude.{List}
use Rattle.label_set.specs.declared.texts.Pair.{Pair}
use Rattle.series_cache.specs.Caches.{CacheView, kept_sets, shown_sets}
use Rattle.series_cache.specs.Sets.{gone, rising}

abbrev pub added_sets : CacheView → List (List Pair)
added_sets c = gone (rising (shown_sets c.texts)) (kept_sets c)
