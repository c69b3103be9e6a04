use Rattle.series_cache.proofs.CacheLemmas.{held_none}
use Rattle.series_cache.proofs.cache.SeriesCache.hashed.Goals as goal

pub invariant_of-result : goal.invariant_of-result
invariant_of-result c = held_none c.new.result c.new.ensures
