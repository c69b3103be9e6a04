use Rattle.series_cache.proofs.CacheLemmas.{held_none}
use Rattle.series_cache.proofs.cache.SeriesCache.clear.Goals as goal

pub invariant_of-self : goal.invariant_of-self
invariant_of-self c = held_none c.clear.new.self c.clear.ensures
