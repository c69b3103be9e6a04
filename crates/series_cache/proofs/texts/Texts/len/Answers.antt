use Rattle.std.proofs.Common.{subst}
use Rattle.series_cache.specs.Places.{AreDistinct}
use Rattle.series_cache.proofs.TextLemmas.{distinct_texts}
use Rattle.series_cache.proofs.texts.Texts.len.Goals as goal

pub returns-clause-distinct : goal.returns-clause-distinct
returns-clause-distinct c = subst AreDistinct c.self.view_is (distinct_texts c.self.inside.entries.entries c.len.ensures.unique)
