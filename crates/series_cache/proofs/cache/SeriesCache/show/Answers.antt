use Rattle.std.proofs.Common.{ℕ, List, sym, subst}
use Rattle.series_cache.specs.declared.known.Known.{Known}
use Rattle.series_cache.proofs.CacheLemmas.{Held, held_stamped}
use Rattle.series_cache.proofs.cache.SeriesCache.show.Goals as goal

pub invariant_of-self : goal.invariant_of-self
invariant_of-self c =
    subst (λ (us : List (List ℕ × Known)). Held c.self.inside.kept us) (sym (c.stamp.ensures.stamped c.args.raw.now c.in-Some.ensures.place))
    (held_stamped c.self.inside.kept c.args.raw.now c.args.tracked c.self.inside.texts c.self.invariant)
