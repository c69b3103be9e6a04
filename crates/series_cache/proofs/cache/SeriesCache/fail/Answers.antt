use Rattle.std.proofs.Common.{ℕ, List, map, sym, ap, subst, ◌∙◌}
use Rattle.series_cache.specs.declared.known.Known.{Known}
use Rattle.series_cache.specs.Caches.{CacheView, look_up, now_sets, was_sets, failed}
use Rattle.series_cache.proofs.CacheLemmas.{Held, held_failed, failed_known, now_failed, was_failed}
use Rattle.series_cache.proofs.cache.SeriesCache.fail.Goals as goal

pub invariant_of-self : goal.invariant_of-self
invariant_of-self c =
    let n = c.self.inside.kept in
    subst (λ (us : List (List ℕ × Known)). Held n us) (sym (c.fail.ensures ∙ ap (map failed) c.cut.ensures)) (held_failed n c.self.inside.texts c.self.invariant.0)

pub returns-clause-known : goal.returns-clause-known
returns-clause-known c = λ r set h.
    sym (ap (λ (v : CacheView). look_up r v.texts) c.self.view_is)
    ∙ failed_known r set c.self.inside.kept c.self.inside.texts (sym (ap (look_up r) (c.fail.ensures ∙ ap (map failed) c.cut.ensures)) ∙ h)

pub returns-clause-was : goal.returns-clause-was
returns-clause-was c = ap was_sets c.fail.ensures ∙ was_failed c.cut.new.self

pub returns-clause-tracked : goal.returns-clause-tracked
returns-clause-tracked c = ap now_sets c.fail.ensures ∙ now_failed c.cut.new.self
