use Rattle.std.proofs.Common.{ℕ, List, length, sym, ap, subst, ◌∙◌}
use Rattle.series_cache.specs.declared.known.Known.{Known}
use Rattle.series_cache.specs.Caches.{CacheView, look_up, now_sets, was_sets, shown_of}
use Rattle.series_cache.proofs.CacheLemmas.{Held, held_turned, turned_known, now_turned, was_turned}
use Rattle.series_cache.proofs.cache.SeriesCache.renew.Goals as goal

pub invariant_of-self : goal.invariant_of-self
invariant_of-self c =
    let n = c.len-self-inside.result in
    let ts = shown_of c.self.inside.texts in
    let e = c.renew.ensures.renewed in
    subst (λ (us : List (List ℕ × Known)). Held n us) (sym e) (held_turned n ts (c.len-self-inside.ensures.len ∙ ap length e))

pub returns-clause-known : goal.returns-clause-known
returns-clause-known c = λ r set h.
    sym (ap (λ (v : CacheView). look_up r v.texts) c.self.view_is)
    ∙ turned_known r set c.self.inside.texts c.renew.ensures.distinct (sym (ap (look_up r) c.renew.ensures.renewed) ∙ h)

pub returns-clause-was : goal.returns-clause-was
returns-clause-was c = ap was_sets c.renew.ensures.renewed ∙ was_turned c.self.inside.texts c.self.invariant.1 ∙ ap (λ (v : CacheView). now_sets v.texts) c.self.view_is

pub returns-clause-tracked : goal.returns-clause-tracked
returns-clause-tracked c = ap now_sets c.renew.ensures.renewed ∙ now_turned (shown_of c.self.inside.texts)
