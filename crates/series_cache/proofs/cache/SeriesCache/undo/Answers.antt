use Rattle.std.proofs.Common.{ℕ, List, map, sym, ap, subst, ◌∙◌}
use Rattle.series_cache.specs.declared.known.Known.{Known}
use Rattle.series_cache.specs.Caches.{CacheView, look_up, now_sets, was_sets, unshown}
use Rattle.series_cache.proofs.CacheLemmas.{Held, held_undone, undone_known, now_undone, was_undone}
use Rattle.series_cache.proofs.cache.SeriesCache.undo.Goals as goal

pub invariant_of-self : goal.invariant_of-self
invariant_of-self c =
    let n = c.self.inside.kept in
    subst (λ (us : List (List ℕ × Known)). Held n us) (sym (c.unshow.ensures ∙ ap (map unshown) c.cut.ensures)) (held_undone n c.self.inside.texts c.self.invariant.0)

pub returns-clause-known : goal.returns-clause-known
returns-clause-known c = λ r set h.
    sym (ap (λ (v : CacheView). look_up r v.texts) c.self.view_is)
    ∙ undone_known r set c.self.inside.kept c.self.inside.texts (sym (ap (look_up r) (c.unshow.ensures ∙ ap (map unshown) c.cut.ensures)) ∙ h)

pub returns-clause-was : goal.returns-clause-was
returns-clause-was c =
    ap was_sets (c.unshow.ensures ∙ ap (map unshown) c.cut.ensures) ∙ was_undone c.self.inside.kept c.self.inside.texts c.self.invariant.2
    ∙ ap (λ (v : CacheView). was_sets v.texts) c.self.view_is

pub returns-clause-tracked : goal.returns-clause-tracked
returns-clause-tracked c = ap now_sets c.unshow.ensures ∙ now_undone c.cut.new.self
