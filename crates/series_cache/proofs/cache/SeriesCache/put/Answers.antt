use Rattle.std.proofs.Common.{ℕ, List, option_map, sym, ap, subst, ◌∙◌}
use Rattle.std.proofs.lemmas.Result.{on_ok_weaker}
use Rattle.series_cache.specs.declared.known.Known.{Known}
use Rattle.series_cache.specs.Caches.{CacheView, find, look_up}
use Rattle.series_cache.specs.Remembered.{fresh}
use Rattle.series_cache.proofs.TextLemmas.{known_last, unknown}
use Rattle.series_cache.proofs.CacheLemmas.{Held, either, held_put, look_put}
use Rattle.series_cache.proofs.cache.SeriesCache.put.Goals as goal

pub invariant_of-self : goal.invariant_of-self
invariant_of-self c =
    let n = c.self.inside.kept in
    let ts = c.self.inside.texts in
    either c.push.result c.push.ensures.ok c.push.ensures.err
    (λ d. subst (λ (us : List (List ℕ × Known)). Held n us) (sym d) (held_put n ts c.args.raw.now c.args.set c.self.invariant))
    (λ d. subst (λ (us : List (List ℕ × Known)). Held n us) (sym d) c.self.invariant)

pub returns-clause-known : goal.returns-clause-known
returns-clause-known c =
    let ts = c.self.inside.texts in
    let raw = c.args.raw.now in
    let none = unknown (find raw ts) (ap (λ (v : CacheView). look_up raw v.texts) c.self.view_is ∙ c.requires) in
    on_ok_weaker c.push.result (λ d. ap (look_up raw) d ∙ ap (option_map (λ (k : Known). k.set)) (known_last raw ts (fresh c.args.set) none)) c.push.ensures.ok

pub returns-clause-others : goal.returns-clause-others
returns-clause-others c =
    let ts = c.self.inside.texts in
    on_ok_weaker c.push.result (λ d r e. ap (look_up r) d ∙ look_put c.args.raw.now r (fresh c.args.set) ts e ∙ ap (λ (v : CacheView). look_up r v.texts) c.self.view_is) c.push.ensures.ok
