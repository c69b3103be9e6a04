use Rattle.std.proofs.Common.{◌≡◌, ℕ, List, ◌++◌, Option, None, Some, IfSome, sym, ap, subst, ◌∙◌}
use Rattle.label_set.specs.declared.texts.Pair.{Pair}
use Rattle.series_cache.specs.declared.known.Known.{Known}
use Rattle.series_cache.specs.Caches.{CacheView, look_up, now_sets, was_sets, set_if}
use Rattle.series_cache.specs.Sets.{has}
use Rattle.series_cache.proofs.CacheLemmas.{Held, held_stamped, look_stamped, was_stamped, now_stamped}
use Rattle.series_cache.proofs.cache.SeriesCache.stamp.Goals as goal

pub invariant_of-self : goal.invariant_of-self
invariant_of-self c =
    subst (λ (us : List (List ℕ × Known)). Held c.self.inside.kept us) (sym c.show-self-inside.ensures.stamped)
    (held_stamped c.self.inside.kept c.args.raw.now c.args.tracked c.self.inside.texts c.self.invariant)

pub returns-clause-known : goal.returns-clause-known
returns-clause-known c = λ r.
    ap (look_up r) c.show-self-inside.ensures.stamped ∙ look_stamped c.args.raw.now r c.args.tracked c.self.inside.texts ∙ ap (λ (v : CacheView). look_up r v.texts) c.self.view_is

pub returns-clause-was : goal.returns-clause-was
returns-clause-was c =
    ap was_sets c.show-self-inside.ensures.stamped ∙ was_stamped c.args.raw.now c.args.tracked c.self.inside.texts ∙ ap (λ (v : CacheView). was_sets v.texts) c.self.view_is

pub returns-clause-tracked : goal.returns-clause-tracked
returns-clause-tracked c = by (look_up c.args.raw.now c.args.self.now.texts) (ap (λ (v : CacheView). look_up c.args.raw.now v.texts) c.self.view_is)
  where
    by : (o : Option (Option (List Pair))) → look_up c.args.raw.now c.self.inside.texts ≡ o →
        IfSome o (λ (set : Option (List Pair)). (x : List Pair) → has x (now_sets c.show-self-inside.new.self) ≡ has x (now_sets c.args.self.now.texts ++ set_if c.args.tracked set))
    by None e = tt
    by (Some set) e = λ x.
        ap (λ (us : List (List ℕ × Known)). has x (now_sets us)) c.show-self-inside.ensures.stamped
        ∙ now_stamped c.args.raw.now c.args.tracked set c.self.inside.texts c.show-self-inside.ensures.distinct e x
        ∙ ap (λ (v : CacheView). has x (now_sets v.texts ++ set_if c.args.tracked set)) c.self.view_is
