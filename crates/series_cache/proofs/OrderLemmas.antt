-- Where label sets stand in their order.
use Rattle.std.proofs.Common.{◌≡◌, ◌||◌, false, List, [], ◌∷◌, refl, ap, ap₂, ◌∙◌}
use Rattle.std.specs.List.{AllByRecursion}
use Rattle.std.specs.Ordering.{is_eq, ordering_reverse}
use Rattle.std.specs.declared.cmp.Ordering.{Ordering}
use Rattle.std.specs.declared.cmp.Ordering.TheVariants.{Less}
use Rattle.label_set.specs.Sets.{set_cmp, sets_total}
use Rattle.label_set.specs.declared.texts.Pair.{Pair}
use Rattle.series_cache.specs.Sets.{has}

-- the order of two sets, turned round
pub turned : (x y : List Pair) (o : Ordering) → set_cmp y x ≡ o → set_cmp x y ≡ ordering_reverse o
turned x y o e = sets_total.antisymm x y ∙ ap ordering_reverse e

-- no set is among those above it
unfoldable pub above : List Pair → List (List Pair) → Type 0
above x ys = AllByRecursion (λ (y : List Pair). set_cmp x y ≡ Less) ys

pub none-above : (x : List Pair) (ys : List (List Pair)) → above x ys → has x ys ≡ false
unfolding above
none-above x [] h = refl
none-above x (y ∷ ys) h = ap₂ (λ a b. a || b) (ap is_eq h.0) (none-above x ys h.1)

pub above-more : (x y : List Pair) (ys : List (List Pair)) → set_cmp x y ≡ Less → above y ys → above x ys
unfolding above
above-more x y [] e h = tt
above-more x y (z ∷ zs) e h = (sets_total.trans x y z e h.0, above-more x y zs e h.1)
