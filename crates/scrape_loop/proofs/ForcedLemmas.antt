-- Of a scrape that isn't made.
use Rattle.std.proofs.Common.{◌≡◌, List, [], ◌∷◌, refl, ap}
use Rattle.label_set.specs.declared.texts.Pair.{Pair}
use Rattle.series_cache.specs.Sets.{gone}

-- where there are no sets any more, all are gone
pub gone_all : (xs : List (List Pair)) → gone xs [] ≡ xs
gone_all [] = refl
gone_all (x ∷ xs) = ap (λ (ys : List (List Pair)). x ∷ ys) (gone_all xs)
