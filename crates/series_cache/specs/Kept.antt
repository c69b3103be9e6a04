-- What holds of the texts of a cache at any time.
use Rattle.std.specs.Prelude.{◌≡◌, ℕ, true, false, ◌||◌, not, List, drop}
use Rattle.std.specs.List.{AllByRecursion}
use Rattle.series_cache.specs.declared.known.Known.{Known}

-- each text that is tracked was shown
unfoldable pub AreShown : List (List ℕ × Known) → Type 0
AreShown ts = AllByRecursion (λ (t : List ℕ × Known). (not t.1.tracked || t.1.shown) ≡ true) ts

-- none of the texts behind the first so many was tracked in the last turn
unfoldable pub AreNew : ℕ → List (List ℕ × Known) → Type 0
AreNew kept ts = AllByRecursion (λ (t : List ℕ × Known). t.1.was_tracked ≡ false) (drop kept ts)
