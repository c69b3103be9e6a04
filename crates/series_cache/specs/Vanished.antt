-- The sets that may have vanished: those of texts that were tracked in the last turn and aren't since. Of these the ones that no other text has did.
use Rattle.std.specs.Prelude.{ℕ, Bool, ◌&&◌, not, List, flat_map}
use Rattle.label_set.specs.declared.texts.Pair.{Pair}
use Rattle.series_cache.specs.declared.known.Known.{Known}
use Rattle.series_cache.specs.Caches.{set_if}

-- a text was tracked in the last turn, and isn't since
abbrev pub is_lost : Known → Bool
is_lost k = k.was_tracked && not k.tracked

-- the sets of such texts
abbrev pub lost_sets : List (List ℕ × Known) → List (List Pair)
lost_sets ts = flat_map (λ (t : List ℕ × Known). set_if (is_lost t.1) t.1.set) ts
