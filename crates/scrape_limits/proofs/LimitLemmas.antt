-- Where there is no limit, nothing is past it.
use Rattle.std.proofs.Common.{◌≡◌, ℕ, false, List, [], ◌∷◌, length, refl}
use Rattle.std.specs.List.{list_any}
use Rattle.label_set.specs.declared.texts.Pair.{Pair}
use Rattle.scrape_limits.specs.Limits.{is_past}

pub no_long_name : (ps : List Pair) → list_any (λ (p : Pair). is_past 0 (length p.name)) ps ≡ false
no_long_name [] = refl
no_long_name (p ∷ ps) = no_long_name ps

pub no_long_value : (ps : List Pair) → list_any (λ (p : Pair). is_past 0 (length p.value)) ps ≡ false
no_long_value [] = refl
no_long_value (p ∷ ps) = no_long_value ps
