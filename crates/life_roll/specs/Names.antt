-- The places of names in a list.
use Rattle.std.specs.Prelude.{◌≡◌, ℕ, ◌+◌, Bool, List, [], ◌∷◌, Option, Some, None, option_map, if◌then◌else◌}
use Rattle.std.specs.Str.{bytes_eq}

-- the first place of a name
abbrev pub place_in : List ℕ → List (List ℕ) → Option ℕ
place_in name [] = None
place_in name (x ∷ xs) = if bytes_eq name x then Some 0 else option_map (λ p. p + 1) (place_in name xs)

-- the place of a name, where one more name has place q; the first place counts
abbrev pub noted : Option ℕ → Bool → ℕ → Option ℕ
noted (Some p) same q = Some p
noted None same q = if same then Some q else None
