-- Timestamps, and durations as they are written.
use Rattle.std.specs.Prelude.{ℕ, ◌+◌, ◌/◌, ◌%◌, ◌^◌, ℤ, pos, negsuc, Bool, List, [], ◌∷◌, ◌++◌, Option, Some, None, ◌&&◌, nat_lt, if◌then◌else◌}
use Rattle.std.specs.Str.Parse.{signed_digits_value}
use Rattle.std.specs.Fmt.{decimal}
use Rattle.value_text.specs.Values.{is_digits, unsigned}

-- from -2^63 to 2^63 - 1
abbrev pub is_in_range : ℤ → Bool
is_in_range (pos n) = nat_lt n (2 ^ 63)
is_in_range (negsuc n) = nat_lt n (2 ^ 63)

-- a sign or none and digits, a number in that range: the milliseconds of a timestamp
-- (Prometheus documentation, "Exposition formats": the timestamp of a sample line)
unfoldable pub millis : List ℕ → Option ℤ
millis bs = if is_digits (unsigned bs) && is_in_range (signed_digits_value 10 bs) then Some (signed_digits_value 10 bs) else None

-- the number of what isn't negative
abbrev pub number : ℤ → ℕ
number (pos n) = n
number (negsuc n) = 0

-- the last three digits of a number
abbrev pub three_digits : ℕ → List ℕ
three_digits n = (48 + n / 100 % 10) ∷ (48 + n / 10 % 10) ∷ (48 + n % 10) ∷ []

-- milliseconds as seconds with three decimals
unfoldable pub seconds3 : ℕ → List ℕ
seconds3 ms = decimal (ms / 1000) ++ 46 ∷ three_digits ms
