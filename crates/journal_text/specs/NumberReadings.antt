-- How the numbers of a line are read.
use Rattle.std.specs.Prelude.{ℕ, ◌+◌, ◌-◌, ◌^◌, Bool, not, List, length, take, drop, slice_index, ◌&&◌, ◌||◌, ◌==◌, nat_lt, nat_le, if◌then◌else◌, ℤ, pos, Option, Some, None, option_map}
use Rattle.std.specs.Str.Parse.{digits_value}
use Rattle.value_text.specs.Values.{digits}

-- one digit at least, and no leading zero
abbrev pub is_plain : List ℕ → Bool
is_plain ds = nat_lt 0 (length ds) && ((length ds == 1) || not (slice_index ds 0 == 48))

abbrev pub is_between : ℕ → ℕ → ℕ → Bool
is_between low high n = nat_le low n && nat_le n high

-- the number that digits spell, where it is in range
unfoldable pub number_in : ℕ → ℕ → List ℕ → Option ℕ
number_in low high ds =
    if is_plain ds && is_between low high (digits_value 10 ds) then Some (digits_value 10 ds) else None

-- a number in range that a given byte ends, and what follows that byte, where so many digits stand in front
abbrev pub field_at : ℕ → ℕ → ℕ → ℕ → List ℕ → Option (ℕ × List ℕ)
field_at low high stop count bytes =
    if slice_index bytes count == stop
    then option_map (λ n. (n, drop (count + 1) bytes)) (number_in low high (take count bytes))
    else None

unfoldable pub field : ℕ → ℕ → ℕ → List ℕ → Option (ℕ × List ℕ)
field low high stop bytes = field_at low high stop (digits bytes) bytes

-- a moment
unfoldable pub moment_field : ℕ → List ℕ → Option (ℤ × List ℕ)
moment_field stop bytes = option_map (λ p. (pos p.0, p.1)) (field 0 (2 ^ 52 - 1) stop bytes)

-- a number of 64 bits
abbrev pub word_field : ℕ → List ℕ → Option (ℕ × List ℕ)
word_field stop bytes = field 0 (2 ^ 64 - 1) stop bytes
