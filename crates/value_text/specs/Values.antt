-- The values of samples (Prometheus documentation, "Exposition formats", comments, help text and type information: the value of a sample line).
use Rattle.std.specs.Prelude.{ℕ, Bool, not, List, length, drop, slice_index, ◌&&◌, ◌||◌, ◌==◌, nat_le, nat_lt, codes, if◌then◌else◌}
use Rattle.std.specs.List.{list_all, prefix_len}
use Rattle.std.specs.Char.{is_ascii_digit}
use Rattle.std.specs.Str.{bytes_eq, str_to_ascii_lowercase}

-- a plus or a minus
unfoldable pub is_sign : ℕ → Bool
is_sign b = (b == 43) || (b == 45)

-- the bytes behind a sign, if there is one
abbrev pub unsigned : List ℕ → List ℕ
unsigned bs = if is_sign (slice_index bs 0) then drop 1 bs else bs

-- how many digits stand in front
abbrev pub digits : List ℕ → ℕ
digits bs = prefix_len is_ascii_digit bs

-- digits and nothing else, one at least
abbrev pub is_digits : List ℕ → Bool
is_digits bs = not (length bs == 0) && list_all is_ascii_digit bs

-- nothing, or an exponent: `e` or `E`, a sign or none, digits
unfoldable pub is_exponent : List ℕ → Bool
is_exponent bs = (length bs == 0) || (((slice_index bs 0 == 101) || (slice_index bs 0 == 69)) && is_digits (unsigned (drop 1 bs)))

-- what may follow n digits and a point: digits, one at least where n is 0, and an exponent or nothing
abbrev pub is_fraction : ℕ → List ℕ → Bool
is_fraction n rest = (nat_lt 0 n || nat_lt 0 (digits rest)) && is_exponent (drop (digits rest) rest)

-- what may follow n digits: a point with a fraction, or where n isn't 0 an exponent or nothing
abbrev pub is_tail : ℕ → List ℕ → Bool
is_tail n rest = if slice_index rest 0 == 46 then is_fraction n (drop 1 rest) else nat_lt 0 n && is_exponent rest

-- `([0-9]+(\.[0-9]*)?|\.[0-9]+)([eE][+-]?[0-9]+)?`
abbrev pub is_number : List ℕ → Bool
is_number bs = is_tail (digits bs) (drop (digits bs) bs)

-- a word for infinity, in any case
abbrev pub is_infinity : List ℕ → Bool
is_infinity bs = bytes_eq (str_to_ascii_lowercase bs) (codes "inf") || bytes_eq (str_to_ascii_lowercase bs) (codes "infinity")

-- at most 128 bytes: a number or a word for infinity, each with a sign or none, or `nan` in any case without a sign
unfoldable pub is_value : List ℕ → Bool
is_value bs =
    nat_le (length bs) 128
    && (is_number (unsigned bs) || (is_infinity (unsigned bs) || bytes_eq (str_to_ascii_lowercase bs) (codes "nan")))
