-- Timestamps of OpenMetrics: real numbers, seconds of the Unix epoch (OpenMetrics 1.0, "Timestamps", and "ABNF", `timestamp = realnumber`).
use Rattle.std.specs.Prelude.{ℕ, ◌+◌, ◌-◌, min, ℤ, pos, neg_ℤ, Bool, List, [], ◌++◌, length, take, drop, slice_index, replicate, Option, Some, None, ◌&&◌, ◌==◌, nat_le, if◌then◌else◌}
use Rattle.std.specs.Str.Parse.{digits_value}
use Rattle.value_text.specs.Numbers.{is_in_range}
use Rattle.value_text.specs.Values.{digits, is_number, unsigned}
use Rattle.om_reader.specs.declared.stamps.Millis.{Millis}

-- of a number with no sign: the digits before its point, or all where it has none, and what follows them
abbrev pub whole : List ℕ → List ℕ
whole bs = take (digits bs) bs

abbrev pub behind_whole : List ℕ → List ℕ
behind_whole bs = drop (digits bs) bs

abbrev pub has_point : List ℕ → Bool
has_point bs = slice_index (behind_whole bs) 0 == 46

-- the digits behind its point
abbrev pub part : List ℕ → List ℕ
part bs = if has_point bs then whole (drop 1 (behind_whole bs)) else []

-- its exponent: nothing, or `e` or `E`, a sign or none, and digits
abbrev pub exponent : List ℕ → List ℕ
exponent bs = if has_point bs then behind_whole (drop 1 (behind_whole bs)) else behind_whole bs

-- by how many places an exponent moves the point, and whether to the left
abbrev pub power : List ℕ → ℕ
power x = digits_value 10 (unsigned (drop 1 x))

abbrev pub is_lowered : List ℕ → Bool
is_lowered x = slice_index x 1 == 45

-- before how many digits the point stands once it is moved by the exponent and by three places to the right
unfoldable pub point_place : ℕ → List ℕ → ℕ
point_place n x = if is_lowered x then n + 3 - power x else n + 3 + power x

-- the same place where no power counts for more than 1000; a number of 64 bits has far fewer digits, so that none sees a difference
unfoldable pub near_place : ℕ → List ℕ → ℕ
near_place n x = if is_lowered x then n + 3 - min (power x) 1000 else n + 3 + min (power x) 1000

-- so many digits in front, with zeros behind those that are there
unfoldable pub digits_before : ℕ → List ℕ → List ℕ
digits_before place ds = take place (ds ++ replicate place 48)

-- the number with its point moved three places to the right, and what stands behind the point dropped
unfoldable pub thousands : List ℕ → ℕ
thousands bs = digits_value 10 (digits_before (point_place (length (whole bs)) (exponent bs)) (whole bs ++ part bs))

-- a number with a sign
abbrev pub signed : Bool → ℕ → ℤ
signed minus n = if minus then neg_ℤ (pos n) else pos n

abbrev pub is_minus : List ℕ → Bool
is_minus bs = slice_index bs 0 == 45

-- the milliseconds of a timestamp: `[+-]?([0-9]+(\.[0-9]*)?|\.[0-9]+)([eE][+-]?[0-9]+)?` of at most 128 bytes, as milliseconds from -2^63 to 2^63 - 1
unfoldable pub stamp_millis : List ℕ → Option ℤ
stamp_millis bs =
    let ms = signed (is_minus bs) (thousands (unsigned bs)) in
    if (nat_le (length bs) 128 && is_number (unsigned bs)) && is_in_range ms then Some ms else None

-- what was read
abbrev pub millis_of : Millis → ℤ
millis_of m = signed m.minus m.count
