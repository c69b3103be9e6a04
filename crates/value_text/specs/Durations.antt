-- Durations as a configuration writes them (Prometheus documentation, "Configuration", `<duration>`):
-- `((([0-9]+)y)?(([0-9]+)w)?(([0-9]+)d)?(([0-9]+)h)?(([0-9]+)m)?(([0-9]+)s)?(([0-9]+)ms)?|0)`, not empty.
use Rattle.std.specs.Prelude.{ℕ, ◌+◌, ◌*◌, ◌^◌, ℤ, pos, Bool, not, List, [], ◌∷◌, length, drop, take_while, Option, Some, None, option_map, Result, Ok, Err, codes, ◌&&◌, nat_le, nat_lt, if◌then◌else◌}
use Rattle.std.specs.Char.{is_ascii_digit}
use Rattle.std.specs.Str.{bytes_eq}
use Rattle.std.specs.Str.Parse.{digits_value}
use Rattle.value_text.specs.Values.{digits}
use Rattle.value_text.specs.declared.durations.Unit.{Unit}
use Rattle.value_text.specs.declared.durations.Unit.TheVariants.{Year, Week, Day, Hour, Minute, Second, Millisecond}
use Rattle.value_text.specs.declared.durations.BadDuration.{BadDuration}

-- the units in the order in which their numbers may stand
abbrev pub units : List Unit
units = Year ∷ Week ∷ Day ∷ Hour ∷ Minute ∷ Second ∷ Millisecond ∷ []

-- how a unit is written
unfoldable pub unit_text : Unit → List ℕ
unit_text Year = codes "y"
unit_text Week = codes "w"
unit_text Day = codes "d"
unit_text Hour = codes "h"
unit_text Minute = codes "m"
unit_text Second = codes "s"
unit_text Millisecond = codes "ms"

-- how many milliseconds it has; a year has 365 days, a week 7
unfoldable pub unit_millis : Unit → ℕ
unit_millis Year = 365 * 24 * 60 * 60 * 1000
unit_millis Week = 7 * 24 * 60 * 60 * 1000
unit_millis Day = 24 * 60 * 60 * 1000
unit_millis Hour = 60 * 60 * 1000
unit_millis Minute = 60 * 1000
unit_millis Second = 1000
unit_millis Millisecond = 1

-- the number that the digits in front spell
abbrev pub front_number : List ℕ → ℕ
front_number bs = digits_value 10 (take_while is_ascii_digit bs)

-- what stands between those digits and the next ones
abbrev pub front_word : List ℕ → List ℕ
front_word bs = take_while (λ b. not (is_ascii_digit b)) (drop (digits bs) bs)

-- whether a number in this unit stands in front
unfoldable pub begins_with : Unit → List ℕ → Bool
begins_with unit bs = nat_lt 0 (digits bs) && bytes_eq (front_word bs) (unit_text unit)

-- what follows the digits in front and that word
abbrev pub behind : List ℕ → List ℕ
behind bs = drop (length (front_word bs)) (drop (digits bs) bs)

-- the milliseconds of a text that is, for each of the units in turn, a number in it or nothing
abbrev pub in_units : List Unit → List ℕ → Option ℕ
in_units [] [] = Some 0
in_units [] (b ∷ bs) = None
in_units (unit ∷ later) bs =
    if begins_with unit bs then option_map (λ n. front_number bs * unit_millis unit + n) (in_units later (behind bs)) else in_units later bs

-- the milliseconds of a duration
unfoldable pub duration : List ℕ → Option ℕ
duration [] = None
duration (b ∷ bs) = if bytes_eq (b ∷ bs) (codes "0") then Some 0 else in_units units (b ∷ bs)

-- a number of milliseconds, 2^40 at most
abbrev pub within_limit : Option ℕ → Result ℤ BadDuration
within_limit None = Err (record {})
within_limit (Some n) = if nat_le n (2 ^ 40) then Ok (pos n) else Err (record {})
