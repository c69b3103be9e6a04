-- Digits in front of a text, and what a duration is read by.
use Rattle.std.proofs.Common.{◌≡◌, ℕ, ◌+◌, ◌*◌, ◌<◌, ◌≤◌, true, false, List, [], ◌∷◌, length, Option, option_map, refl, arith, nat_lt, ◌==◌, codes}
use Rattle.std.proofs.lemmas.Bool.Decides.{nat_tests}
use Rattle.value_text.specs.Values.{digits}
use Rattle.std.specs.Str.{bytes_eq}
use Rattle.std.proofs.Math.Nat.{le-mul_of_pos_right}
use Rattle.value_text.proofs.DigitLemmas.{both}
use Rattle.value_text.specs.Durations.{unit_text, unit_millis, in_units, begins_with, front_word, duration, units}
use Rattle.value_text.specs.declared.durations.Unit.{Unit}
use Rattle.value_text.specs.declared.durations.Unit.TheVariants.{Year, Week, Day, Hour, Minute, Second, Millisecond}

-- a number in a unit is no smaller than the number
some_millis : (unit : Unit) → 1 ≤ unit_millis unit
unfolding unit_millis
some_millis Year = omega arith
some_millis Week = omega arith
some_millis Day = omega arith
some_millis Hour = omega arith
some_millis Minute = omega arith
some_millis Second = omega arith
some_millis Millisecond = omega arith

pub less-by_unit : (n : ℕ) (unit : Unit) → n ≤ n * unit_millis unit
less-by_unit n unit = le-mul_of_pos_right n (some_millis unit)

-- a total with what comes later
abbrev pub onto : ℕ → Option ℕ → Option ℕ
onto total later = option_map (λ n. total + n) later

-- a number stands there only where there is a digit
pub begins-some : (unit : Unit) (bs : List ℕ) → begins_with unit bs ≡ true → 0 < digits bs
unfolding begins_with
begins-some unit bs e = let k = both (nat_lt 0 (digits bs)) (bytes_eq (front_word bs) (unit_text unit)) e in let some = k.0 in grind (arith, nat_tests)

-- what is neither nothing nor `0`
pub duration-in_units : (bs : List ℕ) → (length bs == 0) ≡ false → bytes_eq bs (codes "0") ≡ false → duration bs ≡ in_units units bs
unfolding duration
duration-in_units [] some other = absurd cc
duration-in_units (b ∷ bs) some other = rw other refl
