-- The values of samples as a grammar: how they are written (Prometheus documentation, "Exposition formats", comments, help text and type information).
-- It says which values there are by what they are put together from, and knows nothing of how they are read.
use Rattle.std.specs.Prelude.{◌≡◌, ◌≢◌, ◌⊎◌, ◌↔◌, ◌≤◌, ℕ, IsTrue, true, List, [], ◌∷◌, ◌++◌, length, codes}
use Rattle.std.specs.Char.{is_ascii_digit}
use Rattle.std.specs.List.{list_all}
use Rattle.std.specs.Str.{str_to_ascii_lowercase}
use Rattle.value_text.specs.Values.{is_value}

-- digits alone
abbrev pub AreDigits : List ℕ → Type 0
AreDigits bs = list_all is_ascii_digit bs ≡ true

-- `+`, `-` or nothing
abbrev pub IsSign : List ℕ → Type 0
IsSign bs = (bs ≡ []) ⊎ ((bs ≡ codes "+") ⊎ (bs ≡ codes "-"))

-- `e` or `E`, a sign and a digit at least; or nothing
abbrev pub IsExponent : List ℕ → Type 0
IsExponent bs =
    (bs ≡ [])
    ⊎ ((e : ℕ) × (sign : List ℕ) × (digits : List ℕ) × ((e ≡ 101) ⊎ (e ≡ 69)) × IsSign sign × AreDigits digits
    × (digits ≢ []) × (bs ≡ e ∷ (sign ++ digits)))

-- digits, or a point with digits before or behind it; one digit at least
abbrev pub IsMantissa : List ℕ → Type 0
IsMantissa bs =
    (AreDigits bs × (bs ≢ []))
    ⊎ ((whole : List ℕ) × (part : List ℕ) × AreDigits whole × AreDigits part × ((whole ≢ []) ⊎ (part ≢ [])) × (bs ≡ whole ++ 46 ∷ part))

-- a number with no sign
abbrev pub IsNumber : List ℕ → Type 0
IsNumber bs = (mantissa : List ℕ) × (exponent : List ℕ) × IsMantissa mantissa × IsExponent exponent × (bs ≡ mantissa ++ exponent)

-- a word in any case
abbrev pub IsWord : List ℕ → List ℕ → Type 0
IsWord word bs = str_to_ascii_lowercase bs ≡ word

-- what may have a sign: a number, or a word for infinity
abbrev pub MayHaveSign : List ℕ → Type 0
MayHaveSign bs = IsNumber bs ⊎ (IsWord (codes "inf") bs ⊎ IsWord (codes "infinity") bs)

-- a value: one of these behind a sign, or `nan`; 128 bytes at most
abbrev pub IsValue : List ℕ → Type 0
IsValue bs =
    (length bs ≤ 128)
    × (((sign : List ℕ) × (rest : List ℕ) × IsSign sign × MayHaveSign rest × (bs ≡ sign ++ rest)) ⊎ IsWord (codes "nan") bs)

-- the test of a value accepts what is written as one, and nothing else
abbrev pub ReadsTheValues : Type 0
ReadsTheValues = (bytes : List ℕ) → IsTrue (is_value bytes) ↔ IsValue bytes
