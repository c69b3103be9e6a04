-- How a raw text is hashed: its bytes are the digits of a number, of whose value at a base so much counts as a prime leaves.
use Rattle.std.specs.Prelude.{ℕ, ◌+◌, ◌*◌, ◌%◌, ◌^◌, List}
use Rattle.std.specs.List.{fold}
use Rattle.series_cache.specs.declared.seeded.TextHasher.{TextHasher}

abbrev pub prime : ℕ
prime = 4294967291

-- what is left with one digit more
abbrev pub with_digit : ℕ → ℕ → ℕ → ℕ
with_digit base left digit = ((left * base % 2 ^ 64 + digit) % 2 ^ 64) % prime

-- once these bytes were written
abbrev pub fed : TextHasher → List ℕ → TextHasher
fed h bytes = record { base = h.base; left = fold (with_digit h.base) h.left bytes }

-- what is left, over all 64 bits
abbrev pub spread : ℕ → ℕ
spread left = left * 11400714819323198485 % 2 ^ 64
