-- What the test of a pattern says.
use Rattle.std.proofs.Common.{◌≡◌, ◌≤◌, ◌<◌, ◌⊎◌, Bool, true, false, Option, None, Some, refl, inl, inr}
use Rattle.std.specs.Prelude.{nat_le, IsSomeAnd, IfSome}
use Rattle.std.specs.Option.{option_map_or}
use Rattle.std.proofs.lemmas.Bool.{le-leb, leb-true, leb-false, lt-leb}
use Rattle.regex_syntax.specs.Brackets.{Nested}
use Rattle.regex_syntax.specs.Grammar.{Names}
use Rattle.regex.specs.Patterns.{Re}

abbrev pub fits : Option (Nested Re × Names) → Bool
fits o = option_map_or (λ (re, _). nat_le re.depth 250) o false

pub fits-read : (o : Option (Nested Re × Names)) → fits o ≡ true → IsSomeAnd o (λ (re, _). re.depth ≤ 250)
fits-read None e = absurd cc
fits-read (Some (re, names)) e = leb-true re.depth 250 e

pub read-fits : (o : Option (Nested Re × Names)) → IsSomeAnd o (λ (re, _). re.depth ≤ 250) → fits o ≡ true
read-fits None h = absurd h
read-fits (Some (re, names)) h = le-leb re.depth 250 h

pub refused-unfit : (o : Option (Nested Re × Names)) → (o ≡ None) ⊎ IfSome o (λ (re, _). 250 < re.depth) → fits o ≡ false
refused-unfit None h = refl
refused-unfit (Some (re, names)) (inl e) = absurd cc
refused-unfit (Some (re, names)) (inr h) = lt-leb re.depth 250 h

pub unfit-refused : (o : Option (Nested Re × Names)) → fits o ≡ false → (o ≡ None) ⊎ IfSome o (λ (re, _). 250 < re.depth)
unfit-refused None e = inl refl
unfit-refused (Some (re, names)) e = inr (leb-false re.depth 250 e)
