-- The entries up to a place.
use Rattle.std.proofs.Common.{◌≡◌, ℕ, ◌+◌, ◌<◌, List, [], ◌∷◌, ◌++◌, length, take, get_or, sym, ap, ◌∙◌, arith}
use Rattle.std.specs.Prelude.{None, Some, slice_get}
use Rattle.std.proofs.lemmas.List.{take_more}
use Rattle.std.proofs.lemmas.Option.{slice_get-get_or, slice_get_within, get_or_from_slice_get}
use Rattle.report_samples.specs.declared.entries.Entry.{Entry}

-- a place within a list has an item
pub none_past : {X : Type 0} (xs : List X) (i : ℕ) → slice_get xs i ≡ None → i < length xs → ⊥
none_past [] i e lt = omega arith
none_past (x ∷ xs) i e lt = let q : None ≡ Some (get_or (x ∷ xs) i x) = sym e ∙ slice_get-get_or (x ∷ xs) i x lt in absurd (cc)

-- one more entry of those that are taken
pub one_more : (xs : List Entry) (i : ℕ) (e : Entry) → slice_get xs i ≡ Some e → take (i + 1) xs ≡ take i xs ++ e ∷ []
one_more xs i e at = take_more xs i e (slice_get_within xs i e at) ∙ ap (λ z. take i xs ++ z ∷ []) (get_or_from_slice_get xs i e e at)
