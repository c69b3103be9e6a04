-- A set has a value of a name where one of its labels bears it.
use Rattle.std.proofs.Common.{◌≡◌, ℕ, true, false, List, [], ◌∷◌, Option, Some, None, option_map, refl, ap, ◌∙◌, ⊎_elim, is_some}
use Rattle.std.specs.Str.{bytes_eq}
use Rattle.std.proofs.lemmas.Bool.{cases_Bool}
use Rattle.label_set.specs.Sets.{value_of}
use Rattle.label_set.specs.declared.texts.Pair.{Pair}
use Rattle.label_conflict.specs.Merging.{bears}

pub value-bears : (ps : List Pair) (name : List ℕ) → is_some (value_of ps name) ≡ bears ps name
value-bears [] name = refl
value-bears (p ∷ ps) name =
    ⊎_elim
    (λ (e : bytes_eq p.name name ≡ true). rw e refl)
    (λ (e : bytes_eq p.name name ≡ false). rw e (value-bears ps name))
    (cases_Bool (bytes_eq p.name name))

-- and a value that is borrowed says the same
pub borrowed-bears : {V : Type 0} (f : V → List ℕ) (r : Option V) (ps : List Pair) (name : List ℕ) → option_map f r ≡ value_of ps name → is_some r ≡ bears ps name
borrowed-bears f None ps name e = ap is_some e ∙ value-bears ps name
borrowed-bears f (Some v) ps name e = ap is_some e ∙ value-bears ps name
