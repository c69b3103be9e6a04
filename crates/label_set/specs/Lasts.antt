-- Labels put one after another.
use Rattle.std.specs.Prelude.{◌≡◌, ℕ, Bool, true, false, not, ◌&&◌, ◌==◌, List, [], ◌∷◌, length, if◌then◌else◌}
use Rattle.std.specs.Ordering.{is_lt}
use Rattle.label_set.specs.Bytes.{bytes_cmp}
use Rattle.std.specs.Str.{bytes_eq}
use Rattle.label_set.specs.Sets.{with_label}
use Rattle.label_set.specs.declared.texts.Pair.{Pair}
use Rattle.label_set.specs.Flat.{flat, AreLabels}

-- a set with labels put in, from the first on
abbrev pub with_labels : List Pair → List Pair → List Pair
with_labels set [] = set
with_labels set (p ∷ ps) = with_labels (with_label set p.name p.value) ps

-- a label with a value
abbrev pub some_label : Pair → List ℕ → List Pair → List Pair
some_label p [] ps = ps
some_label p (b ∷ bs) ps = p ∷ ps

-- whether the first label has a name
abbrev pub named_first : List ℕ → List Pair → Bool
named_first name [] = false
named_first name (p ∷ ps) = bytes_eq p.name name

-- of labels sorted by name, the last of each name, where it has a value
abbrev pub lasts : List Pair → List Pair
lasts [] = []
lasts (p ∷ ps) = if named_first p.name ps then lasts ps else some_label p p.value (lasts ps)

-- whether a label has a value, and a name below that of the first of others
abbrev pub is_before : Pair → List Pair → Bool
is_before p [] = true
is_before p (q ∷ ps) = is_lt (bytes_cmp p.name q.name)

abbrev pub leads : Pair → List Pair → Bool
leads p ps = not (length p.value == 0) && is_before p ps

-- whether labels are a set as they stand
abbrev pub is_ordered : List Pair → Bool
is_ordered [] = true
is_ordered (p ∷ ps) = leads p ps && is_ordered ps

pub record Encodes (bs : List ℕ) (ps : List Pair) : Type 0 where
  pub bytes : bs ≡ flat ps
  pub labels : AreLabels ps
