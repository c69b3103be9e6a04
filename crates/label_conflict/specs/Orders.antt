-- Labels in an order.
use Rattle.std.specs.Prelude.{List, [], ◌∷◌, ◌++◌, filter, not, length}
use Rattle.std.specs.Ordering.{is_lt, nat_cmp, ordering_then}
use Rattle.std.specs.declared.cmp.Ordering.{Ordering}
use Rattle.label_set.specs.Bytes.{bytes_cmp}
use Rattle.label_set.specs.declared.texts.Pair.{Pair}

-- by name, byte by byte
abbrev pub by_name : Pair → Pair → Ordering
by_name p q = bytes_cmp p.name q.name

-- by the length of the name in bytes, and then by name
abbrev pub by_length : Pair → Pair → Ordering
by_length p q = ordering_then (nat_cmp (length p.name) (length q.name)) (bytes_cmp p.name q.name)

-- an item put behind those that are less than it, before the others
abbrev pub placed : {X : Type 0} → (X → X → Ordering) → X → List X → List X
placed cmp x xs = filter (λ y. is_lt (cmp y x)) xs ++ x ∷ filter (λ y. not (is_lt (cmp y x))) xs

-- items in rising order
abbrev pub in_order : {X : Type 0} → (X → X → Ordering) → List X → List X
in_order cmp [] = []
in_order cmp (x ∷ xs) = placed cmp x (in_order cmp xs)
