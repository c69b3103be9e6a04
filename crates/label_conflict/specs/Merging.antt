-- The labels of a sample: those of its line joined with those of its target ("Configuration", scrape_config, honor_labels).
use Rattle.std.specs.Prelude.{ℕ, zero, suc, Bool, true, false, not, ◌&&◌, ◌==◌, List, [], ◌∷◌, ◌++◌, filter, find, map, length, codes, Option, None, Some}
use Rattle.std.specs.List.{list_any}
use Rattle.std.specs.Str.{bytes_eq}
use Rattle.label_set.specs.SetText.{metric_label}
use Rattle.label_set.specs.declared.texts.Pair.{Pair}
use Rattle.label_conflict.specs.Orders.{by_name, by_length, in_order}

-- a label with an empty value is no label
abbrev pub has_value : Pair → Bool
has_value p = not (length p.value == 0)

-- whether one of the labels bears a name
abbrev pub bears : List Pair → List ℕ → Bool
bears labels name = list_any (λ (p : Pair). bytes_eq p.name name) labels

-- the names of labels
abbrev pub names_of : List Pair → List (List ℕ)
names_of = map (λ (p : Pair). p.name)

-- the metric name, where there is one, as the value of `__name__`
abbrev pub name_label : List ℕ → List Pair
name_label [] = []
name_label (b ∷ bs) = record { name = metric_label; value = b ∷ bs } ∷ []

-- of some labels those with a value whose names none of the others bears
abbrev pub apart_from : List Pair → List Pair → List Pair
apart_from others = filter (λ (p : Pair). has_value p && not (bears others p.name))

-- the conflicts: exposed labels with a value whose names the target bears too, shorter names first, then by name
abbrev pub conflicts : List Pair → List Pair → List Pair
conflicts exposed target = in_order by_length (filter (λ (p : Pair). has_value p && bears target p.name) exposed)

-- `exported_` in front of a name
abbrev pub exported : List ℕ → List ℕ
exported name = codes "exported_" ++ name

-- a name with `exported_` in front of it once, twice, .., n times
abbrev pub exported_names : ℕ → List ℕ → List (List ℕ)
exported_names zero name = []
exported_names (suc n) name = exported name ∷ exported_names n (exported name)

-- the first of these names that no label bears; there is one within as many as there are labels and one more
unfoldable pub free_name : List Pair → List ℕ → Option (List ℕ)
free_name labels name = find (λ n. not (bears labels n)) (exported_names (suc (length labels)) name)

-- the labels, and a label of a value under the free name
abbrev pub with_free : List Pair → List ℕ → Option (List ℕ) → List Pair
with_free labels value None = labels
with_free labels value (Some name) = labels ++ record { name = name; value = value } ∷ []

-- conflicts settled one after another, each among the labels that there are by then
abbrev pub settled : List Pair → List Pair → List Pair
settled [] labels = labels
settled (p ∷ ps) labels = settled ps (with_free labels p.value (free_name labels p.name))

-- the labels, in any order: where the line is honoured, its own and those of the target whose names it doesn't expose;
-- else those of the target and its own, the conflicts renamed
abbrev pub joined : List ℕ → List Pair → List Pair → Bool → List Pair
joined name exposed target true = name_label name ++ (filter has_value exposed ++ apart_from exposed target)
joined name exposed target false = settled (conflicts exposed target) (name_label name ++ (apart_from target exposed ++ target))

-- the set of these labels: names rising
unfoldable pub merged : List ℕ → List Pair → List Pair → Bool → List Pair
merged name exposed target honor = in_order by_name (joined name exposed target honor)
