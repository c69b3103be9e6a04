-- What the actions that go over labels do to each of them.
use Rattle.std.specs.Prelude.{ℕ, Bool, List, [], ◌∷◌, not, Option, None, Some, if◌then◌else◌}
use Rattle.label_set.specs.Bytes.{is_label_name}
use Rattle.label_set.specs.declared.texts.Pair.{Pair}
use Rattle.pattern_rule.specs.Patterns.{TemplateOf, matches}

-- what is found is wanted, or its contrary is
abbrev pub is_wanted : Bool → Bool → Bool
is_wanted keep found = if keep then found else not found

-- a label stays: its name matches, or doesn't
abbrev pub stays : Bool → List ℕ → Pair → Bool
stays keep pattern p = is_wanted keep (matches pattern p.name)

-- the label that a name and a value make, where there is a name and it is a label name
abbrev pub label_of : Option (List ℕ) → List ℕ → List Pair
label_of None value = []
label_of (Some name) value = if is_label_name name then record { name = name; value = value } ∷ [] else []

-- a template that was read for a pattern
abbrev pub template_of : List ℕ → List ℕ → TemplateOf
template_of pattern text = record { pattern = pattern; text = text }

-- what an option holds, as a list
abbrev pub option_list : {X : Type 0} → Option X → List X
option_list None = []
option_list (Some x) = x ∷ []

-- the labels, or none
abbrev pub kept_where : Bool → List Pair → Option (List Pair)
kept_where keep set = if keep then Some set else None
