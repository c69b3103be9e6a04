-- The faults of a text in the order of the walk through it: a value before its fields and items, fields by rising key, items by position;
-- a required field that is absent counts at its key.
use Rattle.std.specs.Prelude.{ℕ, ◌+◌, Bool, true, ◌&&◌, List, [], ◌∷◌, ◌++◌, Option, Some, None}
use Rattle.std.specs.Ordering.{match_ordering}
use Rattle.label_set.specs.Bytes.{bytes_cmp, is_label_name}
use Rattle.serde_json.specs.Data.{Data, Items, no_items, item, Members, no_members, member}
use Rattle.serde_json.specs.Find.{as_str, as_array, as_object}
use Rattle.config_fields.specs.Places.{field_place, item_place}
use Rattle.config_fields.specs.Faults.{placed}
use Rattle.config_fields.specs.Forms.{judged, is_text_of, flaw_of}
use Rattle.config_fields.specs.Tables.{field_of, owed_by, key_text}
use Rattle.config_fields.specs.declared.fault.ConfFault.{ConfFault}
use Rattle.config_fields.specs.declared.fault.Flaw.{Flaw}
use Rattle.config_fields.specs.declared.fault.Flaw.TheVariants as flaw
use Rattle.config_fields.specs.declared.forms.Kind.TheVariants as kind
use Rattle.config_fields.specs.declared.forms.TextForm.{TextForm}
use Rattle.config_fields.specs.declared.forms.TextForm.TheVariants as form
use Rattle.config_fields.specs.declared.tables.Field.{Field}
use Rattle.config_fields.specs.declared.tables.Field.TheVariants as field
use Rattle.config_fields.specs.declared.tables.ObjectKind.{ObjectKind}
use Rattle.config_fields.specs.declared.tables.Key.{Key}
use Rattle.config_fields.specs.declared.tables.Owed.{Owed}

-- the faults of a value in which a flaw was found or not
abbrev pub flaws : List ℕ → Option Flaw → List ConfFault
flaws place None = []
flaws place (Some f) = placed f place ∷ []

-- the faults of a value that is to be an object, a list or a text: none of its own where it is one
abbrev pub of_shape : {A : Type 0} → List ℕ → Option A → (A → List ConfFault) → List ConfFault
of_shape place None inner = placed flaw.Shape place ∷ []
of_shape place (Some a) inner = inner a

-- a text is of the form; what is no text passes, since it has a flaw of its own
abbrev pub passes : TextForm → Option (List ℕ) → Bool
passes form None = true
passes form (Some text) = is_text_of form text

-- the texts of a list are of the form
abbrev pub are_texts_of : TextForm → Items → Bool
are_texts_of form no_items = true
are_texts_of form (item d ds) = passes form (as_str d) && are_texts_of form ds

-- the items that are no texts, the first of them with number n
abbrev pub item_faults : List ℕ → ℕ → Items → List ConfFault
item_faults place n no_items = []
item_faults place n (item d ds) = flaws (item_place place n) (flaw_of (kind.Text form.Any) d) ++ item_faults place (n + 1) ds

-- a list of texts
unfoldable pub texts_faults : TextForm → List ℕ → Data → List ConfFault
texts_faults form place d = of_shape place (as_array d) (λ ds. flaws place (judged (Some (are_texts_of form ds))) ++ item_faults place 0 ds)

-- each name is a label name
abbrev pub are_label_names : Members → Bool
are_label_names no_members = true
are_label_names (member name d ms) = is_label_name name && are_label_names ms

-- the values that are no texts
abbrev pub value_faults : List ℕ → Members → List ConfFault
value_faults place no_members = []
value_faults place (member name d ms) = flaws (field_place place name) (flaw_of (kind.Text form.Any) d) ++ value_faults place ms

-- an object of texts under label names
unfoldable pub labels_faults : List ℕ → Data → List ConfFault
labels_faults place d = of_shape place (as_object d) (λ ms. flaws place (judged (Some (are_label_names ms))) ++ value_faults place ms)

-- lists of texts under names
abbrev pub lists_faults : List ℕ → Members → List ConfFault
lists_faults place no_members = []
lists_faults place (member name d ms) = texts_faults form.Any (field_place place name) d ++ lists_faults place ms

-- an object of lists of texts
unfoldable pub params_faults : List ℕ → Data → List ConfFault
params_faults place d = of_shape place (as_object d) (lists_faults place)

-- the value of a field that has no further objects
unfoldable pub field_faults : Field → List ℕ → Data → List ConfFault
field_faults field.Unknown place d = placed flaw.Unknown place ∷ []
field_faults (field.Plain kind) place d = flaws place (flaw_of kind d)
field_faults (field.Texts form) place d = texts_faults form place d
field_faults field.Labels place d = labels_faults place d
field_faults field.Params place d = params_faults place d

-- a required field that is absent
abbrev pub missing : List ℕ → Option Key → List ConfFault
missing place None = []
missing place (Some required) = placed flaw.Missing (field_place place (key_text required)) ∷ []

-- one that a walk passes by when it comes to a key
abbrev pub passed : Option Key → List ℕ → Option Key
passed None key = None
passed (Some required) key = match_ordering (bytes_cmp (key_text required) key) (Some required) None None

-- one that is still to come after a key
abbrev pub to_come : Option Key → List ℕ → Option Key
to_come None key = None
to_come (Some required) key = match_ordering (bytes_cmp (key_text required) key) None None (Some required)

-- the required fields that a walk passes by when it comes to a key
unfoldable pub missing_before : List ℕ → Owed → List ℕ → List ConfFault
missing_before place owed key = missing place (passed owed.first key) ++ missing place (passed owed.second key)

-- those that are still to come after it
unfoldable pub owed_after : Owed → List ℕ → Owed
owed_after owed key = record { first = to_come owed.first key; second = to_come owed.second key }

-- those that never come
unfoldable pub missing_at_end : List ℕ → Owed → List ConfFault
missing_at_end place owed = missing place owed.first ++ missing place owed.second

-- the fields of an object, and the required ones that are still to come
abbrev pub members_faults : ObjectKind → List ℕ → Owed → Members → List ConfFault
members_faults kind place owed no_members = missing_at_end place owed
members_faults kind place owed (member key d ms) =
    missing_before place owed key ++ (field_faults (field_of kind key) (field_place place key) d ++ members_faults kind place (owed_after owed key) ms)

-- an object
unfoldable pub object_faults : ObjectKind → List ℕ → Data → List ConfFault
object_faults kind place d = of_shape place (as_object d) (members_faults kind place (owed_by kind))
