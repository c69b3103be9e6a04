-- The labels of groups in which the walk finds no fault have different names, each of them a label name.
use Rattle.std.proofs.Common.{◌≡◌, ℕ, ◌+◌, Bool, true, false, List, [], ◌++◌, map, refl, sym, ◌∙◌, subst, Option, None, Some, All, codes}
use Rattle.std.specs.Prelude.{unwrap_or, option_map, option_and_then, option_to_list}
use Rattle.std.specs.List.{IsDistinct, AllByRecursion}
use Rattle.std.specs.Str.{bytes_eq}
use Rattle.std.specs.declared.cmp.Ordering.{Ordering}
use Rattle.std.specs.declared.cmp.Ordering.TheVariants.{Less}
use Rattle.std.specs.Ordering.{is_eq}
use Rattle.std.specs.Cmp.Lexicographic.{texts_ties}
use Rattle.std.proofs.lemmas.Bool.{and_parts}
use Rattle.std.proofs.lemmas.List.Elements.{All-nil, All-cons}
use Rattle.label_set.specs.Bytes.{bytes_cmp, is_label_name}
use Rattle.label_set.specs.declared.texts.Pair.{Pair}
use Rattle.serde_json.specs.Data.{Data, Items, no_items, item, Members, no_members, member}
use Rattle.serde_json.specs.Find.{get, as_str, as_array, as_object}
use Rattle.config_fields.specs.Places.{field_place, item_place}
use Rattle.config_fields.specs.Forms.{judged}
use Rattle.config_fields.specs.Tables.{field_of, group_field, owed_by}
use Rattle.config_fields.specs.Walks.{flaws, are_label_names, value_faults, labels_faults, field_faults, members_faults, object_faults}
use Rattle.config_fields.specs.declared.tables.Field.TheVariants as field
use Rattle.config_fields.specs.declared.tables.ListKind.{ListKind}
use Rattle.config_fields.specs.declared.tables.ListKind.TheVariants as list
use Rattle.config_fields.specs.declared.tables.ObjectKind.TheVariants as object
use Rattle.config_fields.proofs.FaultLemmas.{both_clean, flaws-clean, of_shape-clean}
use Rattle.config_fields.proofs.CleanLemmas.{get-object, of_found, members-clean, IsCleanField}
use Rattle.scrape_config.specs.Bounds.{HasLabelNames}
use Rattle.scrape_config.specs.Lists.{object_in, crowd, objects_faults, list_faults}
use Rattle.scrape_config.specs.Values.{members_under, pairs_of, group_of, groups_of}
use Rattle.scrape_config.proofs.OrderLemmas.{IsFront, IsOrdered, AreOrdered, Rises, array_ordered, object_ordered, field_ordered}

-- labels without a fault are an object under label names
judged_true : (b : Bool) → judged (Some b) ≡ None → b ≡ true
judged_true true e = refl
judged_true false e = absurd cc

pub labels-clean : (place : List ℕ) (d : Data) → field_faults field.Labels place d ≡ [] → (ms : Members) × (as_object d ≡ Some ms) × (are_label_names ms ≡ true)
unfolding field_faults labels_faults
labels-clean place d e =
    let ms = of_shape-clean place (as_object d) (λ ms. flaws place (judged (Some (are_label_names ms))) ++ value_faults place ms) e in
    let parts = both_clean (flaws place (judged (Some (are_label_names ms.0)))) (value_faults place ms.0) ms.2 in
    (ms.0, ms.1, judged_true (are_label_names ms.0) (flaws-clean place _ parts.0))

-- a label that stands before others, where its value is a text
abbrev label_of : List ℕ → List ℕ → Pair
label_of name value = record { name = name; value = value }

abbrev onto : List ℕ → Option (List ℕ) → List Pair → List Pair
onto name o ps = option_to_list (option_map (label_of name) o) ++ ps

abbrev IsNamed : Pair → Type 0
IsNamed p = is_label_name p.name ≡ true

named_by : (name : List ℕ) (o : Option (List ℕ)) (ps : List Pair) → is_label_name name ≡ true → All IsNamed ps → All IsNamed (onto name o ps)
named_by name None ps e h = h
named_by name (Some value) ps e h = All-cons IsNamed (label_of name value) ps e h

names_named : (ms : Members) → are_label_names ms ≡ true → All IsNamed (pairs_of ms)
names_named no_members e = All-nil IsNamed
names_named (member name d ms) e =
    let parts = and_parts (is_label_name name) (are_label_names ms) e in
    named_by name (as_str d) (pairs_of ms) parts.0 (names_named ms parts.1)

-- names that rise differ
abbrev names : List Pair → List (List ℕ)
names ps = map (λ (p : Pair). p.name) ps

abbrev DiffersFrom : List ℕ → List (List ℕ) → Type 0
DiffersFrom name ns = AllByRecursion (λ n. bytes_eq name n ≡ false) ns

less_differs : (a b : List ℕ) → bytes_cmp a b ≡ Less → bytes_eq a b ≡ false
less_differs a b e = texts_ties a b ∙ is (bytes_cmp a b) e
  where
    is : (o : Ordering) → o ≡ Less → is_eq o ≡ false
    is o h = rw h refl

differs_by : (key name : List ℕ) (o : Option (List ℕ)) (ps : List Pair) → bytes_eq key name ≡ false → DiffersFrom key (names ps) → DiffersFrom key (names (onto name o ps))
differs_by key name None ps e h = h
differs_by key name (Some value) ps e h = (e, h)

front_differs : (key : List ℕ) (ms : Members) → IsFront key ms → DiffersFrom key (names (pairs_of ms))
front_differs key no_members h = tt
front_differs key (member name d ms) h = differs_by key name (as_str d) (pairs_of ms) (less_differs key name h.0) (front_differs key ms h.1)

distinct_by : (name : List ℕ) (o : Option (List ℕ)) (ps : List Pair) → DiffersFrom name (names ps) → IsDistinct bytes_eq (names ps) → IsDistinct bytes_eq (names (onto name o ps))
unfolding IsDistinct
distinct_by name None ps h k = k
distinct_by name (Some value) ps h k = (h, k)

names_distinct : (ms : Members) → Rises ms → IsDistinct bytes_eq (names (pairs_of ms))
unfolding IsDistinct
names_distinct no_members h = tt
names_distinct (member name d ms) h = distinct_by name (as_str d) (pairs_of ms) (front_differs name ms h.1) (names_distinct ms h.2)

-- a group without faults
module _ (place : List ℕ) (d : Data) (clean : object_faults object.Group place d ≡ []) (ordered : IsOrdered d) where
  field-clean : (key : List ℕ) (e : Data) → get key d ≡ Some e → field_faults (group_field key) (field_place place key) e ≡ []
  unfolding object_faults field_of
  field-clean key e is =
      let ms = of_shape-clean place (as_object d) (members_faults object.Group place (owed_by object.Group)) clean in
      let each = members-clean object.Group place (owed_by object.Group) ms.0 ms.2 in
      of_found (IsCleanField object.Group place) key e ms.0 each.1 (sym (get-object d ms.0 ms.1 key) ∙ is)

  abbrev AreFit : Members → Type 0
  AreFit ms = All IsNamed (pairs_of ms) × IsDistinct bytes_eq (names (pairs_of ms))

  labels_of : (o : Option Members) (ms : Members) → o ≡ Some ms → are_label_names ms ≡ true → Rises ms → AreFit (unwrap_or o no_members)
  labels_of o ms e names rises = subst (λ p. AreFit (unwrap_or p no_members)) (sym e) (names_named ms names, names_distinct ms rises)

  labels_by : (o : Option Data) → get (codes "labels") d ≡ o → AreFit (unwrap_or (option_and_then as_object o) no_members)
  unfolding group_field IsDistinct
  labels_by None e = (All-nil IsNamed, tt)
  labels_by (Some v) e =
      let ms = labels-clean (field_place place (codes "labels")) v (field-clean (codes "labels") v e) in
      labels_of (as_object v) ms.0 ms.1 ms.2 (object_ordered v ms.0 ms.1 (field_ordered (codes "labels") d v e ordered))

  pub group_named : (file : Option (List ℕ)) → HasLabelNames (group_of file d)
  unfolding group_of members_under
  group_named file = labels_by (get (codes "labels") d) refl

-- the groups of a list
module _ (kind : ListKind) (groups : (d : Data) → object_in kind d ≡ object.Group) (file : Option (List ℕ)) where
  groups_named : (place : List ℕ) (n : ℕ) (ds : Items) → objects_faults kind place n ds ≡ [] → AreOrdered ds → All HasLabelNames (groups_of file ds)
  groups_named place n no_items clean h = All-nil HasLabelNames
  groups_named place n (item d ds) clean h =
      let parts = both_clean (object_faults (object_in kind d) (item_place place n) d) (objects_faults kind place (n + 1) ds) clean in
      let here : object_faults object.Group (item_place place n) d ≡ [] = subst (λ k. object_faults k (item_place place n) d ≡ []) (groups d) parts.0 in
      All-cons HasLabelNames (group_of file d) (groups_of file ds) (group_named (item_place place n) d here h.0 file) (groups_named place (n + 1) ds parts.1 h.1)

  list_by : (place : List ℕ) (o : Option Items) (ds : Items) → o ≡ Some ds → objects_faults kind place 0 ds ≡ [] → AreOrdered ds → All HasLabelNames (groups_of file (unwrap_or o no_items))
  list_by place o ds e clean h = subst (λ p. All HasLabelNames (groups_of file (unwrap_or p no_items))) (sym e) (groups_named place 0 ds clean h)

  pub list_named : (place : List ℕ) (d : Data) → list_faults kind place d ≡ [] → IsOrdered d → All HasLabelNames (groups_of file (unwrap_or (as_array d) no_items))
  unfolding list_faults
  list_named place d clean h =
      let ds = of_shape-clean place (as_array d) (λ ds. flaws place (crowd kind ds) ++ objects_faults kind place 0 ds) clean in
      let parts = both_clean (flaws place (crowd kind ds.0)) (objects_faults kind place 0 ds.0) ds.2 in
      list_by place (as_array d) ds.0 ds.1 parts.1 (array_ordered d ds.0 ds.1 h)

static_groups : (d : Data) → object_in list.StaticGroups d ≡ object.Group
unfolding object_in
static_groups d = refl

file_groups : (d : Data) → object_in list.FileGroups d ≡ object.Group
unfolding object_in
file_groups d = refl

pub static_named : (place : List ℕ) (d : Data) → list_faults list.StaticGroups place d ≡ [] → IsOrdered d → All HasLabelNames (groups_of None (unwrap_or (as_array d) no_items))
static_named place d clean h = list_named list.StaticGroups static_groups None place d clean h

pub file_named : (file place : List ℕ) (d : Data) → list_faults list.FileGroups place d ≡ [] → IsOrdered d → All HasLabelNames (groups_of (Some file) (unwrap_or (as_array d) no_items))
file_named file place d clean h = list_named list.FileGroups file_groups (Some file) place d clean h
