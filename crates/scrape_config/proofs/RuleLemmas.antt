-- A rule in which the walk finds no fault has no field that `Rules::build` refuses.
use Rattle.std.proofs.Common.{◌≡◌, ℕ, zero, suc, ◌+◌, Bool, true, false, not, List, [], ◌++◌, length, refl, sym, ap, ◌∙◌, Option, None, Some, option_and_then, nat_lt, codes, arith, if◌then◌else◌}
use Rattle.std.specs.Prelude.{unwrap_or, option_to_list, is_some, ◌==◌}
use Rattle.std.specs.List.{list_all}
use Rattle.std.proofs.lemmas.Bool.{and_parts}
use Rattle.std.proofs.lemmas.Bool.Decides.{nat_tests}
use Rattle.label_set.specs.Bytes.{is_label_name}
use Rattle.serde_json.specs.Data.{Data, Num, Items, no_items, item, Members}
use Rattle.serde_json.specs.Find.{get, as_str, as_array, as_object, as_u64}
use Rattle.rule_conf.specs.Refusals.{rule_fault, has_bad_modulus, has_bad_target, first_bad_rule}
use Rattle.rule_conf.specs.declared.conf.Action.{Action}
use Rattle.rule_conf.specs.declared.conf.Action.TheVariants as action
use Rattle.config_fields.specs.Places.{field_place, item_place}
use Rattle.config_fields.specs.Forms.{is_text_of, is_modulus, action_of}
use Rattle.config_fields.specs.Tables.{field_of, rule_field, target_form, needs_target, owed_by, key_text}
use Rattle.config_fields.specs.Walks.{passes, are_texts_of, field_faults, members_faults, object_faults}
use Rattle.scrape_config.specs.Defaults.{text_under, whole_under, list_under, texts_of, texts_under, action_said, action_in}
use Rattle.scrape_config.specs.Lists.{object_in, objects_faults}
use Rattle.scrape_config.specs.Values.{text_or, rule_of, rules_of}
use Rattle.config_fields.specs.declared.forms.TextForm.TheVariants as form
use Rattle.config_fields.specs.declared.tables.ListKind.TheVariants as list
use Rattle.config_fields.specs.declared.tables.ObjectKind.{ObjectKind}
use Rattle.config_fields.specs.declared.tables.ObjectKind.TheVariants as object
use Rattle.config_fields.specs.declared.tables.Key.{Key}
use Rattle.config_fields.specs.declared.tables.Key.TheVariants as required
use Rattle.config_fields.proofs.FaultLemmas.{both_clean, of_shape-clean}
use Rattle.config_fields.proofs.CleanLemmas.{text-clean, modulus-clean, texts-clean, get-object, of_found, OfEach, Comes, AllCome, members-clean, IsCleanField}

-- the texts of a list of label names are label names
names_by : (o : Option (List ℕ)) (ts : List (List ℕ)) → passes form.LabelName o ≡ true → list_all is_label_name ts ≡ true → list_all is_label_name (option_to_list o ++ ts) ≡ true
unfolding is_text_of
names_by None ts p q = q
names_by (Some t) ts p q = rw p q

all_names : (ds : Items) → are_texts_of form.LabelName ds ≡ true → list_all is_label_name (texts_of ds) ≡ true
all_names no_items e = refl
all_names (item d ds) e =
    let parts = and_parts (passes form.LabelName (as_str d)) (are_texts_of form.LabelName ds) e in
    names_by (as_str d) (texts_of ds) parts.0 (all_names ds parts.1)

positive_by : (o : Option ℕ) → is_some (option_and_then (λ (m : ℕ). if nat_lt 0 m then Some m else None) o) ≡ true → (unwrap_or o 0 == 0) ≡ false
positive_by None e = absurd cc
positive_by (Some zero) e = absurd cc
positive_by (Some (suc m)) e = grind (arith, nat_tests)

positive : (n : Num) → is_modulus n ≡ true → (unwrap_or (as_u64 n) 0 == 0) ≡ false
unfolding is_modulus
positive n e = positive_by (as_u64 n) e

some_action : (o : Option Action) → is_some o ≡ true → (a : Action) × (o ≡ Some a)
some_action None e = absurd cc
some_action (Some a) e = (a, refl)

not_true : (b : Bool) → not b ≡ true → b ≡ false
not_true true e = absurd cc
not_true false e = refl

-- what a rule says, where the walk finds no fault in it
module _ (d : Data) (place : List ℕ) (clean : object_faults (object.Rule (action_in d)) place d ≡ []) where
  kind_of_rule : ObjectKind
  kind_of_rule = object.Rule (action_in d)

  fields : (ms : Members) × (as_object d ≡ Some ms) × AllCome (owed_by kind_of_rule) ms × OfEach (IsCleanField kind_of_rule place) ms
  unfolding object_faults kind_of_rule
  fields =
      let is = of_shape-clean place (as_object d) (members_faults kind_of_rule place (owed_by kind_of_rule)) clean in
      let each = members-clean kind_of_rule place (owed_by kind_of_rule) is.0 is.2 in
      (is.0, is.1, each.0, each.1)

  field-clean : (key : List ℕ) (e : Data) → get key d ≡ Some e → field_faults (rule_field (action_in d) key) (field_place place key) e ≡ []
  unfolding field_of kind_of_rule
  field-clean key e is = of_found (IsCleanField kind_of_rule place) key e fields.0 fields.3 (sym (get-object d fields.0 fields.1 key) ∙ is)

  sources_by : (o : Option Data) → get (codes "source_labels") d ≡ o → list_all is_label_name (texts_of (unwrap_or (option_and_then as_array o) no_items)) ≡ true
  unfolding rule_field
  sources_by None e = refl
  sources_by (Some v) e =
      let list = texts-clean form.LabelName (field_place place (codes "source_labels")) v (field-clean (codes "source_labels") v e) in
      rw list.1 (all_names list.0 list.2)

  sources_fine : list_all is_label_name (texts_under (codes "source_labels") d) ≡ true
  unfolding texts_under list_under
  sources_fine = sources_by (get (codes "source_labels") d) refl

  -- a field that is required is there
  there : (key : Key) → Comes (Some key) fields.0 → (e : Data) × (get (key_text key) d ≡ Some e)
  there key comes = (comes.0, get-object d fields.0 fields.1 (key_text key) ∙ comes.1)

  modulus_of : (e : Data) → get (codes "modulus") d ≡ Some e → (unwrap_or (whole_under (codes "modulus") d) 0 == 0) ≡ false
  unfolding rule_field whole_under
  modulus_of e is =
      let number = modulus-clean (field_place place (codes "modulus")) e (field-clean (codes "modulus") e is) in
      rw (is, number.1) (positive number.0 number.2)

  target_of : (e : Data) → get (codes "target_label") d ≡ Some e → (t : List ℕ) × (text_under (codes "target_label") d ≡ Some t) × (is_text_of (target_form (action_in d)) t ≡ true)
  unfolding rule_field text_under
  target_of e is =
      let t = text-clean (target_form (action_in d)) (field_place place (codes "target_label")) e (field-clean (codes "target_label") e is) in
      (t.0, ap (option_and_then as_str) is ∙ t.1, t.2)

  action_by : (o : Option Data) → get (codes "action") d ≡ o → (a : Action) × (action_said o ≡ Some a)
  unfolding rule_field is_text_of
  action_by None e = (action.Replace, refl)
  action_by (Some v) e =
      let t = text-clean form.Action (field_place place (codes "action")) v (field-clean (codes "action") v e) in
      let said = some_action (action_of t.0) t.2 in
      (said.0, ap (option_and_then action_of) t.1 ∙ said.1)

  action_there : (a : Action) × (action_in d ≡ Some a)
  unfolding action_in
  action_there = action_by (get (codes "action") d) refl

  needed : AllCome (owed_by kind_of_rule) fields.0
  needed = fields.2

  modulus_fine : (a : Action) → action_in d ≡ Some a → has_bad_modulus a (unwrap_or (whole_under (codes "modulus") d) 0) ≡ false
  unfolding owed_by kind_of_rule key_text
  modulus_fine action.HashMod is =
      let v = there required.Modulus (rw is at needed.0) in
      modulus_of v.0 v.1
  modulus_fine action.Replace is = refl
  modulus_fine action.Keep is = refl
  modulus_fine action.Drop is = refl
  modulus_fine action.KeepEqual is = refl
  modulus_fine action.DropEqual is = refl
  modulus_fine action.LabelMap is = refl
  modulus_fine action.LabelDrop is = refl
  modulus_fine action.LabelKeep is = refl
  modulus_fine action.Lowercase is = refl
  modulus_fine action.Uppercase is = refl

  target_named : (a : Action) → action_in d ≡ Some a → needs_target (Some a) ≡ true → (t : List ℕ) × (text_under (codes "target_label") d ≡ Some t) × (is_text_of (target_form (Some a)) t ≡ true)
  unfolding owed_by kind_of_rule key_text
  target_named a is needs =
      let v = there required.TargetLabel (rw (is, needs) at needed.1) in
      rw is at (target_of v.0 v.1)

  named_fine : (a : Action) → action_in d ≡ Some a → needs_target (Some a) ≡ true → target_form (Some a) ≡ form.LabelName → not (is_label_name (unwrap_or (text_under (codes "target_label") d) [])) ≡ false
  unfolding is_text_of
  named_fine a is needs f =
      let t = target_named a is needs in
      rw t.1 (ap not (rw f at t.2))

  filled_fine : action_in d ≡ Some action.Replace → (length (unwrap_or (text_under (codes "target_label") d) []) == 0) ≡ false
  unfolding is_text_of target_form
  filled_fine is =
      let t = target_named action.Replace is refl in
      rw t.1 (not_true _ t.2)

  target_fine : (a : Action) → action_in d ≡ Some a → has_bad_target a (unwrap_or (text_under (codes "target_label") d) []) ≡ false
  unfolding target_form
  target_fine action.Replace is = filled_fine is
  target_fine action.KeepEqual is = named_fine action.KeepEqual is refl refl
  target_fine action.DropEqual is = named_fine action.DropEqual is refl refl
  target_fine action.HashMod is = named_fine action.HashMod is refl refl
  target_fine action.Lowercase is = named_fine action.Lowercase is refl refl
  target_fine action.Uppercase is = named_fine action.Uppercase is refl refl
  target_fine action.Keep is = refl
  target_fine action.Drop is = refl
  target_fine action.LabelMap is = refl
  target_fine action.LabelDrop is = refl
  target_fine action.LabelKeep is = refl

  pub rule_fine : rule_fault (rule_of d) ≡ None
  unfolding rule_of text_or
  rule_fine =
      let a = action_there in
      rw (sources_fine, a.1, modulus_fine a.0 a.1, target_fine a.0 a.1) refl

-- the rules of a list
pub rules_fine : (place : List ℕ) (n k : ℕ) (ds : Items) → objects_faults list.Rules place n ds ≡ [] → first_bad_rule k (rules_of ds) ≡ None
unfolding object_in
rules_fine place n k no_items clean = refl
rules_fine place n k (item d ds) clean =
    let parts = both_clean (object_faults (object.Rule (action_in d)) (item_place place n) d) (objects_faults list.Rules place (n + 1) ds) clean in
    rw (rule_fine d (item_place place n) parts.0) (rules_fine place (n + 1) (k + 1) ds parts.1)
