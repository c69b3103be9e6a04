-- What holds of the value of a field, and of the fields of an object, in which the walk finds no fault.
use Rattle.std.proofs.Common.{◌≡◌, ℕ, Bool, true, false, List, [], ◌++◌, refl, sym, ap, Option, None, Some, option_map, subst}
use Rattle.std.specs.declared.cmp.Ordering.{Ordering}
use Rattle.std.specs.declared.cmp.Ordering.TheVariants.{Less, Equal, Greater}
use Rattle.std.specs.Ordering.{nat_cmp, match_ordering}
use Rattle.std.specs.Cmp.Lexicographic.{slice_cmp}
use Rattle.std.proofs.lemmas.Map.Lookups.{exact_bytes}
use Rattle.serde_json.specs.Data.{Data, null, boolean, number, string, array, object, Num, Items, Members, no_members, member}
use Rattle.serde_json.specs.Find.{get, get_member, as_str, as_number, as_array, as_object}
use Rattle.config_fields.specs.Places.{field_place}
use Rattle.config_fields.specs.Forms.{judged, is_text_of, is_modulus, flaw_of}
use Rattle.config_fields.specs.Tables.{text, field_of, key_text}
use Rattle.config_fields.specs.Walks.{flaws, are_texts_of, item_faults, texts_faults, field_faults, missing, passed, to_come, missing_before, owed_after, missing_at_end, members_faults}
use Rattle.config_fields.specs.declared.forms.Kind.TheVariants as kind
use Rattle.config_fields.specs.declared.forms.TextForm.{TextForm}
use Rattle.config_fields.specs.declared.tables.Field.TheVariants as field
use Rattle.config_fields.specs.declared.tables.ObjectKind.{ObjectKind}
use Rattle.config_fields.specs.declared.tables.Key.{Key}
use Rattle.config_fields.specs.declared.tables.Owed.{Owed}
use Rattle.config_fields.proofs.FaultLemmas.{both_clean, flaws-clean, of_shape-clean}

some_same : {A : Type 0} (a b : A) → Some a ≡ Some b → a ≡ b
some_same a b e = cc

-- a value without a flaw is of its kind and allowed
judged-clean : (o : Option Bool) → judged o ≡ None → o ≡ Some true
judged-clean None e = absurd cc
judged-clean (Some true) e = refl
judged-clean (Some false) e = absurd cc

allowed : {A : Type 0} (is_allowed : A → Bool) (o : Option A) → option_map is_allowed o ≡ Some true → (a : A) × (o ≡ Some a) × (is_allowed a ≡ true)
allowed is_allowed None e = absurd cc
allowed is_allowed (Some a) e = (a, refl, some_same (is_allowed a) true e)

-- a text field without a fault
pub text-clean : (f : TextForm) (place : List ℕ) (d : Data) → field_faults (text f) place d ≡ [] → (t : List ℕ) × (as_str d ≡ Some t) × (is_text_of f t ≡ true)
unfolding field_faults flaw_of
text-clean f place d e = allowed (is_text_of f) (as_str d) (judged-clean _ (flaws-clean place _ e))

-- a modulus without a fault
pub modulus-clean : (place : List ℕ) (d : Data) → field_faults (field.Plain kind.Modulus) place d ≡ [] → (n : Num) × (as_number d ≡ Some n) × (is_modulus n ≡ true)
unfolding field_faults flaw_of
modulus-clean place d e = allowed is_modulus (as_number d) (judged-clean _ (flaws-clean place _ e))

-- a list of texts without a fault
pub texts-clean : (f : TextForm) (place : List ℕ) (d : Data) → field_faults (field.Texts f) place d ≡ [] → (ds : Items) × (as_array d ≡ Some ds) × (are_texts_of f ds ≡ true)
unfolding field_faults texts_faults
texts-clean f place d e =
    let list = of_shape-clean place (as_array d) (λ ds. flaws place (judged (Some (are_texts_of f ds))) ++ item_faults place 0 ds) e in
    let parts = both_clean (flaws place (judged (Some (are_texts_of f list.0)))) (item_faults place 0 list.0) list.2 in
    (list.0, list.1, some_same _ _ (judged-clean _ (flaws-clean place _ parts.0)))

-- the fields of a value that is an object
pub get-object : (d : Data) (ms : Members) → as_object d ≡ Some ms → (key : List ℕ) → get key d ≡ get_member key ms
get-object null ms e key = absurd cc
get-object (boolean b) ms e key = absurd cc
get-object (number n) ms e key = absurd cc
get-object (string s) ms e key = absurd cc
get-object (array ds) ms e key = absurd cc
get-object (object os) ms e key = ap (λ (o : Option Members). fields key o) e
  where
    fields : List ℕ → Option Members → Option Data
    fields key None = None
    fields key (Some ms) = get_member key ms

-- something holds of each field
abbrev pub OfEach : (List ℕ → Data → Type 0) → Members → Type 0
OfEach P no_members = Unit {0}
OfEach P (member key d ms) = P key d × OfEach P ms

module _ (P : List ℕ → Data → Type 0) (key : List ℕ) (d : Data) where
  moved : (l : List ℕ) (e : Data) → key ≡ l → Some e ≡ Some d → P l e → P key d
  moved l e k s holds = subst (λ q. P q d) (sym k) (subst (λ x. P l x) (some_same e d s) holds)

  found_by : (l : List ℕ) (e : Data) (ms : Members) (o : Ordering) → slice_cmp nat_cmp key l ≡ o →
      (OfEach P ms → get_member key ms ≡ Some d → P key d) →
      OfEach P (member l e ms) → match_ordering o (get_member key ms) (Some e) (get_member key ms) ≡ Some d → P key d
  found_by l e ms Less c later holds is = later holds.1 is
  found_by l e ms Equal c later holds is = moved l e (exact_bytes key l c) is holds.0
  found_by l e ms Greater c later holds is = later holds.1 is

  -- and so of the one that is found
  pub of_found : (ms : Members) → OfEach P ms → get_member key ms ≡ Some d → P key d
  of_found no_members holds is = absurd cc
  of_found (member l e ms) holds is = found_by l e ms (slice_cmp nat_cmp key l) refl (of_found ms) holds is

-- a required field is there
abbrev pub Comes : Option Key → Members → Type 0
Comes None ms = Unit {0}
Comes (Some key) ms = (d : Data) × (get_member (key_text key) ms ≡ Some d)

pub none_missing : (place : List ℕ) (required : Option Key) → missing place required ≡ [] → required ≡ None
none_missing place None e = refl
none_missing place (Some key) e = absurd cc

comes_by : (place : List ℕ) (key : Key) (l : List ℕ) (d : Data) (ms : Members) (o : Ordering) →
    missing place (match_ordering o (Some key) None None) ≡ [] → Comes (match_ordering o None None (Some key)) ms →
    (e : Data) × (match_ordering o (get_member (key_text key) ms) (Some d) (get_member (key_text key) ms) ≡ Some e)
comes_by place key l d ms Less m c = absurd cc
comes_by place key l d ms Equal m c = (d, refl)
comes_by place key l d ms Greater m c = c

pub comes-member : (place : List ℕ) (required : Option Key) (l : List ℕ) (d : Data) (ms : Members) →
    missing place (passed required l) ≡ [] → Comes (to_come required l) ms → Comes required (member l d ms)
comes-member place None l d ms m c = tt
comes-member place (Some key) l d ms m c = comes_by place key l d ms (slice_cmp nat_cmp (key_text key) l) m c

comes-none : (required : Option Key) → required ≡ None → Comes required no_members
comes-none None e = tt
comes-none (Some key) e = absurd cc

-- the required fields of an object are there
abbrev pub AllCome : Owed → Members → Type 0
AllCome owed ms = Comes owed.first ms × Comes owed.second ms

pub at_end : (place : List ℕ) (owed : Owed) → missing_at_end place owed ≡ [] → AllCome owed no_members
unfolding missing_at_end
at_end place owed e =
    let parts = both_clean (missing place owed.first) (missing place owed.second) e in
    (comes-none owed.first (none_missing place owed.first parts.0), comes-none owed.second (none_missing place owed.second parts.1))

pub at_member : (place : List ℕ) (owed : Owed) (l : List ℕ) (d : Data) (ms : Members) →
    missing_before place owed l ≡ [] → AllCome (owed_after owed l) ms → AllCome owed (member l d ms)
unfolding missing_before owed_after
at_member place owed l d ms e c =
    let parts = both_clean (missing place (passed owed.first l)) (missing place (passed owed.second l)) e in
    (comes-member place owed.first l d ms parts.0 c.0, comes-member place owed.second l d ms parts.1 c.1)

-- an object without faults: its required fields are there, and each field is without faults
module _ (kind : ObjectKind) (place : List ℕ) where
  abbrev pub IsCleanField : List ℕ → Data → Type 0
  IsCleanField key d = field_faults (field_of kind key) (field_place place key) d ≡ []

  pub members-clean : (owed : Owed) (ms : Members) → members_faults kind place owed ms ≡ [] → AllCome owed ms × OfEach IsCleanField ms
  members-clean owed no_members e = (at_end place owed e, tt)
  members-clean owed (member key d ms) e =
      let first = both_clean (missing_before place owed key) _ e in
      let rest = both_clean (field_faults (field_of kind key) (field_place place key) d) (members_faults kind place (owed_after owed key) ms) first.1 in
      let later = members-clean (owed_after owed key) ms rest.1 in
      (at_member place owed key d ms first.0 later.0, (rest.0, later.1))
