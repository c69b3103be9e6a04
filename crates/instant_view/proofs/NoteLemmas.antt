-- Series that are noted for their names.
use Rattle.std.proofs.Common.{◌≡◌, ℕ, Bool, true, false, List, Some, None, Option, sym, ap, ◌∙◌, subst, cond, true≢false}
use Rattle.std.specs.Prelude.{IsSome}
use Rattle.std.specs.BTreeMap.{BTreeMap, get, is_at, keys}
use Rattle.std.specs.BTreeSet.{BTreeSet, contains}
use Rattle.std.specs.Cmp.Lexicographic.{bytes_decides, texts_ties}
use Rattle.std.specs.List.{Contains, list_any}
use Rattle.std.specs.Option.{option_map_or}
use Rattle.std.specs.Ordering.{is_eq}
use Rattle.std.specs.declared.cmp.Ordering.TheVariants.{Equal}
use Rattle.std.proofs.lemmas.Map.Views.{btree_map_contains_key_iff}
use Rattle.label_set.specs.Bytes.{bytes_cmp}
use Rattle.label_set.specs.Same.{sets_decide}
use Rattle.label_set.specs.Sets.{set_cmp, sets_total}
use Rattle.label_set.specs.declared.texts.Pair.{Pair}
use Rattle.instant_view.specs.Threads.{is_named}

exact : (x y : List Pair) → set_cmp x y ≡ Equal → x ≡ y
exact x y e = (sets_decide x y).0 (ap is_eq e)

-- a map of the same keys has the same places
pub place_still : (old new : BTreeMap (List Pair) ℕ) → keys new ≡ keys old → (s : List Pair) → IsSome (get set_cmp new s) → IsSome (get set_cmp old s)
place_still old new same s place =
    (btree_map_contains_key_iff sets_total exact old s).1 (subst (λ ks. Contains ks s) same ((btree_map_contains_key_iff sets_total exact new s).0 place))

-- a set with a key more
pub with_key : (sets more : BTreeSet (List Pair)) (key : List Pair) → ((q : List Pair) → contains set_cmp more q ≡ cond (is_at (set_cmp key) q) true (contains set_cmp sets q)) →
    (s : List Pair) → contains set_cmp sets s ≡ true → contains set_cmp more s ≡ true
with_key sets more key updated s h = updated s ∙ by (is_at (set_cmp key) s)
  where
    by : (b : Bool) → cond b true (contains set_cmp sets s) ≡ true
    by true = λ i. true
    by false = h

pub same_keys : (sets more : BTreeSet (List Pair)) → more.keys ≡ sets.keys → (s : List Pair) → contains set_cmp sets s ≡ true → contains set_cmp more s ≡ true
same_keys sets more same s h = subst (λ ks. list_any (is_at (set_cmp s)) ks ≡ true) (sym same) h

has : List Pair → Option (BTreeSet (List Pair)) → Bool
has s o = option_map_or (λ (q : BTreeSet (List Pair)). contains set_cmp q s) o false

-- a name with more sets
module _ (old new : BTreeMap (List ℕ) (BTreeSet (List Pair))) (name : List ℕ) (more : BTreeSet (List Pair))
    (updated : (q : List ℕ) → get bytes_cmp new q ≡ cond (is_at (bytes_cmp name) q) (Some more) (get bytes_cmp old q)) where
  module _ (kept : (s : List Pair) → is_named old name s ≡ true → contains set_cmp more s ≡ true) where
    pub named_grows : (n : List ℕ) (s : List Pair) → is_named old n s ≡ true → is_named new n s ≡ true
    named_grows n s h = by (is_eq (bytes_cmp name n)) (λ i. is_eq (bytes_cmp name n))
      where
        by : (b : Bool) → is_eq (bytes_cmp name n) ≡ b → is_named new n s ≡ true
        by true e =
            let same : name ≡ n = (bytes_decides name n).0 (texts_ties name n ∙ e) in
            ap (λ (o : Option (BTreeSet (List Pair))). option_map_or (λ (q : BTreeSet (List Pair)). contains set_cmp q s) o false)
            (updated n ∙ ap (λ b. cond b (Some more) (get bytes_cmp old n)) e)
            ∙ kept s (subst (λ q. is_named old q s ≡ true) (sym same) h)
        by false e =
            ap (λ (o : Option (BTreeSet (List Pair))). option_map_or (λ (q : BTreeSet (List Pair)). contains set_cmp q s) o false)
            (updated n ∙ ap (λ b. cond b (Some more) (get bytes_cmp old n)) e) ∙ h

  pub name_more : (sets : BTreeSet (List Pair)) → Some sets ≡ get bytes_cmp old name → ((s : List Pair) → contains set_cmp sets s ≡ true → contains set_cmp more s ≡ true) →
      (n : List ℕ) (s : List Pair) → is_named old n s ≡ true → is_named new n s ≡ true
  name_more sets there kept =
      named_grows (λ s h. kept s
      (ap (λ (o : Option (BTreeSet (List Pair))). option_map_or (λ (q : BTreeSet (List Pair)). contains set_cmp q s) o false) there ∙ h))

  pub name_new : None ≡ get bytes_cmp old name → (n : List ℕ) (s : List Pair) → is_named old n s ≡ true → is_named new n s ≡ true
  name_new none =
      named_grows (λ s h. absurd (true≢false (sym h
      ∙ ap (λ (o : Option (BTreeSet (List Pair))). option_map_or (λ (q : BTreeSet (List Pair)). contains set_cmp q s) o false) (sym none))))
