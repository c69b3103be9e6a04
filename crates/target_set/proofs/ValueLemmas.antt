-- Maps that have the values of parameters.
use Rattle.std.proofs.Common.{◌≡◌, ℕ, suc, ◌+◌, ◌<◌, Bool, true, false, cond, List, [], ◌∷◌, ◌++◌, take, drop, get_or, length, refl, ap, sym, ◌∙◌, subst, Option, Some, None, take-append-drop}
use Rattle.std.specs.Prelude.{find, flat_map, option_map, unwrap_or, is_some, if◌then◌else◌}
use Rattle.std.specs.Option.{option_or}
use Rattle.std.specs.Borrow.{Bor}
use Rattle.std.specs.Str.{bytes_eq}
use Rattle.std.specs.Map.{update}
use Rattle.std.specs.HashMap.{HashMap, get_by, Updates}
use Rattle.std.specs.Cmp.Lexicographic.{nat_list_eq_equiv}
use Rattle.std.proofs.lemmas.List.{take_more}
use Rattle.std.proofs.lemmas.Map.Text.{hash_map_updates_str}
use Rattle.std.proofs.lemmas.Slice.Eq.{bytes_eq-Decides}
use Rattle.label_set.specs.declared.texts.Pair.{Pair}
use Rattle.scrape_config.specs.declared.conf.Param.{Param}
use Rattle.target_set.specs.Prepared.{param_prefix}
use Rattle.target_set.specs.Outcomes.{begins_with}
use Rattle.target_set.specs.Requests.{param_name, set_value, listed_values, with_first_value, each_of, pairs_under}
use Rattle.target_set.specs.Values.{found, HasSet, HasListed, pairs_by}

-- pairs by values that are the same
pub pairs_alike : (identity : List Pair) (params : List Param) (set : List ℕ → Option (List ℕ)) (listed : List ℕ → List (List ℕ)) →
    ((name : List ℕ) → set name ≡ set_value identity name) → ((name : List ℕ) → listed name ≡ listed_values params name) →
    (names : List (List ℕ)) → pairs_by set listed names ≡ pairs_under identity params names
pairs_alike identity params set listed h k [] = refl
pairs_alike identity params set listed h k (n ∷ ns) = λ i. each_of n (with_first_value (h n i) (k n i)) ++ pairs_alike identity params set listed h k ns i

-- what a map has after a name was put in that it did not have
module _ {X S : Type 0} (m n : HashMap (Bor (List ℕ)) (Bor X) S) (key : Bor (List ℕ)) (value : Bor X) (put : Updates (λ x y. bytes_eq x.now y.now) m n key (Some value)) where
  pub found_more : (q : List ℕ) → found n q ≡ cond (bytes_eq key.now q) (Some value.now) (found m q)
  found_more q =
      ap (option_map (λ (v : Bor X). v.now)) (hash_map_updates_str key.now m n (Some value) put q) ∙ by (bytes_eq key.now q)
    where
      by : (b : Bool) → option_map (λ (v : Bor X). v.now) (cond b (Some value) (get_by (λ (k : Bor (List ℕ)). bytes_eq q k.now) m)) ≡ cond b (Some value.now) (found m q)
      by true = refl
      by false = refl

-- the label that sets a parameter
named_by : (name n : List ℕ) (b : Bool) → bytes_eq (take 8 name) param_prefix ≡ b → (if b then Some (drop 8 name) else None) ≡ Some n → name ≡ param_prefix ++ n
named_by name n true e s =
    let same : drop 8 name ≡ n = cc in
    sym (take-append-drop 8 name) ∙ ap (λ front. front ++ drop 8 name) ((bytes_eq-Decides (take 8 name) param_prefix).0 e) ∙ ap (λ rest. param_prefix ++ rest) same
named_by name n false e s = absurd cc

param_named : (name n : List ℕ) → param_name name ≡ Some n → name ≡ param_prefix ++ n
unfolding param_name begins_with
param_named name n e = named_by name n (bytes_eq (take 8 name) param_prefix) refl e

prefix_is_named : (q : List ℕ) → param_name (param_prefix ++ q) ≡ Some q
unfolding param_name begins_with
prefix_is_named q = refl

unnamed_by : (name q : List ℕ) (b : Bool) → bytes_eq name (param_prefix ++ q) ≡ b → param_name name ≡ None → b ≡ false
unnamed_by name q true e none = absurd (let named : None ≡ Some q = sym none ∙ ap param_name ((bytes_eq-Decides name (param_prefix ++ q)).0 e) ∙ prefix_is_named q in cc)
unnamed_by name q false e none = refl

same_prefix : (n q : List ℕ) → bytes_eq (param_prefix ++ n) (param_prefix ++ q) ≡ bytes_eq n q
same_prefix n q = refl

value_at : (p : Pair) (b : Bool) (rest : Option Pair) → option_map (λ (r : Pair). r.value) (cond b (Some p) rest) ≡ cond b (Some p.value) (option_map (λ (r : Pair). r.value) rest)
value_at p true rest = refl
value_at p false rest = refl

-- a label that sets no parameter
pub no_param : (p : Pair) (ps : List Pair) (q : List ℕ) → param_name p.name ≡ None → set_value (p ∷ ps) q ≡ set_value ps q
unfolding set_value
no_param p ps q none =
    ap (λ b. option_map (λ (r : Pair). r.value) (cond b (Some p) (find (λ (r : Pair). bytes_eq r.name (param_prefix ++ q)) ps)))
    (unnamed_by p.name q (bytes_eq p.name (param_prefix ++ q)) refl none)

-- one that sets one
pub sets_param : (p : Pair) (ps : List Pair) (n q : List ℕ) → param_name p.name ≡ Some n → set_value (p ∷ ps) q ≡ cond (bytes_eq n q) (Some p.value) (set_value ps q)
unfolding set_value
sets_param p ps n q e =
    value_at p (bytes_eq p.name (param_prefix ++ q)) (find (λ (r : Pair). bytes_eq r.name (param_prefix ++ q)) ps)
    ∙ ap (λ b. cond b (Some p.value) (set_value ps q)) (ap (λ name. bytes_eq name (param_prefix ++ q)) (param_named p.name n e) ∙ same_prefix n q)

-- a map of first values: a name that it has stays, and one that it has not is put in
has_by : {A : Type 0} (o r : Option A) (v : A) (b : Bool) → is_some o ≡ true → option_or o (cond b (Some v) r) ≡ option_or o r
has_by None r v b e = absurd cc
has_by (Some a) r v b e = refl

lacks_by : {A : Type 0} (o r : Option A) (v : A) (b : Bool) → (b ≡ true → is_some o ≡ false) → option_or o (cond b (Some v) r) ≡ option_or (cond b (Some v) o) r
lacks_by None r v true h = refl
lacks_by None r v false h = refl
lacks_by (Some a) r v true h = absurd (let none : true ≡ false = h refl in cc)
lacks_by (Some a) r v false h = refl

pub some_found : {A B : Type 0} (f : A → B) (o : Option A) → is_some (option_map f o) ≡ is_some o
some_found f None = refl
some_found f (Some a) = refl

-- one more label is looked at
module _ {S : Type 0} (m : HashMap (Bor (List ℕ)) (Bor (List ℕ)) S) (all : List ℕ → Option (List ℕ)) (p : Pair) (ps : List Pair)
    (before : (q : List ℕ) → option_or (found m q) (set_value (p ∷ ps) q) ≡ all q) where
  pub passed_label : param_name p.name ≡ None → (q : List ℕ) → option_or (found m q) (set_value ps q) ≡ all q
  passed_label none q = ap (option_or (found m q)) (sym (no_param p ps q none)) ∙ before q

  at_name : (n q : List ℕ) (b : Bool) → is_some (found m n) ≡ b → bytes_eq n q ≡ true → is_some (found m q) ≡ b
  at_name n q b e h = ap (λ name. is_some (found m name)) (sym ((bytes_eq-Decides n q).0 h)) ∙ e

  had : (n q : List ℕ) (b : Bool) → is_some (found m n) ≡ true → bytes_eq n q ≡ b → option_or (found m q) (set_value ps q) ≡ option_or (found m q) (cond b (Some p.value) (set_value ps q))
  had n q true e h = sym (has_by (found m q) (set_value ps q) p.value true (at_name n q true e h))
  had n q false e h = refl

  pub repeated_label : (n : List ℕ) → param_name p.name ≡ Some n → is_some (found m n) ≡ true → (q : List ℕ) → option_or (found m q) (set_value ps q) ≡ all q
  repeated_label n is e q = had n q (bytes_eq n q) e refl ∙ ap (option_or (found m q)) (sym (sets_param p ps n q is)) ∙ before q

  pub new_label : (more : HashMap (Bor (List ℕ)) (Bor (List ℕ)) S) (key value : Bor (List ℕ)) → param_name p.name ≡ Some key.now → value.now ≡ p.value → is_some (found m key.now) ≡ false →
      Updates (λ x y. bytes_eq x.now y.now) m more key (Some value) → (q : List ℕ) → option_or (found more q) (set_value ps q) ≡ all q
  new_label more key value is v e put q =
      ap (λ o. option_or o (set_value ps q)) (found_more m more key value put q ∙ ap (λ w. cond (bytes_eq key.now q) (Some w) (found m q)) v)
      ∙ sym (lacks_by (found m q) (set_value ps q) p.value (bytes_eq key.now q) (λ h. at_name key.now q false e h))
      ∙ ap (option_or (found m q)) (sym (sets_param p ps key.now q is))
      ∙ before q

-- one more parameter is looked at
abbrev listed_in : List Param → List ℕ → Option (List (List ℕ))
listed_in params q = option_map (λ (p : Param). p.values) (find (λ (p : Param). bytes_eq p.name q) params)

listed_by : (r : Param) (more less : Option Param) (last : Option (List (List ℕ))) (b : Bool) → option_map (λ (s : Param). s.values) more ≡ option_or (option_map (λ (s : Param). s.values) less) last →
    option_map (λ (s : Param). s.values) (cond b (Some r) more) ≡ option_or (option_map (λ (s : Param). s.values) (cond b (Some r) less)) last
listed_by r more less last true e = refl
listed_by r more less last false e = e

listed_push : (ps : List Param) (p : Param) (q : List ℕ) → listed_in (ps ++ p ∷ []) q ≡ option_or (listed_in ps q) (cond (bytes_eq p.name q) (Some p.values) None)
listed_push [] p q = by (bytes_eq p.name q)
  where
    by : (b : Bool) → option_map (λ (r : Param). r.values) (cond b (Some p) None) ≡ cond b (Some p.values) None
    by true = refl
    by false = refl
listed_push (r ∷ rs) p q =
    listed_by r (find (λ (s : Param). bytes_eq s.name q) (rs ++ p ∷ [])) (find (λ (s : Param). bytes_eq s.name q) rs) (cond (bytes_eq p.name q) (Some p.values) None) (bytes_eq r.name q) (listed_push rs p q)

stays_by : {A : Type 0} (o : Option A) (v : A) (b : Bool) → (b ≡ true → is_some o ≡ true) → o ≡ option_or o (cond b (Some v) None)
stays_by None v true h = absurd (let some : false ≡ true = h refl in cc)
stays_by None v false h = refl
stays_by (Some a) v b h = refl

comes_by : {A : Type 0} (o : Option A) (v : A) (b : Bool) → (b ≡ true → is_some o ≡ false) → cond b (Some v) o ≡ option_or o (cond b (Some v) None)
comes_by None v true h = refl
comes_by None v false h = refl
comes_by (Some a) v true h = absurd (let none : true ≡ false = h refl in cc)
comes_by (Some a) v false h = refl

module _ {S : Type 0} (m : HashMap (Bor (List ℕ)) (Bor (List (List ℕ))) S) (params : List Param) (i : ℕ) (p : Param) (inside : i < length params) (is : p ≡ get_or params i p)
    (before : HasListed m (take i params)) where
  next_listed : (q : List ℕ) → listed_in (take (i + 1) params) q ≡ option_or (found m q) (cond (bytes_eq p.name q) (Some p.values) None)
  next_listed q =
      ap (λ ps. listed_in ps q) (take_more params i p inside ∙ ap (λ x. take i params ++ x ∷ []) (sym is))
      ∙ listed_push (take i params) p q
      ∙ ap (λ o. option_or o (cond (bytes_eq p.name q) (Some p.values) None)) (sym (before q))

  there : (q : List ℕ) (b : Bool) → is_some (found m p.name) ≡ b → bytes_eq p.name q ≡ true → is_some (found m q) ≡ b
  there q b e h = ap (λ name. is_some (found m name)) (sym ((bytes_eq-Decides p.name q).0 h)) ∙ e

  pub repeated_param : is_some (found m p.name) ≡ true → HasListed m (take (i + 1) params)
  repeated_param e = λ q. stays_by (found m q) p.values (bytes_eq p.name q) (λ h. there q true e h) ∙ sym (next_listed q)

  pub new_param : (more : HashMap (Bor (List ℕ)) (Bor (List (List ℕ))) S) (key : Bor (List ℕ)) (value : Bor (List (List ℕ))) → key.now ≡ p.name → value.now ≡ p.values → is_some (found m p.name) ≡ false →
      Updates (λ x y. bytes_eq x.now y.now) m more key (Some value) → HasListed more (take (i + 1) params)
  new_param more key value k v e put = λ q.
      found_more m more key value put q
      ∙ ap (λ w. cond (bytes_eq key.now q) (Some w) (found m q)) v
      ∙ ap (λ n. cond (bytes_eq n q) (Some p.values) (found m q)) k
      ∙ comes_by (found m q) p.values (bytes_eq p.name q) (λ h. there q false e h)
      ∙ sym (next_listed q)

-- all labels are looked at
or_none : {A : Type 0} (o : Option A) → option_or o None ≡ o
or_none None = refl
or_none (Some a) = refl

pub all_labels : {S : Type 0} (m : HashMap (Bor (List ℕ)) (Bor (List ℕ)) S) (all : List ℕ → Option (List ℕ)) (ps : List Pair) → ps ≡ [] →
    ((q : List ℕ) → option_or (found m q) (set_value ps q) ≡ all q) → (q : List ℕ) → found m q ≡ all q
unfolding set_value
all_labels m all ps e before q = sym (or_none (found m q)) ∙ ap (λ rs. option_or (found m q) (set_value rs q)) (sym e) ∙ before q
