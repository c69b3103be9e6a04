-- Labels in any order make the set of the last of each name.
use Rattle.std.proofs.Common.{arith, ◌≡◌, ◌≢◌, ℕ, ◌+◌, ◌<◌, suc, Bool, true, false, List, [], ◌∷◌, ◌++◌, length, refl, sym, ap, ◌∙◌, subst, All, cond, get_or, add-one, ◌&&◌, ◌==◌, not}
use Rattle.std.specs.Prelude.{filter, map}
use Rattle.std.specs.Ordering.{is_lt, is_gt, ordering_reverse, is_eq}
use Rattle.std.specs.declared.cmp.Ordering.{Ordering}
use Rattle.std.specs.declared.cmp.Ordering.TheVariants.{Less, Equal, Greater}
use Rattle.std.specs.Cmp.Lexicographic.{nat_list_cmp_total, texts_ties}
use Rattle.std.specs.Str.{bytes_eq}
use Rattle.std.specs.List.Sorted.{IsSorted, IsStable, ties}
use Rattle.std.proofs.lemmas.List.Elements.{All-head, All-tail, All-weaker, All-cons}
use Rattle.std.proofs.Common.{take, drop, drop-cons, ◌-◌}
use Rattle.std.proofs.lemmas.List.{take_rest, map-append}
use Rattle.std.proofs.lemmas.Slice.Eq.{bytes_eq-Decides}
use Rattle.label_set.specs.Bytes.{bytes_cmp}
use Rattle.label_set.specs.Sets.{IsSet, below, above, with_label, pair_cmp, pairs_total, set_cmp}
use Rattle.label_set.specs.Flat.{flat_label, first_label, after_first, labels_of, IsLabel, IsFlat}
use Rattle.label_set.proofs.FlatLemmas.{same_label, first_of, no_labels}
use Rattle.label_set.specs.declared.texts.Pair.{Pair}
use Rattle.label_set.proofs.SetLemmas.{with_label_is_set}
use Rattle.label_set.specs.Lasts.{with_labels, some_label, named_first, lasts, is_before, leads, is_ordered}
use Rattle.label_set.specs.declared.labels.Label.{Label}
use Rattle.label_set.specs.declared.ordered.Named.{Named}
use Rattle.label_set.specs.Borrowed.{pair_of}
use Rattle.label_set.specs.Named.{named_pair, name_cmp}
use Rattle.label_set.proofs.LookLemmas.{look, IsAbsent, equal_test, not_greater, turned, turned_back, same_name, itself, look_absent, look_first, look_later, setting, look-with_labels, with_labels_is_set}

-- labels whose names do not fall
abbrev Follows : Pair → List Pair → Type 0
Follows p [] = Unit {0}
Follows p (q ∷ ps) = is_lt (bytes_cmp q.name p.name) ≡ false

abbrev Rising : List Pair → Type 0
Rising [] = Unit {0}
Rising (p ∷ ps) = Follows p ps × Rising ps

abbrev IsUnder : List ℕ → Pair → Type 0
IsUnder n q = bytes_cmp n q.name ≡ Less

-- a name that is not below another and differs from it is above it
apart_by : (o : Ordering) → is_lt o ≡ false → is_eq o ≡ false → o ≡ Greater
apart_by Less e f = absurd cc
apart_by Equal e f = absurd cc
apart_by Greater e f = refl

next_above : (p q : Pair) → is_lt (bytes_cmp q.name p.name) ≡ false → bytes_eq q.name p.name ≡ false → IsUnder p.name q
next_above p q e f = turned_back q.name p.name (apart_by (bytes_cmp q.name p.name) e (sym (equal_test q.name p.name) ∙ f))

-- what lies above a name and what follows it
still_above : (o : Ordering) (n q r : List ℕ) → bytes_cmp r q ≡ o → is_lt o ≡ false → bytes_cmp n q ≡ Less → bytes_cmp n r ≡ Less
still_above Less n q r e f h = absurd cc
still_above Equal n q r e f h =
    nat_list_cmp_total.antisymm n r ∙ ap ordering_reverse (nat_list_cmp_total.congr r q n e ∙ turned n q h)
still_above Greater n q r e f h = nat_list_cmp_total.trans n q r h (turned_back r q e)

all_above_from : (n : List ℕ) (p : Pair) (ps : List Pair) → IsUnder n p → Rising (p ∷ ps) → All (IsUnder n) (p ∷ ps)
all_above_from n p [] h r = All-cons (IsUnder n) p [] h (λ k d l. absurd (omega arith))
all_above_from n p (q ∷ ps) h r =
    All-cons (IsUnder n) p (q ∷ ps) h (all_above_from n q ps (still_above (bytes_cmp q.name p.name) n p.name q.name refl r.0 h) r.1)

later_above : (p : Pair) (ps : List Pair) → Rising (p ∷ ps) → named_first p.name ps ≡ false → All (IsUnder p.name) ps
later_above p [] r e = λ k d l. absurd (omega arith)
later_above p (q ∷ ps) r e = all_above_from p.name q ps (next_above p q r.0 e) r.1

absent_above : (n : List ℕ) (ps : List Pair) → All (IsUnder n) ps → IsAbsent n ps
absent_above n [] h = tt
absent_above n (p ∷ ps) h = (not_greater p.name n (turned n p.name (All-head (IsUnder n) p ps h)), absent_above n ps (All-tail (IsUnder n) p ps h))

All-cond : (P : Pair → Type 0) (b : Bool) (xs ys : List Pair) → All P xs → All P ys → All P (cond b xs ys)
All-cond P true xs ys h k = h
All-cond P false xs ys h k = k

All-some_label : (P : Pair → Type 0) (p : Pair) (v : List ℕ) (ps : List Pair) → P p → All P ps → All P (some_label p v ps)
All-some_label P p [] ps h k = k
All-some_label P p (b ∷ bs) ps h k = All-cons P p ps h k

All-lasts : (P : Pair → Type 0) (ps : List Pair) → All P ps → All P (lasts ps)
All-lasts P [] h = h
All-lasts P (p ∷ ps) h =
    let later = All-lasts P ps (All-tail P p ps h) in
    All-cond P (named_first p.name ps) (lasts ps) (some_label p p.value (lasts ps)) later (All-some_label P p p.value (lasts ps) (All-head P p ps h) later)

set_step : (b : Bool) (p : Pair) (v : List ℕ) (qs : List Pair) → p.value ≡ v → (b ≡ false → All (IsUnder p.name) qs) → IsSet qs → IsSet (cond b qs (some_label p v qs))
set_step true p v qs e h s = s
set_step false p [] qs e h s = s
set_step false p (b ∷ bs) qs e h s = ((λ z. absurd cc), h refl, s)

pub lasts_is_set : (ps : List Pair) → Rising ps → IsSet (lasts ps)
lasts_is_set [] r = tt
lasts_is_set (p ∷ ps) r =
    set_step (named_first p.name ps) p p.value (lasts ps) refl (λ e. All-lasts (IsUnder p.name) ps (later_above p ps r e)) (lasts_is_set ps r.1)

setting_absent : (v : List ℕ) (ps : List Pair) (m : List ℕ) → IsAbsent m ps → setting v ps m ≡ v
unfolding setting
setting_absent v [] m h = refl
setting_absent v (p ∷ ps) m h = ap (λ b. setting (cond b p.value v) ps m) h.0 ∙ setting_absent v ps m h.1

look_some : (p : Pair) (v : List ℕ) (ps : List Pair) (m : List ℕ) → p.value ≡ v → look ps m ≡ [] → look (some_label p v ps) m ≡ cond (bytes_eq p.name m) p.value (look ps m)
unfolding look
look_some p [] ps m e none = by_test (bytes_eq p.name m)
  where
    by_test : (b : Bool) → look ps m ≡ cond b p.value (look ps m)
    by_test true = none ∙ sym e
    by_test false = refl
look_some p (b ∷ bs) ps m e none = refl

-- a label of another name changes nothing
look_other : (p : Pair) (v : List ℕ) (ps : List Pair) (m : List ℕ) → bytes_eq p.name m ≡ false → look (some_label p v ps) m ≡ look ps m
look_other p [] ps m e = refl
look_other p (b ∷ bs) ps m e = look_later p ps m e

-- the first of two labels of one name does not matter
overwritten : (v w : List ℕ) (q : Pair) (ps : List Pair) (m : List ℕ) → (bytes_eq q.name m ≡ false → v ≡ w) → setting v (q ∷ ps) m ≡ setting w (q ∷ ps) m
unfolding setting
overwritten v w q ps m k = ap (λ u. setting u ps m) (by_test (bytes_eq q.name m) k)
  where
    by_test : (b : Bool) → (b ≡ false → v ≡ w) → cond b q.value v ≡ cond b q.value w
    by_test true k = refl
    by_test false k = k refl

module _ (p : Pair) (ps : List Pair) (m : List ℕ) (r : Rising (p ∷ ps)) (later : look (lasts ps) m ≡ setting [] ps m) where
  again : named_first p.name ps ≡ true → look (lasts ps) m ≡ setting (cond (bytes_eq p.name m) p.value []) ps m
  again e = later ∙ first ps e
    where
      first : (qs : List Pair) → named_first p.name qs ≡ true → setting [] qs m ≡ setting (cond (bytes_eq p.name m) p.value []) qs m
      first [] e = absurd cc
      first (q ∷ qs) e = overwritten [] (cond (bytes_eq p.name m) p.value []) q qs m (λ f. ap (λ b. cond b p.value []) (sym (ap (λ n. bytes_eq n m) (sym (same_name q.name p.name e)) ∙ f)))

  alone : (c : Bool) → bytes_eq p.name m ≡ c → named_first p.name ps ≡ false → look (some_label p p.value (lasts ps)) m ≡ setting (cond c p.value []) ps m
  alone true e f =
      let gone : IsAbsent m ps = subst (λ (n : List ℕ). IsAbsent n ps) (same_name p.name m e) (absent_above p.name ps (later_above p ps r f)) in
      let none : look (lasts ps) m ≡ [] = later ∙ setting_absent [] ps m gone in
      look_some p p.value (lasts ps) m refl none ∙ ap (λ b. cond b p.value (look (lasts ps) m)) e ∙ sym (setting_absent p.value ps m gone)
  alone false e f = look_other p p.value (lasts ps) m e ∙ later

  lasts_step : (b : Bool) → named_first p.name ps ≡ b → look (cond b (lasts ps) (some_label p p.value (lasts ps))) m ≡ setting (cond (bytes_eq p.name m) p.value []) ps m
  lasts_step true e = again e
  lasts_step false e = alone (bytes_eq p.name m) refl e

look-lasts : (ps : List Pair) (m : List ℕ) → Rising ps → look (lasts ps) m ≡ setting [] ps m
unfolding look setting
look-lasts [] m r = refl
look-lasts (p ∷ ps) m r = lasts_step p ps m r (look-lasts ps m r.1) (named_first p.name ps) refl

-- two sets that have one value at each name are one
look_under : (n : List ℕ) (ps : List Pair) → All (IsUnder n) ps → look ps n ≡ []
look_under n ps h = look_absent ps n (absent_above n ps h)

under_more : (n : List ℕ) (q : Pair) (qs : List Pair) → IsUnder n q → All (IsUnder q.name) qs → All (IsUnder n) (q ∷ qs)
under_more n q qs h k = All-cons (IsUnder n) q qs h (All-weaker (IsUnder q.name) (IsUnder n) (λ r l. nat_list_cmp_total.trans n q.name r.name h l) qs k)

look_head : (p : Pair) (ps : List Pair) → look (p ∷ ps) p.name ≡ p.value
look_head p ps = look_first p ps p.name (itself p.name)

module _ (x : Pair) (xs : List Pair) (y : Pair) (ys : List Pair) (s : IsSet (x ∷ xs)) (t : IsSet (y ∷ ys)) (h : (m : List ℕ) → look (x ∷ xs) m ≡ look (y ∷ ys) m) (rest : ((m : List ℕ) → look xs m ≡ look ys m) → xs ≡ ys) where
  tails_by : (m : List ℕ) (b : Bool) → bytes_eq x.name m ≡ b → x.name ≡ y.name → look xs m ≡ look ys m
  tails_by m true e names =
      let at : x.name ≡ m = same_name x.name m e in
      let none_x : look xs m ≡ [] = ap (look xs) (sym at) ∙ look_under x.name xs s.1 in
      let none_y : look ys m ≡ [] = ap (look ys) (sym at ∙ names) ∙ look_under y.name ys t.1 in
      none_x ∙ sym none_y
  tails_by m false e names = sym (look_later x xs m e) ∙ h m ∙ look_later y ys m (ap (λ n. bytes_eq n m) (sym names) ∙ e)

  ext_step : (o : Ordering) → bytes_cmp x.name y.name ≡ o → x ∷ xs ≡ y ∷ ys
  ext_step Less e = absurd (s.0 (sym (look_head x xs) ∙ h x.name ∙ look_under x.name (y ∷ ys) (under_more x.name y ys e t.1)))
  ext_step Greater e = absurd (t.0 (sym (look_head y ys) ∙ sym (h y.name) ∙ look_under y.name (x ∷ xs) (under_more y.name x xs (turned_back x.name y.name e) s.1)))
  ext_step Equal e =
      let names : x.name ≡ y.name = same_name x.name y.name (equal_test x.name y.name ∙ ap is_eq e) in
      let values : x.value ≡ y.value = sym (look_head x xs) ∙ h x.name ∙ ap (look (y ∷ ys)) names ∙ look_head y ys in
      ap (λ n. record { name = n; value = x.value } ∷ xs) names ∙ ap (λ v. record { name = y.name; value = v } ∷ xs) values ∙ ap (λ zs. y ∷ zs) (rest (λ m. tails_by m (bytes_eq x.name m) refl names))

pub set_ext : (xs ys : List Pair) → IsSet xs → IsSet ys → ((m : List ℕ) → look xs m ≡ look ys m) → xs ≡ ys
unfolding look
set_ext [] [] s t h = refl
set_ext [] (y ∷ ys) s t h = absurd (t.0 (sym (look_head y ys) ∙ sym (h y.name)))
set_ext (x ∷ xs) [] s t h = absurd (s.0 (sym (look_head x xs) ∙ h x.name))
set_ext (x ∷ xs) (y ∷ ys) s t h = ext_step x xs y ys s t h (set_ext xs ys s.2 t.2) (bytes_cmp x.name y.name) refl

-- what a stable sort by name keeps
last_value : List ℕ → List Pair → List ℕ
last_value v [] = v
last_value v (p ∷ ps) = last_value p.value ps

setting_by_filter : (v : List ℕ) (ps : List Pair) (m : List ℕ) → setting v ps m ≡ last_value v (filter (λ (p : Pair). bytes_eq p.name m) ps)
unfolding setting last_value
setting_by_filter v [] m = refl
setting_by_filter v (p ∷ ps) m = setting_by_filter (cond (bytes_eq p.name m) p.value v) ps m ∙ by_test (bytes_eq p.name m)
  where
    by_test : (b : Bool) → last_value (cond b p.value v) (filter (λ (q : Pair). bytes_eq q.name m) ps) ≡ last_value v (cond b (p ∷ filter (λ (q : Pair). bytes_eq q.name m) ps) (filter (λ (q : Pair). bytes_eq q.name m) ps))
    by_test true = refl
    by_test false = refl

named : List ℕ → Named
named m = record { label = record { name = record { ref_ptr = (0, 0); now = m }; value = record { ref_ptr = (0, 0); now = m } } }

ties_by : (o : Ordering) → (not (is_lt (ordering_reverse o)) && not (is_lt o)) ≡ is_eq o
ties_by Less = refl
ties_by Equal = refl
ties_by Greater = refl

ties_named : (m : List ℕ) (n : Named) → ties (λ x y. is_lt (name_cmp x y)) (named m) n ≡ bytes_eq n.label.name.now m
unfolding named
ties_named m n =
    ap (λ o. not (is_lt o) && not (is_lt (bytes_cmp n.label.name.now m))) (nat_list_cmp_total.antisymm m n.label.name.now) ∙ ties_by (bytes_cmp n.label.name.now m) ∙ sym (equal_test n.label.name.now m)

map_cond : (b : Bool) (n : Named) (rest : List Named) → cond b (named_pair n ∷ map named_pair rest) (map named_pair rest) ≡ map named_pair (cond b (n ∷ rest) rest)
map_cond true n rest = refl
map_cond false n rest = refl

filter_named : (m : List ℕ) (ns : List Named) → filter (λ (p : Pair). bytes_eq p.name m) (map named_pair ns) ≡ map named_pair (filter (ties (λ x y. is_lt (name_cmp x y)) (named m)) ns)
filter_named m [] = refl
filter_named m (n ∷ ns) =
    let rest = filter (ties (λ x y. is_lt (name_cmp x y)) (named m)) ns in
    ap (λ ps. cond (bytes_eq n.label.name.now m) (named_pair n ∷ ps) ps) (filter_named m ns) ∙ ap (λ b. cond b (named_pair n ∷ map named_pair rest) (map named_pair rest)) (sym (ties_named m n)) ∙ map_cond (ties (λ x y. is_lt (name_cmp x y)) (named m) n) n rest

rising_from : (ns : List Named) → IsSorted name_cmp ns → Rising (map named_pair ns)
rising_from [] h = tt
rising_from (n ∷ []) h = (tt, tt)
rising_from (n ∷ o ∷ ns) h =
    let next : (k : ℕ) → suc k + 1 ≡ suc (k + 1) = λ k. omega arith in
    let later : IsSorted name_cmp (o ∷ ns) =
    λ k d l f. subst (λ (j : ℕ). is_lt (name_cmp (get_or (n ∷ o ∷ ns) j d) (get_or (o ∷ ns) k d)) ≡ false) (next k) (h (suc k) d (omega arith) (omega arith)) in
    (h 0 n (omega arith) (omega arith), rising_from (o ∷ ns) later)

pub of_sorted : (ls ss : List Named) → IsSorted name_cmp ss → IsStable name_cmp ls ss → lasts (map named_pair ss) ≡ with_labels [] (map named_pair ls)
unfolding look
of_sorted ls ss up stable =
    let rising = rising_from ss up in
    let same : (m : List ℕ) → setting [] (map named_pair ss) m ≡ setting [] (map named_pair ls) m =
    λ m. setting_by_filter [] (map named_pair ss) m ∙ ap (last_value []) (filter_named m ss ∙ ap (map named_pair) (stable (named m)) ∙ sym (filter_named m ls)) ∙ sym (setting_by_filter [] (map named_pair ls) m) in
    set_ext _ _ (lasts_is_set (map named_pair ss) rising) (with_labels_is_set [] (map named_pair ls) tt)
    (λ m. look-lasts (map named_pair ss) m rising ∙ same m ∙ sym (look-with_labels [] (map named_pair ls) m))

pub sorted_is_set : (ss : List Named) → IsSorted name_cmp ss → IsSet (lasts (map named_pair ss))
sorted_is_set ss up = lasts_is_set (map named_pair ss) (rising_from ss up)

pub named_back : (ls : List Label) → map named_pair (map (λ (l : Label). record { label = l }) ls) ≡ map pair_of ls
named_back [] = refl
named_back (l ∷ ls) = ap (λ ps. pair_of l ∷ ps) (named_back ls)

-- labels that are a set as they stand
both_true : (a b : Bool) → (a && b) ≡ true → (a ≡ true) × (b ≡ true)
both_true true b e = (refl, e)
both_true false b e = absurd cc

some_value : (v : List ℕ) → not (length v == 0) ≡ true → v ≢ []
some_value [] e z = absurd cc
some_value (b ∷ bs) e z = absurd cc

less_by : (o : Ordering) → is_lt o ≡ true → o ≡ Less
less_by Less e = refl
less_by Equal e = absurd cc
less_by Greater e = absurd cc

all_later : (p : Pair) (ps : List Pair) → is_before p ps ≡ true → IsSet ps → All (IsUnder p.name) ps
all_later p [] e s = λ k d l. absurd (omega arith)
all_later p (q ∷ ps) e s = under_more p.name q ps (less_by (bytes_cmp p.name q.name) e) s.1

pub ordered_is_set : (ps : List Pair) → is_ordered ps ≡ true → IsSet ps
ordered_is_set [] e = tt
ordered_is_set (p ∷ ps) e =
    let parts = both_true (leads p ps) (is_ordered ps) e in
    let here = both_true (not (length p.value == 0)) (is_before p ps) parts.0 in
    let later = ordered_is_set ps parts.1 in
    (some_value p.value here.0, all_later p ps here.1 later, later)

-- a set is what its labels make
setting_step : (p : Pair) (ps : List Pair) (m : List ℕ) (b : Bool) → bytes_eq p.name m ≡ b → All (IsUnder p.name) ps → setting [] ps m ≡ look ps m → setting (cond b p.value []) ps m ≡ cond b p.value (look ps m)
setting_step p ps m true e h later =
    setting_absent p.value ps m (subst (λ (n : List ℕ). IsAbsent n ps) (same_name p.name m e) (absent_above p.name ps h))
setting_step p ps m false e h later = later

look_setting : (ps : List Pair) (m : List ℕ) → IsSet ps → setting [] ps m ≡ look ps m
unfolding look setting
look_setting [] m s = refl
look_setting (p ∷ ps) m s = setting_step p ps m (bytes_eq p.name m) refl s.1 (look_setting ps m s.2)

pub set_again : (ps : List Pair) → IsSet ps → ps ≡ with_labels [] ps
unfolding look
set_again ps s =
    set_ext _ _ s (with_labels_is_set [] ps tt) (λ m. sym (look_setting ps m s) ∙ sym (look-with_labels [] ps m))

pub with_labels-append : (set xs ys : List Pair) → with_labels set (xs ++ ys) ≡ with_labels (with_labels set xs) ys
with_labels-append set [] ys = refl
with_labels-append set (x ∷ xs) ys = with_labels-append (with_label set x.name x.value) xs ys

-- labels put in behind those of a set
pub more_labels : (set : List Pair) (all own more : List Label) → IsSet set → all ≡ own ++ more → map pair_of own ≡ set → with_labels [] (map pair_of all) ≡ with_labels set (map pair_of more)
more_labels set all own more s e h =
    ap (λ ls. with_labels [] (map pair_of ls)) e ∙ ap (with_labels []) (map-append pair_of own more) ∙ with_labels-append [] (map pair_of own) (map pair_of more)
    ∙ ap (λ xs. with_labels xs (map pair_of more)) (ap (with_labels []) h ∙ sym (set_again set s))

pub ordered_next : (xs : List Label) (i : ℕ) (d : Label) → i < length xs → is_ordered (map pair_of (drop i xs)) ≡ (leads (pair_of (get_or xs i d)) (map pair_of (take (length xs - (i + 1)) (drop (i + 1) xs))) && is_ordered (map pair_of (drop (i + 1) xs)))
ordered_next xs i d h =
    let whole : drop i xs ≡ get_or xs i d ∷ drop (i + 1) xs = rw (add-one, drop-cons xs i d h) refl in
    ap (λ ys. is_ordered (map pair_of ys)) whole ∙ ap (λ ys. leads (pair_of (get_or xs i d)) (map pair_of ys) && is_ordered (map pair_of (drop (i + 1) xs))) (sym (take_rest xs (i + 1)))

pair_itself : (p : Pair) → pair_cmp p p ≡ Equal
pair_itself p = itself_by (pair_cmp p p) (pairs_total.antisymm p p)
  where
    itself_by : (o : Ordering) → o ≡ ordering_reverse o → o ≡ Equal
    itself_by Less e = absurd cc
    itself_by Equal e = refl
    itself_by Greater e = absurd cc

pub same_bytes : (p q : Pair) → IsLabel p → IsLabel q → flat_label p ≡ flat_label q → Equal ≡ pair_cmp p q
same_bytes p q h k e = sym (pair_itself p) ∙ ap (pair_cmp p) (same_label p q h k e)

pub goes_on : (ours theirs : List ℕ) → IsFlat ours → 0 < length ours → length theirs ≡ 0 → set_cmp (labels_of ours) (labels_of theirs) ≡ Greater
goes_on ours theirs h some none =
    ap (λ ps. set_cmp ps (labels_of theirs)) (first_of ours h some).labels ∙ ap (set_cmp (first_label ours ∷ labels_of (after_first ours))) (no_labels theirs none)
