-- The joined labels have values and different names, so they make a set.
use Rattle.std.proofs.Common.{◌≡◌, ◌≢◌, ℕ, Bool, true, false, not, cond, List, [], ◌∷◌, ◌++◌, length, refl, ap, sym, subst, ◌∙◌, All, Option, Some, None}
use Rattle.std.specs.Prelude.{filter, ◌&&◌, ◌==◌}
use Rattle.std.specs.List.{AllByRecursion, IsDistinct}
use Rattle.std.specs.List.Sorted.{IsPermutation, IsSorted, IsStrictlySortedBy}
use Rattle.std.specs.Ordering.{is_eq, eq_by_cmp, nat_cmp, ordering_then}
use Rattle.std.specs.declared.cmp.Ordering.{Ordering}
use Rattle.std.specs.declared.cmp.Ordering.TheVariants.{Less, Equal, Greater}
use Rattle.std.specs.Cmp.Lexicographic.{texts_ties, nat_list_cmp_total}
use Rattle.std.specs.Str.{bytes_eq}
use Rattle.std.proofs.lemmas.Bool.{and_parts, or_parts}
use Rattle.std.proofs.lemmas.Slice.Eq.{bytes_eq-Decides}
use Rattle.std.proofs.lemmas.Cmp.{tied_itself}
use Rattle.std.proofs.lemmas.List.Sorted.{All-permutation}
use Rattle.std.proofs.lemmas.List.Elements.{All-nil, All-from_recursion, recursion_from_All, All-append, All-cons, All-weaker, All-filter, filter_passes, All-tail, All-head}
use Rattle.std.proofs.lemmas.Map.Keys.{sorted_head, sorted_tail}
use Rattle.label_set.specs.Bytes.{bytes_cmp}
use Rattle.label_set.specs.Sets.{IsSet}
use Rattle.label_set.specs.SetText.{metric_label}
use Rattle.label_set.specs.declared.texts.Pair.{Pair}
use Rattle.label_conflict.specs.Orders.{by_name, by_length, in_order}
use Rattle.label_conflict.specs.Merging.{has_value, bears, names_of, name_label, apart_from, conflicts, free_name, with_free, settled, joined, merged}
use Rattle.label_conflict.proofs.OrderLemmas.{by_name_total, by_length_total, in_order_moves, sort_is, sort_rises}
use Rattle.label_conflict.proofs.FreeLemmas.{free_name_is_free}

-- the label's name is another
abbrev pub IsOther : List ℕ → Pair → Type 0
IsOther name p = p.name ≢ name

-- no two labels have one name
abbrev pub Differ : List Pair → Type 0
Differ [] = Unit {0}
Differ (p ∷ ps) = All (λ (q : Pair). p.name ≢ q.name) ps × Differ ps

abbrev pub HasValue : Pair → Type 0
HasValue p = p.value ≢ []

-- labels that make a set
abbrev pub IsFit : List Pair → Type 0
IsFit ps = Differ ps × All HasValue ps

-- the names of the first are none of the second
abbrev Away : List Pair → List Pair → Type 0
Away xs ys = All (λ (p : Pair). All (λ (q : Pair). p.name ≢ q.name) ys) xs

not_equal : (xs ys : List ℕ) → bytes_eq xs ys ≡ false → xs ≢ ys
not_equal xs ys e same = let yes = (bytes_eq-Decides xs ys).1 same in absurd cc

unequal_at : (b : Bool) (xs ys : List ℕ) → bytes_eq xs ys ≡ b → xs ≢ ys → b ≡ false
unequal_at true xs ys e h = absurd (h ((bytes_eq-Decides xs ys).0 e))
unequal_at false xs ys e h = refl

-- what is asked of the exposed labels
pub differ_from_names : (ps : List Pair) → IsDistinct bytes_eq (names_of ps) → Differ ps
unfolding IsDistinct
differ_from_names [] d = tt
differ_from_names (p ∷ ps) d = (apart_names p ps d.0, differ_from_names ps d.1)
  where
    apart_names : (p : Pair) (ps : List Pair) → AllByRecursion (λ n. bytes_eq p.name n ≡ false) (names_of ps) → All (λ (q : Pair). p.name ≢ q.name) ps
    apart_names p [] h = All-nil (λ (q : Pair). p.name ≢ q.name)
    apart_names p (q ∷ qs) h = All-cons (λ (q : Pair). p.name ≢ q.name) q qs (not_equal p.name q.name h.0) (apart_names p qs h.1)

-- an order under which only labels of one name tie
module _ (cmp : Pair → Pair → Ordering) (tie : (p q : Pair) → eq_by_cmp cmp p q ≡ true → p.name ≡ q.name) where
  no_tie_at : (b : Bool) (p q : Pair) → eq_by_cmp cmp p q ≡ b → p.name ≢ q.name → b ≡ false
  no_tie_at true p q e h = absurd (h (tie p q e))
  no_tie_at false p q e h = refl

  distinct : (ps : List Pair) → Differ ps → IsDistinct (eq_by_cmp cmp) ps
  unfolding IsDistinct
  distinct [] d = tt
  distinct (p ∷ ps) d = (
    recursion_from_All (λ (q : Pair). eq_by_cmp cmp p q ≡ false) ps
        (All-weaker (λ (q : Pair). p.name ≢ q.name) (λ (q : Pair). eq_by_cmp cmp p q ≡ false) (λ q h. no_tie_at (eq_by_cmp cmp p q) p q refl h) ps d.0),
    distinct ps d.1,
  )

name_tie : (p q : Pair) → eq_by_cmp by_name p q ≡ true → p.name ≡ q.name
name_tie p q e = (bytes_eq-Decides p.name q.name).0 (texts_ties p.name q.name ∙ e)

second_ties : (a b : Ordering) → is_eq (ordering_then a b) ≡ true → is_eq b ≡ true
second_ties Less b e = absurd cc
second_ties Equal b e = e
second_ties Greater b e = absurd cc

length_tie : (p q : Pair) → eq_by_cmp by_length p q ≡ true → p.name ≡ q.name
length_tie p q e = name_tie p q (second_ties (nat_cmp (length p.name) (length q.name)) (bytes_cmp p.name q.name) e)

-- the conflicts as a sort gives them
pub conflicts_sorted : (ps ys : List Pair) → Differ ps → IsPermutation ps ys → IsSorted by_length ys → ys ≡ in_order by_length ps
conflicts_sorted ps ys d m s = sort_is by_length by_length_total ps ys (distinct by_length length_tie ps d) m s

set_from : (ys : List Pair) → IsStrictlySortedBy by_name ys → All HasValue ys → IsSet ys
set_from [] s v = tt
set_from (p ∷ ps) s v =
    (All-head HasValue p ps v, All-from_recursion (λ (q : Pair). bytes_cmp p.name q.name ≡ Less) ps (sorted_head by_name p ps s), set_from ps (sorted_tail by_name p ps s) (All-tail HasValue p ps v))

-- labels that are fit are a set once they are sorted by name
pub sorted_set : (ps ys : List Pair) → IsFit ps → IsPermutation ps ys → IsSorted by_name ys → IsSet ys
sorted_set ps ys f m s = set_from ys (sort_rises by_name by_name_total ps ys (distinct by_name name_tie ps f.0) m s) (All-permutation HasValue ps ys m f.1)

pub sorted_is : (ps ys : List Pair) → IsFit ps → IsPermutation ps ys → IsSorted by_name ys → ys ≡ in_order by_name ps
sorted_is ps ys f m s = sort_is by_name by_name_total ps ys (distinct by_name name_tie ps f.0) m s

-- ---- labels that differ in name
kept_differ : (b : Bool) (p : Pair) (ps : List Pair) → All (λ (q : Pair). p.name ≢ q.name) ps → Differ ps → Differ (cond b (p ∷ ps) ps)
kept_differ true p ps h d = (h, d)
kept_differ false p ps h d = d

pub differ_filter : (f : Pair → Bool) (ps : List Pair) → Differ ps → Differ (filter f ps)
differ_filter f [] d = tt
differ_filter f (p ∷ ps) d = kept_differ (f p) p (filter f ps) (All-filter f (λ (q : Pair). p.name ≢ q.name) ps d.0) (differ_filter f ps d.1)

differ_append : (xs ys : List Pair) → Differ xs → Differ ys → Away xs ys → Differ (xs ++ ys)
differ_append [] ys d e a = e
differ_append (x ∷ xs) ys d e a = (
  All-append (λ (q : Pair). x.name ≢ q.name) xs ys d.0 (All-head (λ (p : Pair). All (λ (q : Pair). p.name ≢ q.name) ys) x xs a),
  differ_append xs ys d.1 e (All-tail (λ (p : Pair). All (λ (q : Pair). p.name ≢ q.name) ys) x xs a),
)

fit_append : (xs ys : List Pair) → IsFit xs → IsFit ys → Away xs ys → IsFit (xs ++ ys)
fit_append xs ys f g a = (differ_append xs ys f.0 g.0 a, All-append HasValue xs ys f.1 g.1)

flipped : (xs ys : List Pair) → Away xs ys → Away ys xs
flipped xs ys a = λ k d h j e i same. a j e i k d h (sym same)

-- what isn't borne
not_borne : (ps : List Pair) (name : List ℕ) → bears ps name ≡ false → All (IsOther name) ps
not_borne [] name e = All-nil (IsOther name)
not_borne (p ∷ ps) name e =
    let parts = or_parts (bytes_eq p.name name) (bears ps name) e in
    All-cons (IsOther name) p ps (not_equal p.name name parts.0) (not_borne ps name parts.1)

no_not : (b : Bool) → not b ≡ true → b ≡ false
no_not true e = absurd cc
no_not false e = refl

has_bytes : (xs : List ℕ) → not (length xs == 0) ≡ true → xs ≢ []
has_bytes [] e h = absurd cc
has_bytes (x ∷ xs) e h = absurd cc

valued : (f : Pair → Bool) (ps : List Pair) → All HasValue (filter (λ (p : Pair). has_value p && f p) ps)
valued f ps =
    All-weaker (λ (p : Pair). (has_value p && f p) ≡ true) HasValue (λ p e. has_bytes p.value (and_parts (has_value p) (f p) e).0) _
    (filter_passes (λ (p : Pair). has_value p && f p) ps)

valued_alone : (ps : List Pair) → All HasValue (filter has_value ps)
valued_alone ps = All-weaker (λ (p : Pair). has_value p ≡ true) HasValue (λ p e. has_bytes p.value e) _ (filter_passes has_value ps)

set_differs : (ps : List Pair) → IsSet ps → Differ ps
set_differs [] s = tt
set_differs (p ∷ ps) s = (All-weaker (λ (q : Pair). bytes_cmp p.name q.name ≡ Less) (λ (q : Pair). p.name ≢ q.name) (λ q e. less_differs p.name q.name e) ps s.1, set_differs ps s.2)
  where
    less_differs : (m n : List ℕ) → bytes_cmp m n ≡ Less → m ≢ n
    less_differs m n e same = let tied = tied_itself nat_list_cmp_total m ∙ refl in let less = subst (λ x. bytes_cmp m x ≡ Less) (sym same) e in absurd cc

set_valued : (ps : List Pair) → IsSet ps → All HasValue ps
set_valued [] s = All-nil HasValue
set_valued (p ∷ ps) s = All-cons HasValue p ps s.0 (set_valued ps s.2)

set_fit : (ps : List Pair) → IsSet ps → IsFit ps
set_fit ps s = (set_differs ps s, set_valued ps s)

apart_away : (others ps : List Pair) → Away others (apart_from others ps)
apart_away others ps =
    let f : Pair → Bool = λ (p : Pair). has_value p && not (bears others p.name) in
    flipped (apart_from others ps) others
    (All-weaker (λ (p : Pair). f p ≡ true) (λ (p : Pair). All (λ (q : Pair). p.name ≢ q.name) others)
    (λ p e. All-weaker (IsOther p.name) (λ (q : Pair). p.name ≢ q.name) (λ q h same. h (sym same)) others (not_borne others p.name (no_not _ (and_parts (has_value p) (not (bears others p.name)) e).1)))
    _ (filter_passes f ps))

apart_fit : (others ps : List Pair) → Differ ps → IsFit (apart_from others ps)
apart_fit others ps d = (differ_filter _ ps d, valued (λ (p : Pair). not (bears others p.name)) ps)

away_filter : (f : Pair → Bool) (xs ys : List Pair) → Away xs ys → Away (filter f xs) ys
away_filter f xs ys a = All-filter f (λ (p : Pair). All (λ (q : Pair). p.name ≢ q.name) ys) xs a

name_fit : (name : List ℕ) → IsFit (name_label name)
name_fit [] = (tt, All-nil HasValue)
name_fit (b ∷ bs) = ((All-nil (λ (q : Pair). metric_label ≢ q.name), tt), All-cons HasValue _ [] (λ e. absurd cc) (All-nil HasValue))

name_away : (name : List ℕ) (ps : List Pair) → All (IsOther metric_label) ps → Away (name_label name) ps
name_away [] ps h = All-nil (λ (p : Pair). All (λ (q : Pair). p.name ≢ q.name) ps)
name_away (b ∷ bs) ps h =
    All-cons (λ (p : Pair). All (λ (q : Pair). p.name ≢ q.name) ps) (record { name = metric_label; value = b ∷ bs }) []
    (All-weaker (IsOther metric_label) (λ (q : Pair). metric_label ≢ q.name) (λ q h same. h (sym same)) ps h) (All-nil (λ (p : Pair). All (λ (q : Pair). p.name ≢ q.name) ps))

-- ---- conflicts
settle_fit : (labels : List Pair) (value name : List ℕ) (o : Option (List ℕ)) → free_name labels name ≡ o → value ≢ [] → IsFit labels → IsFit (with_free labels value o)
settle_fit labels value name None e v f = f
settle_fit labels value name (Some n) e v f =
    let one : Pair = record { name = n; value = value } in
    let others = not_borne labels n (free_name_is_free labels name n e) in
    fit_append labels (one ∷ []) f ((All-nil (λ (q : Pair). n ≢ q.name), tt), All-cons HasValue one [] v (All-nil HasValue))
    (All-weaker (IsOther n) (λ (p : Pair). All (λ (q : Pair). p.name ≢ q.name) (one ∷ [])) (λ p h. All-cons (λ (q : Pair). p.name ≢ q.name) one [] h (All-nil (λ (q : Pair). p.name ≢ q.name))) labels others)

settled_fit : (ps labels : List Pair) → All HasValue ps → IsFit labels → IsFit (settled ps labels)
settled_fit [] labels v f = f
settled_fit (p ∷ ps) labels v f =
    settled_fit ps (with_free labels p.value (free_name labels p.name)) (All-tail HasValue p ps v)
    (settle_fit labels p.value p.name (free_name labels p.name) refl (All-head HasValue p ps v) f)

-- one more conflict is settled after the others
pub settled-push : (ps : List Pair) (p : Pair) (labels : List Pair) → settled (ps ++ p ∷ []) labels ≡ with_free (settled ps labels) p.value (free_name (settled ps labels) p.name)
settled-push [] p labels = refl
settled-push (q ∷ ps) p labels = settled-push ps p (with_free labels q.value (free_name labels q.name))

pub settled_more : (ps : List Pair) (p : Pair) (labels now next : List Pair) (n : List ℕ) → now ≡ settled ps labels → free_name now p.name ≡ Some n →
    next ≡ now ++ record { name = n; value = p.value } ∷ [] → next ≡ settled (ps ++ p ∷ []) labels
settled_more ps p labels now next n is found e =
    e ∙ ap (λ o. with_free now p.value o) (sym found) ∙ ap (λ l. with_free l p.value (free_name l p.name)) is ∙ sym (settled-push ps p labels)

-- ---- all of it
module _ (name : List ℕ) (exposed target : List Pair) (d : Differ exposed) (t : IsSet target) (e : bears exposed metric_label ≡ false) (u : bears target metric_label ≡ false) where
  honored_fit : IsFit (joined name exposed target true)
  honored_fit =
      let f : Pair → Bool = λ (p : Pair). has_value p && not (bears exposed p.name) in
      let rest : IsFit (filter has_value exposed ++ apart_from exposed target) =
      fit_append _ _ (differ_filter has_value exposed d, valued_alone exposed) (apart_fit exposed target (set_differs target t)) (away_filter has_value exposed _ (apart_away exposed target)) in
      let others : All (IsOther metric_label) (filter has_value exposed ++ apart_from exposed target) =
      All-append (IsOther metric_label) _ _ (All-filter has_value (IsOther metric_label) exposed (not_borne exposed metric_label e)) (All-filter f (IsOther metric_label) target (not_borne target metric_label u)) in
      fit_append (name_label name) _ (name_fit name) rest (name_away name _ others)

  base_fit : IsFit (name_label name ++ (apart_from target exposed ++ target))
  base_fit =
      let f : Pair → Bool = λ (p : Pair). has_value p && not (bears target p.name) in
      let rest : IsFit (apart_from target exposed ++ target) = fit_append _ _ (apart_fit target exposed d) (set_fit target t) (flipped _ _ (apart_away target exposed)) in
      let others : All (IsOther metric_label) (apart_from target exposed ++ target) =
      All-append (IsOther metric_label) _ _ (All-filter f (IsOther metric_label) exposed (not_borne exposed metric_label e)) (not_borne target metric_label u) in
      fit_append (name_label name) _ (name_fit name) rest (name_away name _ others)

  renamed_fit : IsFit (joined name exposed target false)
  renamed_fit =
      let found = filter (λ (p : Pair). has_value p && bears target p.name) exposed in
      settled_fit (conflicts exposed target) _ (All-permutation HasValue found (conflicts exposed target) (in_order_moves by_length found) (valued (λ (p : Pair). bears target p.name) exposed)) base_fit

  -- the joined labels have values and names that differ
  pub joined_fit : (honor : Bool) → IsFit (joined name exposed target honor)
  joined_fit true = honored_fit
  joined_fit false = renamed_fit

  -- what the sort makes of them is a set, and the one that is wanted
  pub merged_set : (honor : Bool) (ys : List Pair) → IsPermutation (joined name exposed target honor) ys → IsSorted by_name ys → IsSet ys
  merged_set honor ys m s = sorted_set (joined name exposed target honor) ys (joined_fit honor) m s

  pub merged_is : (honor : Bool) (ys : List Pair) → IsPermutation (joined name exposed target honor) ys → IsSorted by_name ys → ys ≡ merged name exposed target honor
  unfolding merged
  merged_is honor ys m s = sorted_is (joined name exposed target honor) ys (joined_fit honor) m s
