-- Rows by the kept entries alone.
use Rattle.std.proofs.Common.{Bool, codes, ◌≡◌, ◌⊎◌, inl, inr, ℕ, zero, suc, ℤ, pos, ◌-ℤ◌, ◌<◌, ◌≤◌, ◌<ℤ◌, ◌≤ℤ◌, true, false, List, [], ◌∷◌, ◌++◌, length, slice_get, Some, None, Option, Result, Ok, Err, IfOk, refl, sym, ap, ◌∙◌, subst, true≢false, arith, unwrap_or, append-nil, get_or, option_map, ◌&&◌}
use Rattle.std.specs.Prelude.{unsigned_abs, slice_index_or, IfSome, IsSome}
use Rattle.std.specs.Ordering.{is_eq}
use Rattle.std.specs.declared.cmp.Ordering.TheVariants.{Less, Equal}
use Rattle.std.specs.BTreeMap.{BTreeMap, get, keys}
use Rattle.std.specs.List.{AllByRecursion, Contains, list_all}
use Rattle.std.specs.List.Sorted.{IsStrictlySortedBy}
use Rattle.std.specs.BTreeSet.{BTreeSet, contains}
use Rattle.std.specs.Option.{option_map_or}
use Rattle.std.specs.Cmp.Lexicographic.{bytes_decides}
use Rattle.label_set.specs.Bytes.{bytes_cmp}
use Rattle.std.proofs.lemmas.Int.{ints}
use Rattle.std.proofs.lemmas.Option.{same_Some, none-some, slice_get_within, slice_get_past, slice_get-map}
use Rattle.std.proofs.lemmas.Map.Views.{IfSome-get, btree_set_contains_iff}
use Rattle.label_set.specs.Same.{sets_decide}
use Rattle.label_set.specs.Sets.{set_cmp, sets_total}
use Rattle.label_set.specs.declared.texts.Pair.{Pair}
use Rattle.report_samples.specs.declared.entries.Entry.{Entry}
use Rattle.appender_book.proofs.SeriesLemmas.{slice_get_left, slice_get_end, length_more}
use Rattle.instant_view.specs.Selectors.{IsNameAmong, IsNameOf, holds_in, is_of_name, selects, value_in}
use Rattle.instant_view.specs.declared.matchers.Matcher.{Matcher}
use Rattle.instant_view.specs.declared.matchers.SelectorParts.{SelectorParts}
use Rattle.instant_view.specs.declared.rows.Placed.{Placed}
use Rattle.instant_view.specs.declared.rows.ViewRow.{ViewRow}
use Rattle.instant_view.specs.Threads.{AreEnds, IsBackTo, AreNamed, IsGathered, IsGatheredOf, IsGatheredTo, IsKeptRow, IsLastOf, IsRowOf, IsSeenAs, IsSelectedRow, Rise, listed, is_named}
use Rattle.instant_view.specs.Views.{IsAmong, IsSeen}
use Rattle.instant_view.proofs.LinkLemmas.{series_at, three}

pub not_both : (a t : ℤ) → t <ℤ a → a ≤ℤ t → ⊥
not_both a t l m = absurd (omega (arith, ints))

-- a moment that is too old
pub too_old : (t m : ℤ) → m ≤ℤ t → 300000 ≤ unsigned_abs (t -ℤ m) → (t -ℤ pos 300000) <ℤ m → ⊥
too_old t m le far young = absurd (grind (arith, ints))

pub young_enough : (t m : ℤ) → m ≤ℤ t → unsigned_abs (t -ℤ m) < 300000 → (t -ℤ pos 300000) <ℤ m
young_enough t m le near = grind (arith, ints)

-- what is kept of a series stands before an end
module _ (kept : List Placed) (t : ℤ) (series : List Pair) where
  pub none_before : (o : ℕ) → o ≡ 0 → IsBackTo kept series t o → IsRowOf kept t series None
  none_before o none back = λ row is r.
      not_both r.placed.entry.moment t (back.later r.at r.placed (omega (arith, none)) r.there (r.series_is ∙ is)) r.by

  pub none_there : (i : ℕ) → slice_get kept i ≡ None → IsBackTo kept series t (suc i) → IsRowOf kept t series None
  none_there i none back = let h = back.is_end.here i refl in absurd (none-some h.0 (sym none ∙ h.1))

  module _ (i : ℕ) (p : Placed) (at : slice_get kept i ≡ Some p) (back : IsBackTo kept series t (suc i)) (by : p.entry.moment ≤ℤ t) where
    its_series : p.entry.series ≡ series
    its_series = series_at kept series i p back.is_end at

    pub row_found : (o : Option ViewRow) → IsSeenAs t p o → IsRowOf kept t series o
    row_found None unseen = λ row is r. other row is r (three r.at i)
      where
        other : (row : ViewRow) → row.series ≡ series → (r : IsKeptRow kept t row) → (r.at < i) ⊎ ((r.at ≡ i) ⊎ (i < r.at)) → ⊥
        other row is r (inl before) = not_both p.entry.moment t (r.last i p before at (its_series ∙ sym is)) by
        other row is r (inr (inl here)) =
            let same : r.placed ≡ p = same_Some r.placed p (sym r.there ∙ ap (slice_get kept) here ∙ at) in
            unseen row (subst (λ (q : Placed). IsSeen t q.entry row) same r.seen)
        other row is r (inr (inr after)) = not_both r.placed.entry.moment t (back.later r.at r.placed (omega arith) r.there (r.series_is ∙ is)) r.by
    row_found (Some row) seen = (
      seen.1 ∙ its_series,
      record {
        at = i;
        placed = p;
        there = at;
        place_is = sym seen.0;
        series_is = sym seen.1;
        by = by;
        last = λ j q lt there is. back.later j q (omega arith) there (is ∙ seen.1 ∙ its_series);
        seen = seen.2;
      },
    )

  -- where it is selected
  module _ (selector : SelectorParts) where
    pub selected_found : (o : Option ViewRow) → selects selector series ≡ true → IsRowOf kept t series o → IsSelectedRow kept selector t series o
    selected_found None sure h = λ row is s r. h row is r
    selected_found (Some row) sure h = (h.0, sure, h.1)

    pub not_selected : selects selector series ≡ false → IsSelectedRow kept selector t series None
    not_selected never = λ row is s r. true≢false (sym s ∙ never)

-- a series has one row
abbrev made : ℕ → List Pair → ℤ → List ℕ → ViewRow
made place series moment value = record { place = place; series = series; moment = moment; value = value }

module _ (kept : List Placed) (t : ℤ) where
  same_entry : (e : Entry) (a b : ViewRow) → a.place ≡ b.place → a.series ≡ b.series → IsSeen t e a → IsSeen t e b → a ≡ b
  same_entry e a b place series s r =
      let moment : a.moment ≡ b.moment = s.moment_is ∙ sym r.moment_is in
      let value : a.value ≡ b.value = same_Some a.value b.value (sym s.value_is ∙ r.value_is) in
      λ i. made (place i) (series i) (moment i) (value i)

  row_same : (a b : ViewRow) → a.series ≡ b.series → IsKeptRow kept t a → IsKeptRow kept t b → a ≡ b
  row_same a b series s r = by (three s.at r.at)
    where
      by : (s.at < r.at) ⊎ ((s.at ≡ r.at) ⊎ (r.at < s.at)) → a ≡ b
      by (inl before) = absurd (not_both r.placed.entry.moment t (s.last r.at r.placed before r.there (r.series_is ∙ sym series)) r.by)
      by (inr (inl here)) =
          let p : s.placed ≡ r.placed = same_Some s.placed r.placed (sym s.there ∙ ap (slice_get kept) here ∙ r.there) in
          same_entry r.placed.entry a b (sym s.place_is ∙ ap (λ (q : Placed). q.place) p ∙ r.place_is) series (subst (λ (q : Placed). IsSeen t q.entry a) p s.seen) r.seen
      by (inr (inr after)) = absurd (not_both s.placed.entry.moment t (r.last s.at s.placed after s.there (s.series_is ∙ series)) s.by)

-- an item of a list with one more
item_of : {X : Type 0} (xs : List X) (x y : X) (i : ℕ) → slice_get (xs ++ x ∷ []) i ≡ Some y → (slice_get xs i ≡ Some y) ⊎ ((i ≡ length xs) × (x ≡ y))
item_of {X} xs x y i h = by (three i (length xs))
  where
    by : (i < length xs) ⊎ ((i ≡ length xs) ⊎ (length xs < i)) → (slice_get xs i ≡ Some y) ⊎ ((i ≡ length xs) × (x ≡ y))
    by (inl lt) = inl (sym (slice_get_left xs x i lt) ∙ h)
    by (inr (inl at)) = inr (at, same_Some x y (sym (slice_get_end xs x) ∙ ap (slice_get (xs ++ x ∷ [])) (sym at) ∙ h))
    by (inr (inr gt)) = absurd (none-some y (sym (slice_get_past (xs ++ x ∷ []) i (let l = length_more xs x in omega (arith, l, gt))) ∙ h))

pub gathered_none : (kept : List Placed) (selector : SelectorParts) (t : ℤ) (es : List (List Pair)) (rows : List ViewRow) → rows ≡ [] → IsGatheredTo kept selector t (es, 0) rows
gathered_none kept selector t es rows none = record {
  rising = λ i j r s lt a b. absurd (none-some r (ap (λ (l : List ViewRow). slice_get l i) (sym none) ∙ a));
  each = λ row is. absurd (none-some row (ap (λ (l : List ViewRow). slice_get l is.0) (sym none) ∙ is.1));
  all = λ i row lt. absurd (omega arith);
}

here_or_before : (i n : ℕ) → i < suc n → (i ≡ n) ⊎ (i < n)
here_or_before i n lt = by (three i n)
  where
    by : (i < n) ⊎ ((i ≡ n) ⊎ (n < i)) → (i ≡ n) ⊎ (i < n)
    by (inl l) = inr l
    by (inr (inl e)) = inl e
    by (inr (inr g)) = absurd (omega arith)

-- one series more
module _ (kept : List Placed) (rise : Rise kept) (selector : SelectorParts) (t : ℤ) (es : List (List Pair)) (n : ℕ) (rows : List ViewRow) (was : IsGatheredTo kept selector t (es, n) rows)
    (series : List Pair) (at : slice_get es n ≡ Some series) (below : (i : ℕ) (s : List Pair) → i < n → slice_get es i ≡ Some s → set_cmp s series ≡ Less) where
  its_row : (i : ℕ) (row : ViewRow) → i ≡ n → slice_get es i ≡ Some row.series → row.series ≡ series
  its_row i row here there = sym (same_Some series row.series (sym at ∙ ap (slice_get es) (sym here) ∙ there))

  pub gathered_more : (o : Option ViewRow) → IsSelectedRow kept selector t series o → IsGatheredTo kept selector t (es, suc n) (rows ++ listed o)
  gathered_more None none = subst (IsGatheredTo kept selector t (es, suc n)) (sym (append-nil rows)) (record {
    rising = was.rising;
    each = λ row is. (let h = was.each row is in (h.0, h.1, (h.2.0, (let lt = h.2.1 in omega arith), h.2.2)));
    all = λ i row lt there s r. by i row there s r (here_or_before i n lt);
  })
    where
      by : (i : ℕ) (row : ViewRow) → slice_get es i ≡ Some row.series → selects selector row.series ≡ true → IsKeptRow kept t row → (i ≡ n) ⊎ (i < n) → IsAmong rows row
      by i row there s r (inl here) =
          let is = its_row i row here there in
          absurd (none row is (ap (selects selector) (sym is) ∙ s) r)
      by i row there s r (inr before) = was.all i row before there s r
  gathered_more (Some new) found = record {
    rising = λ i j r s lt a b. rises i j r s lt a b (item_of rows new r i a) (item_of rows new s j b);
    each = λ row is. one row (item_of rows new row is.0 is.1);
    all = λ i row lt there s r. by i row there s r (here_or_before i n lt);
  }
    where
      lower : (r : ViewRow) (i : ℕ) → slice_get rows i ≡ Some r → set_cmp r.series new.series ≡ Less
      lower r i a =
          let h = was.each r (i, a) in
          subst (λ s. set_cmp r.series s ≡ Less) (sym found.0) (below h.2.0 r.series h.2.1 h.2.2)

      rises : (i j : ℕ) (r s : ViewRow) → i < j → slice_get (rows ++ new ∷ []) i ≡ Some r → slice_get (rows ++ new ∷ []) j ≡ Some s →
          (slice_get rows i ≡ Some r) ⊎ ((i ≡ length rows) × (new ≡ r)) → (slice_get rows j ≡ Some s) ⊎ ((j ≡ length rows) × (new ≡ s)) → set_cmp r.series s.series ≡ Less
      rises i j r s lt a b (inl x) (inl y) = was.rising i j r s lt x y
      rises i j r s lt a b (inl x) (inr y) = subst (λ (q : ViewRow). set_cmp r.series q.series ≡ Less) y.1 (lower r i x)
      rises i j r s lt a b (inr x) (inl y) = let w = slice_get_within rows j s y in let e = x.0 in absurd (omega (arith, w, e, lt))
      rises i j r s lt a b (inr x) (inr y) = let d = x.0 in let e = y.0 in absurd (omega (arith, d, e, lt))

      one : (row : ViewRow) {i : ℕ} → (slice_get rows i ≡ Some row) ⊎ ((i ≡ length rows) × (new ≡ row)) →
          (selects selector row.series ≡ true) × IsKeptRow kept t row × ((j : ℕ) × (j < suc n) × (slice_get es j ≡ Some row.series))
      one row {i} (inl x) = let h = was.each row (i, x) in (h.0, h.1, (h.2.0, (let lt = h.2.1 in omega arith), h.2.2))
      one row {i} (inr x) =
          subst (λ (q : ViewRow). (selects selector q.series ≡ true) × IsKeptRow kept t q × ((j : ℕ) × (j < suc n) × (slice_get es j ≡ Some q.series))) x.1
          (ap (selects selector) found.0 ∙ found.1, found.2, (n, omega arith, at ∙ ap Some (sym found.0)))

      by : (i : ℕ) (row : ViewRow) → slice_get es i ≡ Some row.series → selects selector row.series ≡ true → IsKeptRow kept t row → (i ≡ n) ⊎ (i < n) → IsAmong (rows ++ new ∷ []) row
      by i row there s r (inl here) =
          let same : new ≡ row = row_same kept t new row (found.0 ∙ sym (its_row i row here there)) found.2 r in
          (length rows, slice_get_end rows new ∙ ap Some same)
      by i row there s r (inr before) =
          let h = was.all i row before there s r in
          (h.0, slice_get_left rows new h.0 (slice_get_within rows h.0 row h.1) ∙ h.1)

-- where a list has an item
contains_get : {X : Type 0} (xs : List X) (k : ℕ) (x : X) → k < length xs → slice_index_or xs k x ≡ x → slice_get xs k ≡ Some x
contains_get [] k x lt e = absurd (omega arith)
contains_get (y ∷ xs) zero x lt e = ap Some e
contains_get (y ∷ xs) (suc k) x lt e = contains_get xs k x (omega arith) e

exact : (x y : List Pair) → set_cmp x y ≡ Equal → x ≡ y
exact x y e = (sets_decide x y).0 (ap is_eq e)

-- a series with a row has a place
module _ (kept : List Placed) (t : ℤ) (ends : BTreeMap (List Pair) ℕ) (are : AreEnds kept ends) (row : ViewRow) (r : IsKeptRow kept t row) where
  has_place : (end : ℕ) × (get set_cmp ends row.series ≡ Some end)
  has_place = by (get set_cmp ends row.series) refl
    where
      by : (o : Option ℕ) → get set_cmp ends row.series ≡ o → (end : ℕ) × (get set_cmp ends row.series ≡ Some end)
      by None e =
          let last : IsLastOf kept row.series (length kept) 0 = subst (IsLastOf kept row.series (length kept)) (ap (λ (q : Option ℕ). unwrap_or q 0) e) (are row.series) in
          absurd (last.none r.at r.placed (omega arith) (slice_get_within kept r.at r.placed r.there) r.there r.series_is)
      by (Some end) e = (end, e)

-- all series
module _ (kept : List Placed) (selector : SelectorParts) (t : ℤ) (ends : BTreeMap (List Pair) ℕ) (are : AreEnds kept ends) (rows : List ViewRow)
    (was : IsGatheredOf kept selector t (keys ends) rows) where
  in_all : (row : ViewRow) → selects selector row.series ≡ true → IsKeptRow kept t row → IsAmong rows row
  in_all row s r =
      let p = has_place kept t ends are row r in
      let h : Contains ends.entries (row.series, p.0) = subst (λ o. IfSome o (λ v. Contains ends.entries (row.series, v))) p.1 (IfSome-get sets_total exact ends row.series) in
      let entry : slice_get ends.entries h.0 ≡ Some (row.series, p.0) = contains_get ends.entries h.0 (row.series, p.0) h.1 h.2 in
      let key : slice_get (keys ends) h.0 ≡ Some row.series = slice_get-map (λ (q : List Pair × ℕ). q.0) ends.entries h.0 ∙ ap (option_map (λ (q : List Pair × ℕ). q.0)) entry in
      was.all h.0 row (slice_get_within (keys ends) h.0 row.series key) key s r

  pub gathered_all : IsGathered kept selector t rows
  gathered_all = record { rising = was.rising; each = λ row is. (let h = was.each row is in (h.0, h.1)); all = in_all }

-- those of a name
first_of : (a b : Bool) → (a && b) ≡ true → a ≡ true
first_of true b e = refl
first_of false b e = absurd (true≢false (sym e))

pub its_name : (selector : SelectorParts) (name : List ℕ) (set : List Pair) → selector.name ≡ Some name → selects selector set ≡ true → value_in set (codes "__name__") ≡ name
unfolding selects
its_name selector name set is s =
    let test : is_of_name (Some name) set ≡ true = ap (λ n. is_of_name n set) (sym is) ∙ first_of (is_of_name selector.name set) (list_all (holds_in set) selector.matchers) s in
    (bytes_decides (value_in set (codes "__name__")) name).0 test

second_of : (a b : Bool) → (a && b) ≡ true → b ≡ true
second_of true b e = e
second_of false b e = absurd (true≢false (sym e))

pub name_of_matchers : (selector : SelectorParts) (ms : List Matcher) (name : List ℕ) → selector.matchers ≡ ms → IsNameAmong ms name → IsNameOf selector name
unfolding selects
name_of_matchers selector ms name same is set s =
    is set (ap (list_all (holds_in set)) (sym same) ∙ second_of (is_of_name selector.name set) (list_all (holds_in set) selector.matchers) s)

module _ (kept : List Placed) (selector : SelectorParts) (t : ℤ) (ends : BTreeMap (List Pair) ℕ) (are : AreEnds kept ends) (named : BTreeMap (List ℕ) (BTreeSet (List Pair)))
    (noted : AreNamed ends named) (name : List ℕ) (is : IsNameOf selector name) where
  in_name : (row : ViewRow) → selects selector row.series ≡ true → IsKeptRow kept t row → is_named named name row.series ≡ true
  in_name row s r =
      let p = has_place kept t ends are row r in
      let place : IsSome (get set_cmp ends row.series) = subst IsSome (sym p.1) refl in
      subst (λ n. is_named named n row.series ≡ true) (is row.series s) (noted row.series place)

  pub gathered_no_name : (rows : List ViewRow) → rows ≡ [] → get bytes_cmp named name ≡ None → IsGathered kept selector t rows
  gathered_no_name rows none missing = record {
    rising = λ i j r s lt a b. absurd (none-some r (ap (λ (l : List ViewRow). slice_get l i) (sym none) ∙ a));
    each = λ row among. absurd (none-some row (ap (λ (l : List ViewRow). slice_get l among.0) (sym none) ∙ among.1));
    all = λ row s r.
        absurd (true≢false (sym (in_name row s r) ∙ ap (λ (o : Option (BTreeSet (List Pair))). option_map_or (λ (q : BTreeSet (List Pair)). contains set_cmp q row.series) o false) missing));
  }

  pub gathered_name : (sets : BTreeSet (List Pair)) (rows : List ViewRow) → get bytes_cmp named name ≡ Some sets → IsGatheredOf kept selector t sets.keys rows → IsGathered kept selector t rows
  gathered_name sets rows there was = record {
    rising = was.rising;
    each = λ row among. (let h = was.each row among in (h.0, h.1));
    all = λ row s r. (let has : contains set_cmp sets row.series ≡ true =
        sym (ap (λ (o : Option (BTreeSet (List Pair))). option_map_or (λ (q : BTreeSet (List Pair)). contains set_cmp q row.series) o false) there) ∙ in_name row s r in
        let h : Contains sets.keys row.series = (btree_set_contains_iff sets_total exact sets row.series).0 has in
        was.all h.0 row h.1 (contains_get sets.keys h.0 row.series h.1 h.2) s r);
  }

-- keys in order
all_get : {X : Type 0} (P : X → Type 0) (xs : List X) → AllByRecursion P xs → (i : ℕ) (x : X) → slice_get xs i ≡ Some x → P x
all_get P [] all i x at = absurd (none-some x at)
all_get P (y ∷ xs) all zero x at = subst P (same_Some y x at) all.0
all_get P (y ∷ xs) all (suc i) x at = all_get P xs all.1 i x at

pub keys_rise : (ks : List (List Pair)) → IsStrictlySortedBy set_cmp ks → (i j : ℕ) (a b : List Pair) → i < j → slice_get ks i ≡ Some a → slice_get ks j ≡ Some b → set_cmp a b ≡ Less
unfolding IsStrictlySortedBy
keys_rise [] up i j a b lt x y = absurd (none-some a x)
keys_rise (k ∷ ks) up i zero a b lt x y = absurd (omega arith)
keys_rise (k ∷ ks) up zero (suc j) a b lt x y = subst (λ q. set_cmp q b ≡ Less) (same_Some k a x) (all_get (λ q. set_cmp k q ≡ Less) ks up.0 j b y)
keys_rise (k ∷ ks) up (suc i) (suc j) a b lt x y = keys_rise ks up.1 i j a b (omega arith) x y

-- what a call gives, where it gives something
pub zero_of : (n : ℕ) → ¬ (1 ≤ n) → n ≡ 0
zero_of zero h = refl
zero_of (suc n) h = absurd (h (omega arith))

module _ {E : Type 0} (kept : List Placed) (t : ℤ) (series : List Pair) (r : Result (Option ViewRow) E) where
  pub row_ok : (i : ℕ) (p : Placed) → slice_get kept i ≡ Some p → IsBackTo kept series t (suc i) → p.entry.moment ≤ℤ t → IfOk r (λ o. IsSeenAs t p o) →
      IfOk r (λ o. IsRowOf kept t series o)
  row_ok i p at back by = ok r
    where
      ok : (q : Result (Option ViewRow) E) → IfOk q (λ o. IsSeenAs t p o) → IfOk q (λ o. IsRowOf kept t series o)
      ok (Ok o) h = row_found kept t series i p at back by o h
      ok (Err e) h = tt

  pub selected_ok : (selector : SelectorParts) → selects selector series ≡ true → IfOk r (λ o. IsRowOf kept t series o) → IfOk r (λ o. IsSelectedRow kept selector t series o)
  selected_ok selector sure = ok r
    where
      ok : (q : Result (Option ViewRow) E) → IfOk q (λ o. IsRowOf kept t series o) → IfOk q (λ o. IsSelectedRow kept selector t series o)
      ok (Ok o) h = selected_found kept t series selector o sure h
      ok (Err e) h = tt

pub get_there : {X : Type 0} (xs : List X) (k : ℕ) (x : X) → k < length xs → x ≡ get_or xs k x → slice_get xs k ≡ Some x
get_there xs k x lt e = contains_get xs k x lt (sym e)

pub if_some : {A : Type 0} (P Q : A → Type 0) → ((x : A) → P x → Q x) → (o : Option A) → IfSome o P → IfSome o Q
if_some P Q h (Some x) p = h x p
if_some P Q h None p = tt

pub if_ok : {A E : Type 0} (P Q : A → Type 0) → ((x : A) → P x → Q x) → (r : Result A E) → IfOk r P → IfOk r Q
if_ok P Q h (Ok x) p = h x p
if_ok P Q h (Err e) p = tt
