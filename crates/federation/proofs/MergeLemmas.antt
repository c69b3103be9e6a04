-- Two lists of rows made into one.
use Rattle.std.proofs.Common.{◌≡◌, ◌⊎◌, ◌↔◌, inl, inr, ℕ, suc, ◌<◌, List, [], ◌∷◌, ◌++◌, length, Some, None, Option, refl, sym, ap, ◌∙◌, subst, true≢false, arith}
use Rattle.std.specs.Prelude.{IsSome}
use Rattle.std.specs.Option.{option_to_list}
use Rattle.std.specs.Ordering.{is_eq, ordering_reverse}
use Rattle.std.specs.declared.cmp.Ordering.TheVariants.{Less, Equal, Greater}
use Rattle.label_set.specs.Same.{sets_decide}
use Rattle.label_set.specs.Sets.{set_cmp, sets_total}
use Rattle.label_set.specs.declared.texts.Pair.{Pair}
use Rattle.instant_view.specs.Views.{AreRising, IsAmong}
use Rattle.instant_view.specs.declared.rows.ViewRow.{ViewRow}
use Rattle.federation.specs.Merges.{HasSeries, IsLast, IsLeftBelow, IsMerged, IsMerging, IsOf, IsTaken, last_row, row_order}
use Rattle.federation.proofs.RowLemmas.{all_below, below_last, first_or_later, get_end, get_last, no_last, none_among, rising_front, rising_more, row_of, row_stays}

same_series : (x y : List Pair) → set_cmp x y ≡ Equal → x ≡ y
same_series x y e = (sets_decide x y).0 (ap is_eq e)

turned : (x y : List Pair) → set_cmp x y ≡ Greater → set_cmp y x ≡ Less
turned x y e = sets_total.antisymm y x ∙ ap ordering_reverse e

-- nothing is taken from a list without a row alone
pub gone : (rows : List ViewRow) (n : ℕ) (o : Option ViewRow) → n ≡ length rows → IsSome o ↔ (0 < n) → o ≡ None → rows ≡ []
gone [] n o e v none = refl
gone (row ∷ rows) n o e v none = absurd (true≢false (sym (subst (λ (u : Option ViewRow). IsSome u) none (v.1 (omega (arith, e))))))

-- a list of which no row is taken, and one of which the last is
all_left : (row : ViewRow) (rows : List ViewRow) → AreRising rows → ((other : ViewRow) → IsAmong rows other → set_cmp other.series row.series ≡ Less) →
    IsLeftBelow row rows rows
all_left row rows rising below = record { rising = rising; still = λ other is. is; below = below; taken = λ other is. inl is }

but_last : (row last : ViewRow) (rows : List ViewRow) → AreRising (rows ++ last ∷ []) → last.series ≡ row.series → IsLeftBelow row (rows ++ last ∷ []) rows
but_last row last rows rising same = record {
  rising = rising_front rows last rising;
  still = λ other is. row_stays rows last other is;
  below = λ other is. subst (λ s. set_cmp other.series s ≡ Less) same (below_last rows last other rising is);
  taken = λ other is. by other (row_of rows last other is);
}
  where
    by : (other : ViewRow) → IsAmong rows other ⊎ (last ≡ other) → IsAmong rows other ⊎ (other.series ≡ row.series)
    by other (inl is) = inl is
    by other (inr e) = inr (ap (λ (r : ViewRow). r.series) (sym e) ∙ same)

-- the ends of two lists by their order
none_right : (o : Option ViewRow) (row : ViewRow) → row_order o (Some row) ≡ Less →
    (o ≡ None) ⊎ ((last : ViewRow) × (o ≡ Some last) × (set_cmp last.series row.series ≡ Less))
none_right None row e = inl refl
none_right (Some last) row e = inr (last, refl, e)

none_left : (o : Option ViewRow) → row_order o None ≡ Less → o ≡ None
none_left None e = refl
none_left (Some row) e = absurd cc

below_right : (o : Option ViewRow) (row : ViewRow) → row_order (Some row) o ≡ Greater →
    (o ≡ None) ⊎ ((last : ViewRow) × (o ≡ Some last) × (set_cmp last.series row.series ≡ Less))
below_right None row e = inl refl
below_right (Some last) row e = inr (last, refl, turned row.series last.series e)

below_end : (rows : List ViewRow) (row : ViewRow) → AreRising rows →
    (last_row rows ≡ None) ⊎ ((last : ViewRow) × (last_row rows ≡ Some last) × (set_cmp last.series row.series ≡ Less)) →
    (other : ViewRow) → IsAmong rows other → set_cmp other.series row.series ≡ Less
below_end rows row rising (inl none) other is =
    none_among other (set_cmp other.series row.series ≡ Less) (subst (λ (l : List ViewRow). IsAmong l other) (no_last rows none) is)
below_end rows row rising (inr h) other is = all_below rows h.0 other row.series rising h.1 h.2 is

-- the last row of the second list is taken
pub right_taken : (left right fewer : List ViewRow) (o : Option ViewRow) → Less ≡ row_order (last_row left) (last_row right) →
    right ≡ fewer ++ option_to_list o →
    (o ≡ None → right ≡ []) → IsTaken left right left fewer o
right_taken left right fewer None order is gone =
    let empty = gone refl in
    let order_now : row_order (last_row left) None ≡ Less = ap (λ (l : List ViewRow). row_order (last_row left) (last_row l)) (sym empty) ∙ sym order in
    (no_last left (none_left (last_row left) order_now), empty)
right_taken left right fewer (Some row) order is gone = λ left_rising right_rising.
    (let rising : AreRising (fewer ++ row ∷ []) = subst AreRising is right_rising in
    let end : last_row right ≡ Some row = ap last_row is ∙ get_last fewer row in
    let order_now : row_order (last_row left) (Some row) ≡ Less = ap (row_order (last_row left)) (sym end) ∙ sym order in
    let taken : IsLeftBelow row right fewer = subst (λ (l : List ViewRow). IsLeftBelow row l fewer) (sym is) (but_last row row fewer rising refl) in
    record {
      from = inr (subst (λ (l : List ViewRow). IsAmong l row) (sym is) (length fewer, get_end fewer row));
      left_below = all_left row left left_rising (below_end left row left_rising (none_right (last_row left) row order_now));
      right_below = taken;
    })

-- the last row of the first list is taken
pub left_taken : (left right fewer : List ViewRow) (o : Option ViewRow) → Greater ≡ row_order (last_row left) (last_row right) →
    left ≡ fewer ++ option_to_list o →
    (o ≡ None → left ≡ []) → IsTaken left right fewer right o
left_taken left right fewer None order is gone =
    let none : Greater ≡ Less = order ∙ ap (λ (l : List ViewRow). row_order (last_row l) (last_row right)) (gone refl) in
    absurd cc
left_taken left right fewer (Some row) order is gone = λ left_rising right_rising.
    (let rising : AreRising (fewer ++ row ∷ []) = subst AreRising is left_rising in
    let end : last_row left ≡ Some row = ap last_row is ∙ get_last fewer row in
    let order_now : row_order (Some row) (last_row right) ≡ Greater = ap (λ (o : Option ViewRow). row_order o (last_row right)) (sym end) ∙ sym order in
    let taken : IsLeftBelow row left fewer = subst (λ (l : List ViewRow). IsLeftBelow row l fewer) (sym is) (but_last row row fewer rising refl) in
    record {
      from = inl (subst (λ (l : List ViewRow). IsAmong l row) (sym is) (length fewer, get_end fewer row));
      left_below = taken;
      right_below = all_left row right right_rising (below_end right row right_rising (below_right (last_row right) row order_now));
    })

-- the last rows of both are
pub both_taken : (left right fewer_left fewer_right : List ViewRow) (o u : Option ViewRow) → Equal ≡ row_order (last_row left) (last_row right) →
    left ≡ fewer_left ++ option_to_list o → right ≡ fewer_right ++ option_to_list u → (o ≡ None → left ≡ []) →
    (u ≡ None → right ≡ []) → IsTaken left right fewer_left fewer_right u
both_taken left right fewer_left fewer_right None u order l r gone empty =
    let none : Equal ≡ Less = order ∙ ap (λ (rows : List ViewRow). row_order (last_row rows) (last_row right)) (gone refl) in
    absurd cc
both_taken left right fewer_left fewer_right (Some row) None order l r gone empty =
    let end : last_row left ≡ Some row = ap last_row l ∙ get_last fewer_left row in
    let other : row_order (last_row left) (last_row right) ≡ Greater =
    ap (λ (rows : List ViewRow). row_order (last_row left) (last_row rows)) (empty refl) ∙ ap (λ (o : Option ViewRow). row_order o None) end in
    let none : Equal ≡ Greater = order ∙ other in
    absurd cc
both_taken left right fewer_left fewer_right (Some last) (Some row) order l r gone empty = λ left_rising right_rising.
    (let left_end : last_row left ≡ Some last = ap last_row l ∙ get_last fewer_left last in
    let right_end : last_row right ≡ Some row = ap last_row r ∙ get_last fewer_right row in
    let tied : set_cmp last.series row.series ≡ Equal =
    ap (λ (o : Option ViewRow). row_order o (Some row)) (sym left_end) ∙ ap (row_order (last_row left)) (sym right_end) ∙ sym order in
    let rising_left : AreRising (fewer_left ++ last ∷ []) = subst AreRising l left_rising in
    let rising_right : AreRising (fewer_right ++ row ∷ []) = subst AreRising r right_rising in
    record {
      from = inr (subst (λ (rows : List ViewRow). IsAmong rows row) (sym r) (length fewer_right, get_end fewer_right row));
      left_below = subst (λ (rows : List ViewRow). IsLeftBelow row rows fewer_left) (sym l)
          (but_last row last fewer_left rising_left (same_series last.series row.series tied));
      right_below = subst (λ (rows : List ViewRow). IsLeftBelow row rows fewer_right) (sym r) (but_last row row fewer_right rising_right refl);
    })

-- merging from the start, a step further, and to the end
pub merging_start : (left right rows : List ViewRow) → rows ≡ [] → AreRising left → AreRising right → IsMerging left right left right rows
merging_start left right rows none left_rising right_rising = record {
  left_rising = left_rising;
  right_rising = right_rising;
  rising = λ i j r s lt a b. nothing r (AreRising rows) (i, a) i j r s lt a b;
  below = λ other row one is. nothing row (set_cmp other.series row.series ≡ Less) is;
  still = λ row one. one;
  each = λ row is. nothing row (IsOf left right row) is;
  all = λ row one. inl one;
}
  where
    nothing : (row : ViewRow) (P : Type 0) → IsAmong rows row → P
    nothing row P is = none_among row P (subst (λ (l : List ViewRow). IsAmong l row) none is)

module _ (left right now_left now_right rows : List ViewRow) (was : IsMerging left right now_left now_right rows) where
  module _ (fewer_left fewer_right : List ViewRow) (row : ViewRow) (took : IsLast now_left now_right fewer_left fewer_right row) where
    of_before : (other : ViewRow) → IsOf fewer_left fewer_right other → IsOf now_left now_right other
    of_before other (inl is) = inl (took.left_below.still other is)
    of_before other (inr is) = inr (took.right_below.still other is)

    of_below : (other : ViewRow) → IsOf fewer_left fewer_right other → set_cmp other.series row.series ≡ Less
    of_below other (inl is) = took.left_below.below other is
    of_below other (inr is) = took.right_below.below other is

    left_of : (other : ViewRow) → IsAmong fewer_left other ⊎ (other.series ≡ row.series) →
        IsOf fewer_left fewer_right other ⊎ HasSeries (row ∷ rows) other.series
    left_of other (inl is) = inl (inl is)
    left_of other (inr same) = inr (row, (0, refl), sym same)

    right_of : (other : ViewRow) → IsAmong fewer_right other ⊎ (other.series ≡ row.series) →
        IsOf fewer_left fewer_right other ⊎ HasSeries (row ∷ rows) other.series
    right_of other (inl is) = inl (inr is)
    right_of other (inr same) = inr (row, (0, refl), sym same)

    all_of : (other : ViewRow) → IsOf now_left now_right other ⊎ HasSeries rows other.series →
        IsOf fewer_left fewer_right other ⊎ HasSeries (row ∷ rows) other.series
    all_of other (inl (inl is)) = left_of other (took.left_below.taken other is)
    all_of other (inl (inr is)) = right_of other (took.right_below.taken other is)
    all_of other (inr has) = inr (has.0, (suc has.1.0, has.1.1), has.2)

    below_of : (other upper : ViewRow) → IsOf fewer_left fewer_right other → (row ≡ upper) ⊎ IsAmong rows upper → set_cmp other.series upper.series ≡ Less
    below_of other upper one (inl here) = subst (λ (r : ViewRow). set_cmp other.series r.series ≡ Less) here (of_below other one)
    below_of other upper one (inr later) = was.below other upper (of_before other one) later

    each_of : (other : ViewRow) → (row ≡ other) ⊎ IsAmong rows other → IsOf left right other
    each_of other (inl here) = subst (λ (r : ViewRow). IsOf left right r) here (was.still row took.from)
    each_of other (inr later) = was.each other later

    pub merging_more : IsMerging left right fewer_left fewer_right (row ∷ rows)
    merging_more = record {
      left_rising = took.left_below.rising;
      right_rising = took.right_below.rising;
      rising = rising_more row rows (λ other is. was.below row other took.from is) was.rising;
      below = λ other upper one is. below_of other upper one (first_or_later row upper rows is);
      still = λ other one. was.still other (of_before other one);
      each = λ other is. each_of other (first_or_later row other rows is);
      all = λ other one. all_of other (was.all other one);
    }

  pub merging_end : now_left ≡ [] → now_right ≡ [] → IsMerged left right rows
  merging_end no_left no_right = record {
    rising = was.rising;
    each = was.each;
    all = λ row one. last row (was.all row one);
  }
    where
      last : (row : ViewRow) → IsOf now_left now_right row ⊎ HasSeries rows row.series → HasSeries rows row.series
      last row (inl (inl is)) = none_among row (HasSeries rows row.series) (subst (λ (l : List ViewRow). IsAmong l row) no_left is)
      last row (inl (inr is)) = none_among row (HasSeries rows row.series) (subst (λ (l : List ViewRow). IsAmong l row) no_right is)
      last row (inr has) = has
