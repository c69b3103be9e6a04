-- Rows of lists that rise by label set.
use Rattle.std.proofs.Common.{◌≡◌, ◌⊎◌, inl, inr, ℕ, zero, suc, ◌-◌, ◌<◌, List, [], ◌∷◌, ◌++◌, length, slice_get, Some, None, refl, sym, ap, ◌∙◌, subst, arith}
use Rattle.std.specs.declared.cmp.Ordering.TheVariants.{Less}
use Rattle.std.proofs.lemmas.Option.{same_Some, none-some, slice_get_within}
use Rattle.label_set.specs.Sets.{set_cmp, sets_total}
use Rattle.label_set.specs.declared.texts.Pair.{Pair}
use Rattle.instant_view.specs.Views.{AreRising, IsAmong}
use Rattle.instant_view.specs.declared.rows.ViewRow.{ViewRow}
use Rattle.instant_view.proofs.LinkLemmas.{some_of, three}
use Rattle.instant_view.proofs.TakeLemmas.{get_front}

pub get_end : {X : Type 0} (xs : List X) (y : X) → slice_get (xs ++ y ∷ []) (length xs) ≡ Some y
get_end [] y = refl
get_end (x ∷ xs) y = get_end xs y

pub length_more : {X : Type 0} (xs : List X) (x : X) → length (xs ++ x ∷ []) ≡ suc (length xs)
length_more [] x = refl
length_more (y ∷ xs) x = ap suc (length_more xs x)

pub get_last : {X : Type 0} (xs : List X) (y : X) → slice_get (xs ++ y ∷ []) (length (xs ++ y ∷ []) - 1) ≡ Some y
get_last xs y =
    let n = length_more xs y in
    let at : length (xs ++ y ∷ []) - 1 ≡ length xs = omega (arith, n) in
    ap (slice_get (xs ++ y ∷ [])) at ∙ get_end xs y

-- a row of a list with one more
pub row_of : (rows : List ViewRow) (row other : ViewRow) → IsAmong (rows ++ row ∷ []) other → IsAmong rows other ⊎ (row ≡ other)
row_of rows row other is = by (three is.0 (length rows))
  where
    by : (is.0 < length rows) ⊎ ((is.0 ≡ length rows) ⊎ (length rows < is.0)) → IsAmong rows other ⊎ (row ≡ other)
    by (inl before) = inl (is.0, sym (get_front rows (row ∷ []) is.0 before) ∙ is.1)
    by (inr (inl here)) = inr (same_Some row other (sym (get_end rows row) ∙ ap (slice_get (rows ++ row ∷ [])) (sym here) ∙ is.1))
    by (inr (inr after)) =
        let n = length_more rows row in
        let w = slice_get_within (rows ++ row ∷ []) is.0 other is.1 in
        absurd (omega (arith, n, w, after))

pub row_stays : (rows : List ViewRow) (row other : ViewRow) → IsAmong rows other → IsAmong (rows ++ row ∷ []) other
row_stays rows row other is = (is.0, get_front rows (row ∷ []) is.0 (slice_get_within rows is.0 other is.1) ∙ is.1)

pub none_among : (row : ViewRow) (P : Type 0) → IsAmong [] row → P
none_among row P is = absurd (none-some row is.1)

-- the front of a rising list, and its rows below the last
pub rising_front : (rows : List ViewRow) (row : ViewRow) → AreRising (rows ++ row ∷ []) → AreRising rows
rising_front rows row rising = λ i j r s lt a b.
    rising i j r s lt (get_front rows (row ∷ []) i (slice_get_within rows i r a) ∙ a) (get_front rows (row ∷ []) j (slice_get_within rows j s b) ∙ b)

pub below_last : (rows : List ViewRow) (row other : ViewRow) → AreRising (rows ++ row ∷ []) → IsAmong rows other → set_cmp other.series row.series ≡ Less
below_last rows row other rising is =
    let w = slice_get_within rows is.0 other is.1 in
    rising is.0 (length rows) other row w (get_front rows (row ∷ []) is.0 w ∙ is.1) (get_end rows row)

-- all rows of a rising list are below what its last row is below
pub all_below : (rows : List ViewRow) (last other : ViewRow) (set : List Pair) → AreRising rows → slice_get rows (length rows - 1) ≡ Some last →
    set_cmp last.series set ≡ Less →
    IsAmong rows other → set_cmp other.series set ≡ Less
all_below rows last other set rising at less is = by (three is.0 (length rows - 1))
  where
    by : (is.0 < length rows - 1) ⊎ ((is.0 ≡ length rows - 1) ⊎ (length rows - 1 < is.0)) → set_cmp other.series set ≡ Less
    by (inl before) = sets_total.trans other.series last.series set (rising is.0 (length rows - 1) other last before is.1 at) less
    by (inr (inl here)) =
        let same : last ≡ other = same_Some last other (sym at ∙ ap (slice_get rows) (sym here) ∙ is.1) in
        subst (λ (r : ViewRow). set_cmp r.series set ≡ Less) same less
    by (inr (inr after)) = let w = slice_get_within rows is.0 other is.1 in absurd (omega (arith, w, after))

-- a list with no last row has no row
pub no_last : (rows : List ViewRow) → slice_get rows (length rows - 1) ≡ None → rows ≡ []
no_last [] e = refl
no_last (row ∷ rows) e =
    let within : length (row ∷ rows) - 1 < length (row ∷ rows) = omega arith in
    let h = some_of (row ∷ rows) (length (row ∷ rows) - 1) within in
    absurd (none-some h.0 (sym e ∙ h.1))

-- a row in front of rows that are above it
pub rising_more : (row : ViewRow) (rows : List ViewRow) → ((other : ViewRow) → IsAmong rows other → set_cmp row.series other.series ≡ Less) →
    AreRising rows → AreRising (row ∷ rows)
rising_more row rows above rising i zero r s lt a b = absurd (omega arith)
rising_more row rows above rising zero (suc j) r s lt a b = subst (λ (q : ViewRow). set_cmp q.series s.series ≡ Less) (same_Some row r a) (above s (j, b))
rising_more row rows above rising (suc i) (suc j) r s lt a b = rising i j r s (omega arith) a b

pub first_or_later : (row other : ViewRow) (rows : List ViewRow) → IsAmong (row ∷ rows) other → (row ≡ other) ⊎ IsAmong rows other
first_or_later row other rows is = by is.0 is.1
  where
    by : (i : ℕ) → slice_get (row ∷ rows) i ≡ Some other → (row ≡ other) ⊎ IsAmong rows other
    by zero at = inl (same_Some row other at)
    by (suc i) at = inr (i, at)
