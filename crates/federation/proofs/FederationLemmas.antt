-- What several selectors see, and one more.
use Rattle.std.proofs.Common.{◌≡◌, ◌⊎◌, inl, inr, ℕ, ℤ, ◌<◌, Bool, true, false, ◌||◌, List, [], ◌∷◌, ◌++◌, slice_get, take, refl, sym, ap, ◌∙◌, subst, true≢false}
use Rattle.std.proofs.lemmas.List.Folds.{list_any-append}
use Rattle.std.proofs.lemmas.Option.{same_Some}
use Rattle.label_set.specs.declared.texts.Pair.{Pair}
use Rattle.report_samples.specs.declared.entries.Entry.{Entry}
use Rattle.instant_view.specs.Selectors.{selects}
use Rattle.instant_view.specs.Views.{AreRising, IsAmong, IsInstantView, IsRow, IsViewOf, ViewOf}
use Rattle.instant_view.specs.declared.matchers.SelectorParts.{SelectorParts}
use Rattle.instant_view.specs.declared.rows.ViewRow.{ViewRow}
use Rattle.instant_view.proofs.LinkLemmas.{three}
use Rattle.instant_view.proofs.RowLemmas.{not_both}
use Rattle.federation.specs.Federations.{IsFederated, IsFederationOf, selected_by_some}
use Rattle.federation.specs.Merges.{HasSeries, IsMerged, IsOf}
use Rattle.federation.proofs.RowLemmas.{none_among}

-- a series has one row
abbrev made : ℕ → List Pair → ℤ → List ℕ → ViewRow
made place series moment value = record { place = place; series = series; moment = moment; value = value }

pub row_once : (entries : List Entry) (t : ℤ) (a b : ViewRow) → a.series ≡ b.series → IsRow entries t a → IsRow entries t b → a ≡ b
row_once entries t a b same x y = by (three a.place b.place)
  where
    by : (a.place < b.place) ⊎ ((a.place ≡ b.place) ⊎ (b.place < a.place)) → a ≡ b
    by (inl before) = absurd (not_both y.0.moment t (x.1.last b.place y.0 before y.1.entry y.1.kept (y.1.series_is ∙ sym same)) y.1.by)
    by (inr (inl here)) =
        let entry : x.0 ≡ y.0 = same_Some x.0 y.0 (sym x.1.entry ∙ ap (slice_get entries) here ∙ y.1.entry) in
        let moment : a.moment ≡ b.moment = x.2.moment_is ∙ ap (λ (e : Entry). e.moment) entry ∙ sym y.2.moment_is in
        let value : a.value ≡ b.value = same_Some a.value b.value (sym x.2.value_is ∙ ap (λ (e : Entry). e.value) entry ∙ y.2.value_is) in
        λ i. made (here i) (same i) (moment i) (value i)
    by (inr (inr after)) = absurd (not_both x.0.moment t (y.1.last a.place x.0 after x.1.entry x.1.kept (x.1.series_is ∙ same)) x.1.by)

-- no selector selects
pub federated_none : (entries : List Entry) (t : ℤ) (rows : List ViewRow) → rows ≡ [] → IsFederated entries [] t rows
unfolding selected_by_some
federated_none entries t rows none = record {
  rising = λ i j r s lt a b. absurd (none_among r ⊥ (subst (λ (l : List ViewRow). IsAmong l r) none (i, a)));
  each = λ row is. none_among row ((selected_by_some [] row.series ≡ true) × IsRow entries t row) (subst (λ (l : List ViewRow). IsAmong l row) none is);
  all = λ row s r. absurd (true≢false (sym s));
}

either : (a b : Bool) → (a || b) ≡ true → (a ≡ true) ⊎ (b ≡ true)
either true b e = inl refl
either false b e = inr e

first_so : (a b : Bool) → a ≡ true → (a || b) ≡ true
first_so true b e = refl
first_so false b e = absurd (true≢false (sym e))

second_so : (a b : Bool) → b ≡ true → (a || b) ≡ true
second_so true b e = refl
second_so false b e = e

or_false : (b : Bool) → (b || false) ≡ b
or_false true = refl
or_false false = refl

-- one selector more
module _ (selectors : List SelectorParts) (selector : SelectorParts) where
  selected_more : (set : List Pair) → selected_by_some (selectors ++ selector ∷ []) set ≡ (selected_by_some selectors set || selects selector set)
  unfolding selected_by_some
  selected_more set =
      list_any-append (λ (s : SelectorParts). selects s set) selectors (selector ∷ [])
      ∙ ap (λ b. selected_by_some selectors set || b) (or_false (selects selector set))

  module _ (entries : List Entry) (t : ℤ) (left right rows : List ViewRow) (seen : IsFederated entries selectors t left)
      (more : IsInstantView entries selector t right)
      (merged : IsMerged left right rows) where
    each_of : (row : ViewRow) → IsOf left right row → (selected_by_some (selectors ++ selector ∷ []) row.series ≡ true) × IsRow entries t row
    each_of row (inl is) =
        let h = seen.each row is in
        (selected_more row.series ∙ first_so (selected_by_some selectors row.series) (selects selector row.series) h.0, h.1)
    each_of row (inr is) =
        let h = more.each row is in
        (selected_more row.series ∙ second_so (selected_by_some selectors row.series) (selects selector row.series) h.0, h.1)

    of_either : (row : ViewRow) → IsRow entries t row → (selected_by_some selectors row.series ≡ true) ⊎ (selects selector row.series ≡ true) →
        IsOf left right row
    of_either row r (inl s) = inl (seen.all row s r)
    of_either row r (inr s) = inr (more.all row s r)

    found : (row : ViewRow) → IsRow entries t row → HasSeries rows row.series → IsAmong rows row
    found row r has =
        let same : has.0 ≡ row = row_once entries t has.0 row has.2 (each_of has.0 (merged.each has.0 has.1)).1 r in
        subst (λ (q : ViewRow). IsAmong rows q) same has.1

    pub federated_more : IsFederated entries (selectors ++ selector ∷ []) t rows
    federated_more = record {
      rising = merged.rising;
      each = λ row is. each_of row (merged.each row is);
      all = λ row s r.
          found row r (merged.all row (of_either row r (either (selected_by_some selectors row.series) (selects selector row.series)
          (sym (selected_more row.series) ∙ s))));
    }

-- the same of each book that a view stands for
pub federation_none : (view : ViewOf) (t : ℤ) (rows : List ViewRow) → rows ≡ [] → IsFederationOf view [] t rows
federation_none view t rows none = λ entries stands. federated_none (take view.count entries) t rows none

pub federation_more : (view : ViewOf) (selectors : List SelectorParts) (selector : SelectorParts) (t : ℤ) (left right rows : List ViewRow) →
    IsFederationOf view selectors t left →
    IsViewOf view selector t right → (AreRising left → AreRising right → IsMerged left right rows) → IsFederationOf view (selectors ++ selector ∷ []) t rows
federation_more view selectors selector t left right rows seen more merged = λ entries stands.
    (let l = seen entries stands in
    let r = more entries stands in
    federated_more selectors selector (take view.count entries) t left right rows l r (merged l.rising r.rising))
