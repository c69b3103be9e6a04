-- The kept entries of a book, and what is seen of it by them.
use Rattle.std.proofs.Common.{◌≡◌, ◌⊎◌, inl, inr, ℕ, zero, suc, ℤ, ◌+◌, ◌<◌, ◌≤◌, ◌<ℤ◌, Bool, true, false, List, [], ◌∷◌, ◌++◌, length, take, drop, slice_get, Some, None, Option, refl, sym, ap, ap₂, ◌∙◌, subst, true≢false, arith, if◌then◌else◌, min, length-take, length-append}
use Rattle.std.proofs.lemmas.List.{take-append-drop}
use Rattle.std.proofs.lemmas.Option.{same_Some, none-some, slice_get_within}
use Rattle.report_samples.specs.declared.entries.Entry.{Entry}
use Rattle.appender_book.specs.Index.{is_kept_one}
use Rattle.appender_book.specs.Laws.{KeptRise, VerdictsStand}
use Rattle.appender_book.specs.Verdicts.{verdict_at}
use Rattle.appender_book.specs.declared.verdicts.Verdict.{Verdict}
use Rattle.appender_book.specs.declared.verdicts.Verdict.TheVariants.{Kept, OutOfOrder, Duplicate, Same}
use Rattle.instant_view.specs.declared.matchers.SelectorParts.{SelectorParts}
use Rattle.instant_view.specs.declared.rows.Placed.{Placed}
use Rattle.instant_view.specs.declared.rows.ViewRow.{ViewRow}
use Rattle.instant_view.specs.Threads.{IsGathered, IsKeptRow, Rise}
use Rattle.instant_view.specs.Views.{IsInstantView, IsRow, ViewsStand, kept_among, kept_at, placed_at}
use Rattle.instant_view.proofs.LinkLemmas.{three}
use Rattle.instant_view.proofs.TakeLemmas.{get_front}

-- the back of a list
get_back : {X : Type 0} (xs ys : List X) (i : ℕ) → slice_get (xs ++ ys) (length xs + i) ≡ slice_get ys i
get_back [] ys i = let e : 0 + i ≡ i = omega arith in ap (slice_get ys) e
get_back (x ∷ xs) ys i = let e : suc (length xs) + i ≡ suc (length xs + i) = omega arith in ap (slice_get (x ∷ (xs ++ ys))) e ∙ get_back xs ys i

-- an item of two lists
pub record IsIn {X : Type 0} (ys : List X) (n i : ℕ) (x : X) : Type 0 where
  pub place : ℕ
  pub is : i ≡ n + place
  pub there : slice_get ys place ≡ Some x

split_get : {X : Type 0} (xs ys : List X) (i : ℕ) (x : X) → slice_get (xs ++ ys) i ≡ Some x → (slice_get xs i ≡ Some x) ⊎ IsIn ys (length xs) i x
split_get [] ys i x h = inr (record { place = i; is = omega arith; there = h })
split_get (y ∷ xs) ys zero x h = inl h
split_get (y ∷ xs) ys (suc i) x h = by (split_get xs ys i x h)
  where
    by : (slice_get xs i ≡ Some x) ⊎ IsIn ys (length xs) i x → (slice_get xs i ≡ Some x) ⊎ IsIn ys (suc (length xs)) (suc i) x
    by (inl a) = inl a
    by (inr b) = inr (record { place = b.place; is = (let e = b.is in omega (arith, e)); there = b.there })

-- a verdict that keeps
kept_one : (o : Option Verdict) → is_kept_one o ≡ true → o ≡ Some Kept
kept_one None e = absurd (true≢false (sym e))
kept_one (Some Kept) e = refl
kept_one (Some OutOfOrder) e = absurd (true≢false (sym e))
kept_one (Some Duplicate) e = absurd (true≢false (sym e))
kept_one (Some Same) e = absurd (true≢false (sym e))

-- a kept entry of a book
pub record IsKeptAt (es : List Entry) (n : ℕ) (p : Placed) : Type 0 where
  pub before : p.place < n
  pub there : slice_get es p.place ≡ Some p.entry
  pub kept : verdict_at es p.place ≡ Some Kept

module _ (es : List Entry) where
  -- the entry at a place
  placed_is : (n : ℕ) (o : Option Entry) (i : ℕ) (p : Placed) → slice_get es n ≡ o → slice_get (placed_at n o) i ≡ Some p → (i ≡ 0) × (p.place ≡ n) × (slice_get es n ≡ Some p.entry)
  placed_is n None i p at h = absurd (none-some p h)
  placed_is n (Some e) zero p at h =
      let same : ◌≡◌ {A = Placed} (record { place = n; entry = e }) p = same_Some (record { place = n; entry = e }) p h in
      (refl, ap (λ (q : Placed). q.place) (sym same), at ∙ ap (λ (q : Placed). Some q.entry) same)
  placed_is n (Some e) (suc i) p at h = absurd (none-some p h)

  at_is : (n i : ℕ) (p : Placed) → slice_get (kept_at es n) i ≡ Some p → (i ≡ 0) × (p.place ≡ n) × (slice_get es n ≡ Some p.entry) × (verdict_at es n ≡ Some Kept)
  unfolding kept_at
  at_is n i p h = by (is_kept_one (verdict_at es n)) refl h
    where
      by : (b : Bool) → is_kept_one (verdict_at es n) ≡ b → slice_get (if b then placed_at n (slice_get es n) else []) i ≡ Some p →
          (i ≡ 0) × (p.place ≡ n) × (slice_get es n ≡ Some p.entry) × (verdict_at es n ≡ Some Kept)
      by true e g = let k = placed_is n (slice_get es n) i p refl g in (k.0, k.1, k.2, kept_one (verdict_at es n) e)
      by false e g = absurd (none-some p g)

  -- what is among the kept ones
  pub among_is : (n i : ℕ) (p : Placed) → slice_get (kept_among es n) i ≡ Some p → IsKeptAt es n p
  unfolding kept_among
  among_is zero i p h = absurd (none-some p h)
  among_is (suc n) i p h = by (λ a. among_is n i p a) (split_get (kept_among es n) (kept_at es n) i p h)
    where
      by : (slice_get (kept_among es n) i ≡ Some p → IsKeptAt es n p) → (slice_get (kept_among es n) i ≡ Some p) ⊎ IsIn (kept_at es n) (length (kept_among es n)) i p → IsKeptAt es (suc n) p
      by earlier (inl a) = let k = earlier a in record { before = (let b = k.before in omega arith); there = k.there; kept = k.kept }
      by earlier (inr b) =
          let k = at_is n b.place p b.there in
          let place = k.1 in
          record {
            before = omega (arith, place);
            there = ap (slice_get es) k.1 ∙ k.2;
            kept = ap (verdict_at es) k.1 ∙ k.3;
          }

  -- each kept entry is among them
  at_has : (n : ℕ) (e : Entry) → slice_get es n ≡ Some e → verdict_at es n ≡ Some Kept → slice_get (kept_at es n) 0 ≡ Some (record { place = n; entry = e })
  unfolding kept_at
  at_has n e there kept =
      ap (λ b. slice_get (if b then placed_at n (slice_get es n) else []) 0) (ap is_kept_one kept)
      ∙ ap (λ (o : Option Entry). slice_get (placed_at n o) 0) there

  pub among_has : (n place : ℕ) (e : Entry) → place < n → slice_get es place ≡ Some e → verdict_at es place ≡ Some Kept →
      (i : ℕ) × (slice_get (kept_among es n) i ≡ Some (record { place = place; entry = e }))
  unfolding kept_among
  among_has zero place e lt there kept = absurd (omega arith)
  among_has (suc n) place e lt there kept = by (λ before. among_has n place e before there kept) (three place n)
    where
      by : (place < n → (i : ℕ) × (slice_get (kept_among es n) i ≡ Some (record { place = place; entry = e }))) → (place < n) ⊎ ((place ≡ n) ⊎ (n < place)) →
          (i : ℕ) × (slice_get (kept_among es (suc n)) i ≡ Some (record { place = place; entry = e }))
      by earlier (inl before) =
          let h = earlier before in
          (h.0, get_front (kept_among es n) (kept_at es n) h.0 (slice_get_within (kept_among es n) h.0 (record { place = place; entry = e }) h.1) ∙ h.1)
      by earlier (inr (inl here)) =
          let at : slice_get (kept_at es place) 0 ≡ Some (record { place = place; entry = e }) = at_has place e there kept in (
            length (kept_among es n) + 0,
            get_back (kept_among es n) (kept_at es n) 0 ∙ ap (λ m. slice_get (kept_at es m) 0) (sym here) ∙ at,
          )
      by earlier (inr (inr after)) = absurd (omega arith)

  -- they rise
  among_rise : KeptRise → (n : ℕ) → Rise (kept_among es n)
  unfolding kept_among
  among_rise law zero i j p q lt a b = absurd (none-some p a)
  among_rise law (suc n) i j p q lt a b = by (λ x y. among_rise law n i j p q lt x y) (split_get (kept_among es n) (kept_at es n) i p a) (split_get (kept_among es n) (kept_at es n) j q b)
    where
      moments : p.place < q.place → p.entry.series ≡ q.entry.series → p.entry.moment <ℤ q.entry.moment
      moments before same =
          let x = among_is (suc n) i p a in
          let y = among_is (suc n) j q b in
          law es p.place q.place p.entry q.entry before x.there y.there same x.kept y.kept

      by : (slice_get (kept_among es n) i ≡ Some p → slice_get (kept_among es n) j ≡ Some q → (p.place < q.place) × (p.entry.series ≡ q.entry.series → p.entry.moment <ℤ q.entry.moment)) →
          (slice_get (kept_among es n) i ≡ Some p) ⊎ IsIn (kept_at es n) (length (kept_among es n)) i p →
          (slice_get (kept_among es n) j ≡ Some q) ⊎ IsIn (kept_at es n) (length (kept_among es n)) j q →
          (p.place < q.place) × (p.entry.series ≡ q.entry.series → p.entry.moment <ℤ q.entry.moment)
      by earlier (inl x) (inl y) = earlier x y
      by earlier (inl x) (inr y) =
          let k = among_is n i p x in
          let l = at_is n y.place q y.there in
          let first = k.before in
          let place = l.1 in
          let before : p.place < q.place = omega (arith, first, place) in
          (before, moments before)
      by earlier (inr x) (inl y) = let w = slice_get_within (kept_among es n) j q y in let e = x.is in absurd (omega (arith, w, e, lt))
      by earlier (inr x) (inr y) =
          let d = (at_is n x.place p x.there).0 in
          let e = (at_is n y.place q y.there).0 in
          let f = x.is in
          let g = y.is in
          absurd (omega (arith, d, e, f, g, lt))

  pub kept_rise : KeptRise → (n : ℕ) → Rise (kept_among es n)
  kept_rise law n = among_rise law n

-- the kept ones of a book that grew
module _ (stand : VerdictsStand) (es more : List Entry) where
  pub kept_stays : (n : ℕ) → n ≤ length es → kept_among (es ++ more) n ≡ kept_among es n
  unfolding kept_among kept_at
  kept_stays zero h = refl
  kept_stays (suc n) h =
      ap₂ (λ (a b : List Placed). a ++ b) (kept_stays n (omega arith))
      (ap₂ (λ (v : Option Verdict) (o : Option Entry). if is_kept_one v then placed_at n o else []) (stand es more n (omega arith)) (get_front es more n (omega arith)))

-- the kept ones among the first entries
pub kept_front : (stand : VerdictsStand) (es : List Entry) (n : ℕ) → n ≤ length es → kept_among (take n es) n ≡ kept_among es n
kept_front stand es n le =
    let few : n ≤ length (take n es) = (let e : length (take n es) ≡ min n (length es) = length-take n es in omega (arith, e)) in
    sym (kept_stays stand (take n es) (drop n es) n few) ∙ ap (λ (l : List Entry). kept_among l n) (take-append-drop n es)

-- a view of a book that grew
pub views_stand : VerdictsStand → ViewsStand
views_stand stand view es more stands =
    let le = stands.within in
    record {
      within = (let e = length-append es more in omega (arith, le, e));
      kept = stands.kept ∙ sym (kept_stays stand es more view.count le);
    }

-- what is seen of a book by its kept entries
module _ (es : List Entry) (n : ℕ) (le : length es ≤ n) (rise : Rise (kept_among es n)) (t : ℤ) where
  abbrev all : List Placed
  all = kept_among es n

  -- places tell the order
  order : (i j : ℕ) (p q : Placed) → slice_get all i ≡ Some p → slice_get all j ≡ Some q → p.place < q.place → i < j
  order i j p q a b before = by (three i j)
    where
      by : (i < j) ⊎ ((i ≡ j) ⊎ (j < i)) → i < j
      by (inl lt) = lt
      by (inr (inl e)) =
          let same : p ≡ q = same_Some p q (sym a ∙ ap (slice_get all) e ∙ b) in
          let place : p.place ≡ q.place = ap (λ (x : Placed). x.place) same in
          absurd (omega (arith, place, before))
      by (inr (inr gt)) = let r = (rise j i q p gt b a).0 in absurd (omega (arith, r, before))

  row_seen : (row : ViewRow) → IsKeptRow all t row → IsRow es t row
  row_seen row r =
      let k = among_is es n r.at r.placed r.there in (
        r.placed.entry,
        record {
          entry = ap (slice_get es) (sym r.place_is) ∙ k.there;
          kept = ap (verdict_at es) (sym r.place_is) ∙ k.kept;
          series_is = r.series_is;
          by = r.by;
          last = λ later d lt there kept is. (let h = among_has es n later d (let w = slice_get_within es later d there in omega (arith, w, le)) there kept in
              r.last h.0 (record { place = later; entry = d })
              (order r.at h.0 r.placed (record { place = later; entry = d }) r.there h.1 (subst (λ m. m < later) (sym r.place_is) lt)) h.1 is);
        },
        r.seen,
      )

  row_kept : (row : ViewRow) → IsRow es t row → IsKeptRow all t row
  row_kept row r =
      let e = r.0 in
      let l = r.1 in
      let h = among_has es n row.place e (let w = slice_get_within es row.place e l.entry in omega (arith, w, le)) l.entry l.kept in
      record {
        at = h.0;
        placed = record { place = row.place; entry = e };
        there = h.1;
        place_is = refl;
        series_is = l.series_is;
        by = l.by;
        last = λ j q lt there is. (let k = among_is es n j q there in
            l.last q.place q.entry (rise h.0 j (record { place = row.place; entry = e }) q lt h.1 there).0 k.there k.kept is);
        seen = r.2;
      }

  pub seen_all : (selector : SelectorParts) (rows : List ViewRow) → IsGathered all selector t rows → IsInstantView es selector t rows
  seen_all selector rows g = record {
    rising = g.rising;
    each = λ row is. (let h = g.each row is in (h.0, row_seen row h.1));
    all = λ row s r. g.all row s (row_kept row r);
  }

-- the next entry
module _ (es : List Entry) (n : ℕ) where
  pub kept_none : is_kept_one (verdict_at es n) ≡ false → [] ≡ kept_at es n
  unfolding kept_at
  kept_none e = sym (ap (λ b. if b then placed_at n (slice_get es n) else []) e)

  no_entry : (b : Bool) (o : Option Entry) → o ≡ None → [] ≡ (if b then placed_at n o else [])
  no_entry true o e = sym (ap (placed_at n) e)
  no_entry false o e = refl

  pub kept_no_entry : None ≡ slice_get es n → [] ≡ kept_at es n
  unfolding kept_at
  kept_no_entry e = no_entry (is_kept_one (verdict_at es n)) (slice_get es n) (sym e)

  pub kept_some : (e d : Entry) → is_kept_one (verdict_at es n) ≡ true → Some e ≡ slice_get es n → d ≡ e → record { place = n; entry = d } ∷ [] ≡ kept_at es n
  unfolding kept_at
  kept_some e d kept there same =
      sym (ap (λ b. if b then placed_at n (slice_get es n) else []) kept ∙ ap (placed_at n) (sym there)
      ∙ ap (λ (x : Entry). record { place = n; entry = x } ∷ []) (sym same))

  pub among_more : kept_among es (n + 1) ≡ kept_among es n ++ kept_at es n
  unfolding kept_among
  among_more = let one : n + 1 ≡ suc n = omega arith in ap (kept_among es) one

pub none_among : (es : List Entry) → [] ≡ kept_among es 0
unfolding kept_among
none_among es = refl
