-- Going back by links.
use Rattle.std.proofs.Common.{◌≡◌, ◌⊎◌, inl, inr, ℕ, zero, suc, ℤ, ◌<◌, ◌≤◌, ◌<ℤ◌, ◌≤ℤ◌, Bool, true, false, List, [], ◌∷◌, length, slice_get, Some, None, Option, refl, sym, ap, ◌∙◌, subst, true≢false, arith, if◌then◌else◌, unwrap_or}
use Rattle.std.specs.Prelude.{int_lt}
use Rattle.std.proofs.lemmas.Int.{ints}
use Rattle.std.proofs.lemmas.Option.{same_Some, slice_get_within}
use Rattle.label_set.specs.declared.texts.Pair.{Pair}
use Rattle.instant_view.specs.declared.rows.Placed.{Placed}
use Rattle.instant_view.specs.declared.links.Link.{Link}
use Rattle.instant_view.specs.Threads.{AreLinked, IsBackTo, IsEndOf, IsLastOf, IsLink, Rise, is_later, is_later_one, link_at, no_link, step_back}

-- an element within a list
pub some_of : {X : Type 0} (xs : List X) (i : ℕ) → i < length xs → (x : X) × (slice_get xs i ≡ Some x)
some_of [] i lt = absurd (omega arith)
some_of (x ∷ xs) zero lt = (x, refl)
some_of (x ∷ xs) (suc i) lt = some_of xs i (omega arith)

pub three : (i n : ℕ) → (i < n) ⊎ ((i ≡ n) ⊎ (n < i))
three zero zero = inr (inl refl)
three zero (suc n) = inl (omega arith)
three (suc i) zero = inr (inr (omega arith))
three (suc i) (suc n) = by (three i n)
  where
    by : (i < n) ⊎ ((i ≡ n) ⊎ (n < i)) → (suc i < suc n) ⊎ ((suc i ≡ suc n) ⊎ (suc n < suc i))
    by (inl l) = inl (omega arith)
    by (inr (inl e)) = inr (inl (ap suc e))
    by (inr (inr g)) = inr (inr (omega arith))

-- the tests of moments
pub less_from : (a b : ℤ) → int_lt a b ≡ true → a <ℤ b
less_from a b e = grind (arith, ints)

pub not_less_from : (a b : ℤ) → int_lt a b ≡ false → b ≤ℤ a
not_less_from a b e = grind (arith, ints)

less_before : (t a b : ℤ) → t <ℤ a → a <ℤ b → t <ℤ b
less_before t a b l m = omega (arith, ints)

-- an entry that is later
pub record IsLater (kept : List Placed) (end : ℕ) (t : ℤ) : Type 0 where
  pub at : ℕ
  pub placed : Placed
  pub end_is : end ≡ suc at
  pub there : slice_get kept at ≡ Some placed
  pub later : t <ℤ placed.entry.moment

pub later_some : (kept : List Placed) (end : ℕ) (t : ℤ) → is_later kept end t ≡ true → IsLater kept end t
later_some kept zero t e = absurd (true≢false (sym e))
later_some kept (suc i) t e = by (slice_get kept i) refl e
  where
    by : (o : Option Placed) → slice_get kept i ≡ o → is_later_one t o ≡ true → IsLater kept (suc i) t
    by None at h = absurd (true≢false (sym h))
    by (Some p) at h = record { at = i; placed = p; end_is = refl; there = at; later = less_from t p.entry.moment h }

pub not_later : (kept : List Placed) (i : ℕ) (p : Placed) (t : ℤ) → slice_get kept i ≡ Some p → is_later kept (suc i) t ≡ false → p.entry.moment ≤ℤ t
not_later kept i p t at e = not_less_from t p.entry.moment (ap (is_later_one t) (sym at) ∙ e)

suc_same : (i j : ℕ) → suc i ≡ suc j → i ≡ j
suc_same i j e = omega (arith, e)

-- the entry that an end is the end of
pub series_at : (kept : List Placed) (series : List Pair) (i : ℕ) (p : Placed) → IsEndOf kept series (suc i) → slice_get kept i ≡ Some p → p.entry.series ≡ series
series_at kept series i p is at =
    let h = is.here i refl in
    ap (λ (q : Placed). q.entry.series) (same_Some p h.0 (sym at ∙ h.1)) ∙ h.2

module _ (kept : List Placed) (links : List Link) (linked : AreLinked kept links) where
  pub link_of : (i : ℕ) (p : Placed) → slice_get kept i ≡ Some p → IsLink kept p.entry.series i (link_at links (suc i))
  link_of i p at =
      let within : i < length kept = slice_get_within kept i p at in
      let count = linked.counted in
      let l = some_of links i (omega arith) in
      subst (λ (o : Option Link). IsLink kept p.entry.series i (unwrap_or o no_link)) (sym l.1) (linked.linked i p l.0 at l.1)

  -- one step
  module _ (rise : Rise kept) (series : List Pair) (t : ℤ) (i : ℕ) (p : Placed) (at : slice_get kept i ≡ Some p) (same : p.entry.series ≡ series) (late : t <ℤ p.entry.moment) where
    abbrev link : Link
    link = link_at links (suc i)

    is_link : IsLink kept series i link
    is_link = subst (λ (s : List Pair). IsLink kept s i link) same (link_of i p at)

    module _ (behind : (j : ℕ) (q : Placed) → suc i ≤ j → slice_get kept j ≡ Some q → q.entry.series ≡ series → t <ℤ q.entry.moment) where
      previous_later : (j : ℕ) (q : Placed) → link.previous ≤ j → slice_get kept j ≡ Some q → q.entry.series ≡ series → t <ℤ q.entry.moment
      previous_later j q from there is = by (three j i)
        where
          by : (j < i) ⊎ ((j ≡ i) ⊎ (i < j)) → t <ℤ q.entry.moment
          by (inl before) = absurd (is_link.previous.none j q from before there is)
          by (inr (inl here)) =
              let e : p ≡ q = same_Some p q (sym at ∙ ap (slice_get kept) (sym here) ∙ there) in
              subst (λ (x : Placed). t <ℤ x.entry.moment) e late
          by (inr (inr after)) = behind j q (omega arith) there is

      by_previous : IsBackTo kept series t link.previous
      by_previous = record { is_end = is_link.previous.is_end; later = previous_later }

    jump_later : IsLater kept link.jump t → (j : ℕ) (q : Placed) → link.jump ≤ j → slice_get kept j ≡ Some q → q.entry.series ≡ series → t <ℤ q.entry.moment
    jump_later l j q from there is =
        let e : link.jump ≡ suc l.at = l.end_is in
        let jumped : l.placed.entry.series ≡ series = series_at kept series l.at l.placed (subst (IsEndOf kept series) l.end_is is_link.jump) l.there in
        by (three l.at j) jumped (omega arith)
      where
        by : (l.at < j) ⊎ ((l.at ≡ j) ⊎ (j < l.at)) → l.placed.entry.series ≡ series → suc l.at ≤ j → t <ℤ q.entry.moment
        by (inl after) jumped le = less_before t l.placed.entry.moment q.entry.moment l.later ((rise l.at j l.placed q after l.there there).1 (jumped ∙ sym is))
        by (inr (inl here)) jumped le = absurd (omega arith)
        by (inr (inr before)) jumped le = absurd (omega arith)

    by_jump : IsLater kept link.jump t → IsBackTo kept series t link.jump
    by_jump l = record { is_end = is_link.jump; later = jump_later l }

    stepped : ((j : ℕ) (q : Placed) → suc i ≤ j → slice_get kept j ≡ Some q → q.entry.series ≡ series → t <ℤ q.entry.moment) → (b : Bool) → is_later kept link.jump t ≡ b →
        IsBackTo kept series t (if b then link.jump else link.previous)
    stepped behind true e = by_jump (later_some kept link.jump t e)
    stepped behind false e = by_previous behind

    fewer : (b : Bool) → (if b then link.jump else link.previous) < suc i
    fewer true = let h = is_link.back in omega arith
    fewer false = let h = is_link.previous.within in omega arith

  pub steps_back : Rise kept → (series : List Pair) (t : ℤ) (end : ℕ) → IsBackTo kept series t end → is_later kept end t ≡ true → IsBackTo kept series t (step_back kept links end t)
  steps_back rise series t end back e = by (later_some kept end t e)
    where
      by : IsLater kept end t → IsBackTo kept series t (step_back kept links end t)
      by l =
          let is : IsEndOf kept series (suc l.at) = subst (IsEndOf kept series) l.end_is back.is_end in
          subst (λ n. IsBackTo kept series t (step_back kept links n t)) (sym l.end_is)
          (stepped rise series t l.at l.placed l.there (series_at kept series l.at l.placed is l.there) l.later
          (λ j q from. back.later j q (subst (λ n. n ≤ j) (sym l.end_is) from)) (is_later kept (link_at links (suc l.at)).jump t) refl)

  pub steps_fewer : Rise kept → (t : ℤ) (end : ℕ) → is_later kept end t ≡ true → step_back kept links end t < end
  steps_fewer rise t end e = by (later_some kept end t e)
    where
      by : IsLater kept end t → step_back kept links end t < end
      by l =
          subst (λ n. step_back kept links n t < n) (sym l.end_is)
          (fewer rise l.placed.entry.series t l.at l.placed l.there refl l.later (is_later kept (link_at links (suc l.at)).jump t))

-- from the last one of a series on
pub from_last : (kept : List Placed) (series : List Pair) (t : ℤ) (end : ℕ) → IsLastOf kept series (length kept) end → IsBackTo kept series t end
from_last kept series t end last = record {
  is_end = last.is_end;
  later = λ j q from there is. absurd (last.none j q from (slice_get_within kept j q there) there is);
}
