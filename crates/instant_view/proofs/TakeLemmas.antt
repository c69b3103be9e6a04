-- The index of the kept entries, with one more.
use Rattle.std.proofs.Common.{◌≡◌, ◌⊎◌, inl, inr, ℕ, zero, suc, ◌<◌, ◌≤◌, Bool, true, false, List, [], ◌∷◌, ◌++◌, length, slice_get, Some, refl, sym, ap, ◌∙◌, subst, true≢false, arith, if◌then◌else◌, append_assoc}
use Rattle.std.specs.Prelude.{reverse}
use Rattle.std.proofs.lemmas.List.{reverse-append}
use Rattle.std.specs.BTreeMap.{BTreeMap, get}
use Rattle.std.specs.Prelude.{IsSome}
use Rattle.std.specs.Ordering.{is_eq}
use Rattle.std.proofs.lemmas.Option.{same_Some, none-some, slice_get_within, slice_get_past}
use Rattle.label_set.specs.Same.{sets_decide}
use Rattle.label_set.specs.Sets.{set_cmp}
use Rattle.label_set.specs.declared.texts.Pair.{Pair}
use Rattle.appender_book.proofs.SeriesLemmas.{slice_get_left, slice_get_end, length_more}
use Rattle.instant_view.specs.declared.rows.Placed.{Placed}
use Rattle.instant_view.specs.declared.links.Link.{Link}
use Rattle.instant_view.specs.declared.threads.Threads.{Threads}
use Rattle.instant_view.specs.Threads.{AreEnds, AreLinked, AreNamed, IsEndOf, IsLastOf, IsLink, IsThreaded, Rise, end_of, link_at, twice_back}
use Rattle.instant_view.proofs.LinkLemmas.{link_of, three}

-- the front of a list
pub get_front : {X : Type 0} (xs ys : List X) (i : ℕ) → i < length xs → slice_get (xs ++ ys) i ≡ slice_get xs i
get_front [] ys i lt = absurd (omega arith)
get_front (x ∷ xs) ys zero lt = refl
get_front (x ∷ xs) ys (suc i) lt = get_front xs ys i (omega arith)

pub rise_front : (xs ys : List Placed) → Rise (xs ++ ys) → Rise xs
rise_front xs ys rise i j p q lt at there =
    let a : i < length xs = slice_get_within xs i p at in
    let b : j < length xs = slice_get_within xs j q there in
    rise i j p q lt (get_front xs ys i a ∙ at) (get_front xs ys j b ∙ there)

-- jumps stay in a series
jump_back : (kept : List Placed) (links : List Link) → AreLinked kept links → (series : List Pair) (end : ℕ) → IsEndOf kept series end →
    IsEndOf kept series (link_at links end).jump × ((link_at links end).jump ≤ end)
jump_back kept links linked series zero is = (record { here = λ i e. absurd (omega (arith, e)) }, omega arith)
jump_back kept links linked series (suc i) is =
    let h = is.here i refl in
    let l = link_of kept links linked i h.0 h.1 in
    let back = l.back in
    (subst (λ (s : List Pair). IsEndOf kept s (link_at links (suc i)).jump) h.2 l.jump, omega (arith, back))

module _ (kept : List Placed) (p : Placed) where
  abbrev more : List Placed
  more = kept ++ p ∷ []

  end_more : (series : List Pair) (end : ℕ) → IsEndOf kept series end → IsEndOf more series end
  end_more series end is = record {
    here = λ i e. (let h = is.here i e in (h.0, slice_get_left kept p i (slice_get_within kept i h.0 h.1) ∙ h.1, h.2));
  }

  last_more : (series : List Pair) (n end : ℕ) → n ≤ length kept → IsLastOf kept series n end → IsLastOf more series n end
  last_more series n end le is = record {
    is_end = end_more series end is.is_end;
    within = is.within;
    none = λ j q from before there. is.none j q from before (sym (slice_get_left kept p j (omega (arith, le, before))) ∙ there);
  }

  link_more : (series : List Pair) (i : ℕ) (l : Link) → i ≤ length kept → IsLink kept series i l → IsLink more series i l
  link_more series i l le is = record { previous = last_more series i l.previous le is.previous; jump = end_more series l.jump is.jump; back = is.back }

  -- the links of the new one
  pub new_link : (links : List Link) (link : Link) (series : List Pair) (last : ℕ) → AreLinked kept links → IsLastOf kept series (length kept) last → link.previous ≡ last →
      (link.jump ≡ last) ⊎ (link.jump ≡ twice_back links last) → IsLink kept series (length kept) link
  new_link links link series last linked is previous jump = by jump
    where
      by : (link.jump ≡ last) ⊎ (link.jump ≡ twice_back links last) → IsLink kept series (length kept) link
      by (inl e) =
          let w = is.within in
          record {
            previous = subst (IsLastOf kept series (length kept)) (sym previous) is;
            jump = subst (IsEndOf kept series) (sym e) is.is_end;
            back = omega (arith, e, w);
          }
      by (inr e) =
          let w = is.within in
          let once = jump_back kept links linked series last is.is_end in
          let twice = jump_back kept links linked series (link_at links last).jump once.0 in
          let a = once.1 in
          let b = twice.1 in
          record {
            previous = subst (IsLastOf kept series (length kept)) (sym previous) is;
            jump = subst (IsEndOf kept series) (sym e) twice.0;
            back = omega (arith, e, w, a, b);
          }

  linked_more : (links : List Link) (link : Link) → AreLinked kept links → IsLink kept p.entry.series (length kept) link → AreLinked more (links ++ link ∷ [])
  linked_more links link linked new =
      let count = linked.counted in
      record {
        counted = length_more links link ∙ ap suc count ∙ sym (length_more kept p);
        linked = λ i q l at lat. by i q l at lat (three i (length kept));
      }
    where
      by : (i : ℕ) (q : Placed) (l : Link) → slice_get more i ≡ Some q → slice_get (links ++ link ∷ []) i ≡ Some l → (i < length kept) ⊎ ((i ≡ length kept) ⊎ (length kept < i)) →
          IsLink more q.entry.series i l
      by i q l at lat (inl before) =
          let count = linked.counted in
          link_more q.entry.series i l (omega arith)
          (linked.linked i q l (sym (slice_get_left kept p i before) ∙ at) (sym (slice_get_left links link i (omega (arith, count, before))) ∙ lat))
      by i q l at lat (inr (inl here)) =
          let same : p ≡ q = same_Some p q (sym (slice_get_end kept p) ∙ ap (slice_get more) (sym here) ∙ at) in
          let link_is : link ≡ l = same_Some link l (sym (slice_get_end links link) ∙ ap (slice_get (links ++ link ∷ [])) (linked.counted ∙ sym here) ∙ lat) in
          subst (λ (x : Placed). IsLink more x.entry.series i l) same
          (subst (IsLink more p.entry.series i) link_is
          (subst (λ n. IsLink more p.entry.series n link) (sym here) (link_more p.entry.series (length kept) link (omega arith) new)))
      by i q l at lat (inr (inr after)) = absurd (none-some q (sym (slice_get_past more i (let m = length_more kept p in omega (arith, m, after))) ∙ at))

  -- the ends
  module _ (ends new_ends : BTreeMap (List Pair) ℕ) (are : AreEnds kept ends)
      (renewed : (s : List Pair) → end_of new_ends s ≡ (if is_eq (set_cmp p.entry.series s) then suc (length kept) else end_of ends s)) where
    its_end : (s : List Pair) → p.entry.series ≡ s → IsLastOf more s (length more) (suc (length kept))
    its_end s same = record {
      is_end = record {
        here = λ i e. (let at : length kept ≡ i = omega (arith, e) in (p, ap (slice_get more) (sym at) ∙ slice_get_end kept p, same));
      };
      within = (let m = length_more kept p in omega (arith, m));
      none = λ j q from before there. (let m = length_more kept p in absurd (omega (arith, m, from, before)));
    }

    other_end : (s : List Pair) → ¬ (p.entry.series ≡ s) → IsLastOf more s (length more) (end_of ends s)
    other_end s other =
        let was = are s in
        record {
          is_end = end_more s (end_of ends s) was.is_end;
          within = (let m = length_more kept p in let w = was.within in omega (arith, m, w));
          none = λ j q from before there. none j q from before there (three j (length kept));
        }
      where
        none : (j : ℕ) (q : Placed) → end_of ends s ≤ j → j < length more → slice_get more j ≡ Some q → (j < length kept) ⊎ ((j ≡ length kept) ⊎ (length kept < j)) → ¬ (q.entry.series ≡ s)
        none j q from before there (inl earlier) = (are s).none j q from earlier (sym (slice_get_left kept p j earlier) ∙ there)
        none j q from before there (inr (inl here)) =
            let same : p ≡ q = same_Some p q (sym (slice_get_end kept p) ∙ ap (slice_get more) (sym here) ∙ there) in
            λ is. other (ap (λ (x : Placed). x.entry.series) same ∙ is)
        none j q from before there (inr (inr after)) = (let m = length_more kept p in absurd (omega (arith, m, before, after)))

    ends_more : AreEnds more new_ends
    ends_more s = by (is_eq (set_cmp p.entry.series s)) refl
      where
        by : (b : Bool) → is_eq (set_cmp p.entry.series s) ≡ b → IsLastOf more s (length more) (end_of new_ends s)
        by true e =
            subst (IsLastOf more s (length more)) (sym (renewed s ∙ ap (λ b. if b then suc (length kept) else end_of ends s) e)) (its_end s ((sets_decide p.entry.series s).0 e))
        by false e =
            subst (IsLastOf more s (length more)) (sym (renewed s ∙ ap (λ b. if b then suc (length kept) else end_of ends s) e))
            (other_end s (λ same. true≢false (sym ((sets_decide p.entry.series s).1 same) ∙ e)))

-- all of it
pub threaded_more : (old new : Threads) (p : Placed) (link : Link) (last : ℕ) → IsThreaded old → Rise (old.kept.items ++ p ∷ []) →
    new.kept.items ≡ old.kept.items ++ p ∷ [] → new.links.items ≡ old.links.items ++ link ∷ [] → last ≡ end_of old.ends p.entry.series →
    ((s : List Pair) → end_of new.ends s ≡ (if is_eq (set_cmp p.entry.series s) then suc (length old.kept.items) else end_of old.ends s)) →
    ((s : List Pair) → IsSome (get set_cmp new.ends s) → IsSome (get set_cmp old.ends s)) → new.named ≡ old.named → link.previous ≡ last →
    (link.jump ≡ last) ⊎ (link.jump ≡ twice_back old.links.items last) → IsThreaded new
threaded_more old new p link last is rise kept_is links_is last_is ends_are others named_is previous jump =
    let kept = old.kept.items in
    let found : IsLastOf kept p.entry.series (length kept) last = subst (IsLastOf kept p.entry.series (length kept)) (sym last_is) (is.ends p.entry.series) in
    record {
      rise = subst Rise (sym kept_is) rise;
      linked =
          subst (λ ks. AreLinked ks new.links.items) (sym kept_is)
          (subst (AreLinked (kept ++ p ∷ [])) (sym links_is)
          (linked_more kept p old.links.items link is.linked (new_link kept p old.links.items link p.entry.series last is.linked found previous jump)));
      ends = subst (λ ks. AreEnds ks new.ends) (sym kept_is) (ends_more kept p old.ends new.ends is.ends ends_are);
      named = subst (AreNamed new.ends) (sym named_is) (λ s place. is.named s (others s place));
    }

-- the last of those that are taken in from their end
popped-turned : (fresh rest : List Placed) (p : Placed) → fresh ≡ rest ++ p ∷ [] → reverse fresh ≡ p ∷ reverse rest
popped-turned fresh rest p e = ap reverse e ∙ reverse-append rest (p ∷ [])

pub popped : (kept fresh rest all : List Placed) (p : Placed) → fresh ≡ rest ++ p ∷ [] → kept ++ reverse fresh ≡ all → (kept ++ p ∷ []) ++ reverse rest ≡ all
popped kept fresh rest all p e h = append_assoc kept (p ∷ []) (reverse rest) ∙ ap (λ (l : List Placed). kept ++ l) (sym (popped-turned fresh rest p e)) ∙ h

pub rise_popped : (kept fresh rest : List Placed) (p : Placed) → fresh ≡ rest ++ p ∷ [] → Rise (kept ++ reverse fresh) → Rise (kept ++ p ∷ [])
rise_popped kept fresh rest p e rise = rise_front (kept ++ p ∷ []) (reverse rest) (subst Rise (sym (popped kept fresh rest (kept ++ reverse fresh) p e refl)) rise)
