-- Where a name would stand in the bytes of a set.
use Rattle.std.proofs.Common.{arith, ◌≡◌, ℕ, Bool, true, false, ◌-◌, ◌<◌, ◌+◌, List, [], ◌∷◌, ◌++◌, length, take, refl, sym, ap, ◌∙◌, subst, length-append, append_assoc, All, cond, get_or}
use Rattle.std.specs.Prelude.{filter, flat_map, map}
use Rattle.std.specs.Ordering.{is_lt, is_gt, ordering_reverse}
use Rattle.std.specs.declared.cmp.Ordering.TheVariants.{Less, Equal, Greater}
use Rattle.std.specs.Cmp.Lexicographic.{nat_list_cmp_total}
use Rattle.std.proofs.lemmas.List.Elements.{All-head, All-tail, All-weaker, All-cons}
use Rattle.std.proofs.lemmas.Grind.{flat_map-append}
use Rattle.std.proofs.lemmas.List.{map_more}
use Rattle.label_set.specs.declared.labels.Label.{Label}
use Rattle.label_set.specs.Borrowed.{pair_of}
use Rattle.label_set.specs.Bytes.{bytes_cmp}
use Rattle.label_set.specs.Sets.{IsSet, below, above, with_label}
use Rattle.label_set.specs.declared.texts.Pair.{Pair}
use Rattle.label_set.proofs.SetLemmas.{with_label_is_set, without_is_set}
use Rattle.label_set.specs.Flat.{flat, flat_label, labels_of, IsLabel, AreLabels, IsFlat, IsFlatSet}
use Rattle.label_set.proofs.FlatLemmas.{take_front, labels_of-flat, IsFlat-flat, no_labels}

pub flat-append : (xs ys : List Pair) → flat (xs ++ ys) ≡ flat xs ++ flat ys
unfolding flat
flat-append xs ys = flat_map-append flat_label xs ys

flat-cons : (p : Pair) (ps : List Pair) → flat (p ∷ ps) ≡ flat_label p ++ flat ps
unfolding flat
flat-cons p ps = refl

pub append_nil : (xs : List ℕ) → xs ++ [] ≡ xs
append_nil [] = refl
append_nil (x ∷ xs) = ap (λ ys. x ∷ ys) (append_nil xs)

pub flat_none : flat [] ≡ []
unfolding flat
flat_none = refl

pub flat_more : (ps : List Pair) (p : Pair) → flat (ps ++ p ∷ []) ≡ flat ps ++ flat_label p
unfolding flat
flat_more ps p = flat_map-append flat_label ps (p ∷ []) ∙ ap (λ xs. flat_map flat_label ps ++ xs) (append_nil (flat_label p))

pub AreLabels-append : (xs ys : List Pair) → AreLabels xs → AreLabels ys → AreLabels (xs ++ ys)
AreLabels-append [] ys h k = k
AreLabels-append (x ∷ xs) ys h k = (h.0, AreLabels-append xs ys h.1 k)

pub labels_more : (ps : List Pair) (p : Pair) → AreLabels ps → IsLabel p → AreLabels (ps ++ p ∷ [])
labels_more ps p h k = AreLabels-append ps (p ∷ []) h (k, tt)

labels_kept : (b : Bool) (p : Pair) (ps : List Pair) → IsLabel p → AreLabels ps → AreLabels (cond b (p ∷ ps) ps)
labels_kept true p ps h hs = (h, hs)
labels_kept false p ps h hs = hs

pub AreLabels-filter : (f : Pair → Bool) (ps : List Pair) → AreLabels ps → AreLabels (filter f ps)
AreLabels-filter f [] h = tt
AreLabels-filter f (p ∷ ps) h = labels_kept (f p) p (filter f ps) h.0 (AreLabels-filter f ps h.1)

nothing_long : (xs : List ℕ) → length xs ≡ 0 → xs ≡ []
nothing_long [] e = refl
nothing_long (x ∷ xs) e = absurd (omega arith)

module _ (name : List ℕ) where
  abbrev pub IsAbove : Pair → Type 0
  IsAbove q = bytes_cmp name q.name ≡ Less

  above_turned : (q : Pair) → IsAbove q → bytes_cmp q.name name ≡ Greater
  above_turned q h = nat_list_cmp_total.antisymm q.name name ∙ ap ordering_reverse h

  none_below : (ps : List Pair) → All IsAbove ps → below name ps ≡ []
  none_below [] h = refl
  none_below (p ∷ ps) h =
      ap (λ o. cond (is_lt o) (p ∷ below name ps) (below name ps)) (above_turned p (All-head IsAbove p ps h)) ∙ none_below ps (All-tail IsAbove p ps h)

  all_above : (ps : List Pair) → All IsAbove ps → above name ps ≡ ps
  all_above [] h = refl
  all_above (p ∷ ps) h =
      ap (λ o. cond (is_gt o) (p ∷ above name ps) (above name ps)) (above_turned p (All-head IsAbove p ps h)) ∙ ap (λ qs. p ∷ qs) (all_above ps (All-tail IsAbove p ps h))

-- how far the walk has come: what lies before the rest, and what is left of both parts
pub record Split (bs name rest : List ℕ) : Type 0 where
  pub front : List ℕ
  pub whole : bs ≡ front ++ rest
  pub set : IsFlatSet rest
  pub lower : flat (below name (labels_of bs)) ≡ front ++ flat (below name (labels_of rest))
  pub upper : above name (labels_of bs) ≡ above name (labels_of rest)

pub split_start : (bs name : List ℕ) → IsFlatSet bs → Split bs name bs
split_start bs name h = record { front = []; whole = refl; set = h; lower = refl; upper = refl }

module _ (bs name rest : List ℕ) (s : Split bs name rest) where
  taken : take (length bs - length rest) bs ≡ s.front
  taken =
      let n : length bs - length rest ≡ length s.front = omega (arith, ap length s.whole, length-append s.front rest) in
      ap (λ k. take k bs) n ∙ ap (take (length s.front)) s.whole ∙ take_front s.front rest

  pub split_none : length rest ≡ 0 → (bs ≡ flat (below name (labels_of bs))) × (rest ≡ flat (above name (labels_of bs)))
  split_none e =
      let none = no_labels rest e in
      let empty : rest ≡ [] = nothing_long rest e in
      let front : bs ≡ s.front = s.whole ∙ ap (λ xs. s.front ++ xs) empty ∙ append_nil s.front in (
        front ∙ sym (append_nil s.front) ∙ ap (λ xs. s.front ++ xs) (sym flat_none) ∙ ap (λ ps. s.front ++ flat (below name ps)) (sym none) ∙ sym s.lower,
        empty ∙ sym flat_none ∙ ap (λ ps. flat (above name ps)) (sym none) ∙ ap flat (sym s.upper),
      )

  module _ (p : Pair) (others : List ℕ) (first : labels_of rest ≡ p ∷ labels_of others) (bytes : rest ≡ flat_label p ++ others) (is_flat : IsFlat others) where
    is_set : IsSet (p ∷ labels_of others)
    is_set = subst IsSet first s.set.set

    pub split_less : bytes_cmp p.name name ≡ Less → Split bs name others
    split_less lt = record {
      front = s.front ++ flat_label p;
      whole = s.whole ∙ ap (λ xs. s.front ++ xs) bytes ∙ sym (append_assoc s.front (flat_label p) others);
      set = record { flat = is_flat; set = is_set.2 };
      lower = s.lower ∙ ap (λ ps. s.front ++ flat (below name ps)) first ∙ ap (λ o. s.front ++ flat (cond (is_lt o) (p ∷ below name (labels_of others)) (below name (labels_of others)))) lt ∙ ap (λ xs. s.front ++ xs) (flat-cons p (below name (labels_of others))) ∙ sym (append_assoc s.front (flat_label p) (flat (below name (labels_of others))));
      upper = s.upper ∙ ap (above name) first ∙ ap (λ o. cond (is_gt o) (p ∷ above name (labels_of others)) (above name (labels_of others))) lt;
    }

    -- from a label on all names lie above
    from_here : All (IsAbove name) (labels_of rest) → (take (length bs - length rest) bs ≡ flat (below name (labels_of bs))) × (rest ≡ flat (above name (labels_of bs)))
    from_here h = (
      taken ∙ sym (append_nil s.front) ∙ ap (λ xs. s.front ++ xs) (sym flat_none) ∙ ap (λ ps. s.front ++ flat ps) (sym (none_below name (labels_of rest) h)) ∙ sym s.lower,
      s.set.flat.bytes ∙ ap flat (sym (all_above name (labels_of rest) h)) ∙ ap flat (sym s.upper),
    )

    pub split_greater : bytes_cmp p.name name ≡ Greater → (take (length bs - length rest) bs ≡ flat (below name (labels_of bs))) × (rest ≡ flat (above name (labels_of bs)))
    split_greater gt =
        let at : IsAbove name p = nat_list_cmp_total.antisymm name p.name ∙ ap ordering_reverse gt in
        let later : All (IsAbove name) (labels_of others) = All-weaker (λ (q : Pair). bytes_cmp p.name q.name ≡ Less) (IsAbove name) (λ q h. nat_list_cmp_total.trans name p.name q.name at h) (labels_of others) is_set.1 in
        from_here (subst (All (IsAbove name)) (sym first) (All-cons (IsAbove name) p (labels_of others) at later))

    pub split_equal : bytes_cmp p.name name ≡ Equal → (take (length bs - length rest) bs ≡ flat (below name (labels_of bs))) × (others ≡ flat (above name (labels_of bs)))
    split_equal eq =
        let later : All (IsAbove name) (labels_of others) = All-weaker (λ (q : Pair). bytes_cmp p.name q.name ≡ Less) (IsAbove name) (λ q h. sym (nat_list_cmp_total.congr p.name name q.name eq) ∙ h) (labels_of others) is_set.1 in
        let lower : below name (labels_of rest) ≡ [] = ap (below name) first ∙ ap (λ o. cond (is_lt o) (p ∷ below name (labels_of others)) (below name (labels_of others))) eq ∙ none_below name (labels_of others) later in
        let upper : above name (labels_of rest) ≡ labels_of others = ap (above name) first ∙ ap (λ o. cond (is_gt o) (p ∷ above name (labels_of others)) (above name (labels_of others))) eq ∙ all_above name (labels_of others) later in (
          taken ∙ sym (append_nil s.front) ∙ ap (λ xs. s.front ++ xs) (sym flat_none) ∙ ap (λ ps. s.front ++ flat ps) (sym lower) ∙ sym s.lower,
          is_flat.bytes ∙ ap flat (sym upper) ∙ ap flat (sym s.upper),
        )

-- bytes made of a set's labels
pub record Made (bs : List ℕ) (ps : List Pair) : Type 0 where
  pub set : IsFlatSet bs
  pub labels : labels_of bs ≡ ps

pub made : (bs : List ℕ) (ps : List Pair) → bs ≡ flat ps → AreLabels ps → IsSet ps → Made bs ps
made bs ps e h s =
    let same = labels_of-flat ps h in
    subst (λ (xs : List ℕ). Made xs ps) (sym e) (record { set = record { flat = IsFlat-flat ps h; set = subst IsSet (sym same) s }; labels = same })

pub made_without : (bs name : List ℕ) → IsFlatSet bs → Made (flat (below name (labels_of bs)) ++ flat (above name (labels_of bs))) (below name (labels_of bs) ++ above name (labels_of bs))
made_without bs name h =
    let ps = labels_of bs in
    made _ (below name ps ++ above name ps) (sym (flat-append (below name ps) (above name ps))) (AreLabels-append (below name ps) (above name ps) (AreLabels-filter _ ps h.flat.labels) (AreLabels-filter _ ps h.flat.labels)) (without_is_set name ps h.set)

with_some : (ps : List Pair) (name value : List ℕ) → 0 < length value → with_label ps name value ≡ below name ps ++ record { name = name; value = value } ∷ above name ps
with_some ps name [] h = absurd (omega arith)
with_some ps name (b ∷ bs) h = refl

pub made_with : (bs : List ℕ) (p : Pair) → IsFlatSet bs → IsLabel p → 0 < length p.value → Made ((flat (below p.name (labels_of bs)) ++ flat_label p) ++ flat (above p.name (labels_of bs))) (with_label (labels_of bs) p.name p.value)
made_with bs p h l some =
    let ps = labels_of bs in
    let parts = below p.name ps in
    let others = above p.name ps in
    let is = with_some ps p.name p.value some in
    let joined : (flat parts ++ flat_label p) ++ flat others ≡ flat (parts ++ p ∷ others) = append_assoc (flat parts) (flat_label p) (flat others) ∙ ap (λ xs. flat parts ++ xs) (sym (flat-cons p others)) ∙ sym (flat-append parts (p ∷ others)) in
    made _ (with_label ps p.name p.value) (joined ∙ ap flat (sym is)) (subst AreLabels (sym is) (AreLabels-append parts (p ∷ others) (AreLabels-filter _ ps h.flat.labels) (l, AreLabels-filter _ ps h.flat.labels))) (with_label_is_set p.name ps h.set p.value)

-- one more label in the bytes
pub more_bytes : (labels : List Label) (i : ℕ) (d : Label) (old new : List ℕ) → i < length labels → old ≡ flat (map pair_of (take i labels)) → AreLabels (map pair_of (take i labels)) → new ≡ old ++ flat_label (pair_of (get_or labels i d)) → IsLabel (pair_of (get_or labels i d)) → (new ≡ flat (map pair_of (take (i + 1) labels))) × AreLabels (map pair_of (take (i + 1) labels))
more_bytes labels i d old new h bytes are more is =
    let next = map_more pair_of labels i d h in
    let done = map pair_of (take i labels) in (
      more ∙ ap (λ xs. xs ++ flat_label (pair_of (get_or labels i d))) bytes ∙ sym (flat_more done (pair_of (get_or labels i d))) ∙ ap flat (sym next),
      subst AreLabels (sym next) (labels_more done (pair_of (get_or labels i d)) are is),
    )
