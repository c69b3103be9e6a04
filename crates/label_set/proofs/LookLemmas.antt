-- The value of each name in labels that are put one after another.
use Rattle.std.proofs.Common.{arith, ◌≡◌, ◌≢◌, ℕ, ◌+◌, ◌<◌, suc, Bool, true, false, List, [], ◌∷◌, ◌++◌, length, refl, sym, ap, ◌∙◌, subst, All, cond, get_or, add-one, ◌&&◌, ◌==◌, not}
use Rattle.std.specs.Prelude.{filter, map}
use Rattle.std.specs.Ordering.{is_lt, is_gt, ordering_reverse, is_eq}
use Rattle.std.specs.declared.cmp.Ordering.{Ordering}
use Rattle.std.specs.declared.cmp.Ordering.TheVariants.{Less, Equal, Greater}
use Rattle.std.specs.Cmp.Lexicographic.{nat_list_cmp_total, texts_ties}
use Rattle.std.specs.Str.{bytes_eq}
use Rattle.std.specs.List.Sorted.{IsSorted, IsStable, ties}
use Rattle.std.proofs.lemmas.List.Elements.{All-head, All-tail, All-weaker, All-cons}
use Rattle.std.proofs.Common.{take, drop, drop-cons, ◌-◌}
use Rattle.std.proofs.lemmas.List.{take_rest}
use Rattle.std.proofs.lemmas.Slice.Eq.{bytes_eq-Decides}
use Rattle.label_set.specs.Bytes.{bytes_cmp}
use Rattle.label_set.specs.Sets.{IsSet, below, above, with_label, pair_cmp, pairs_total, set_cmp}
use Rattle.label_set.specs.Flat.{flat_label, first_label, after_first, labels_of, IsLabel, IsFlat}
use Rattle.label_set.proofs.FlatLemmas.{same_label, first_of, no_labels}
use Rattle.label_set.specs.declared.texts.Pair.{Pair}
use Rattle.label_set.proofs.SetLemmas.{with_label_is_set}
use Rattle.label_set.specs.Lasts.{with_labels, some_label, named_first, lasts, is_before, leads, is_ordered}
use Rattle.label_set.specs.declared.labels.Label.{Label}
use Rattle.label_set.specs.declared.ordered.Named.{Named}
use Rattle.label_set.specs.Borrowed.{pair_of}
use Rattle.label_set.specs.Named.{named_pair, name_cmp}

-- the value of a name, or no bytes
unfoldable pub look : List Pair → List ℕ → List ℕ
look [] m = []
look (p ∷ ps) m = cond (bytes_eq p.name m) p.value (look ps m)

-- no label has the name
abbrev pub IsAbsent : List ℕ → List Pair → Type 0
IsAbsent m [] = Unit {0}
IsAbsent m (p ∷ ps) = (bytes_eq p.name m ≡ false) × IsAbsent m ps

pub equal_test : (xs ys : List ℕ) → bytes_eq xs ys ≡ is_eq (bytes_cmp xs ys)
equal_test xs ys = texts_ties xs ys

pub not_less : (xs ys : List ℕ) → bytes_cmp xs ys ≡ Less → bytes_eq xs ys ≡ false
not_less xs ys e = equal_test xs ys ∙ ap is_eq e

pub not_greater : (xs ys : List ℕ) → bytes_cmp xs ys ≡ Greater → bytes_eq xs ys ≡ false
not_greater xs ys e = equal_test xs ys ∙ ap is_eq e

pub turned : (xs ys : List ℕ) → bytes_cmp xs ys ≡ Less → bytes_cmp ys xs ≡ Greater
turned xs ys e = nat_list_cmp_total.antisymm ys xs ∙ ap ordering_reverse e

pub turned_back : (xs ys : List ℕ) → bytes_cmp xs ys ≡ Greater → bytes_cmp ys xs ≡ Less
turned_back xs ys e = nat_list_cmp_total.antisymm ys xs ∙ ap ordering_reverse e

pub same_name : (xs ys : List ℕ) → bytes_eq xs ys ≡ true → xs ≡ ys
same_name xs ys e = (bytes_eq-Decides xs ys).0 e

pub test_same : (xs ys : List ℕ) → xs ≡ ys → bytes_eq xs ys ≡ true
test_same xs ys e = (bytes_eq-Decides xs ys).1 e

pub itself : (xs : List ℕ) → bytes_eq xs xs ≡ true
itself xs = test_same xs xs refl

pub look_absent : (xs : List Pair) (m : List ℕ) → IsAbsent m xs → look xs m ≡ []
unfolding look
look_absent [] m h = refl
look_absent (p ∷ ps) m h = ap (λ b. cond b p.value (look ps m)) h.0 ∙ look_absent ps m h.1

pub look_first : (p : Pair) (ps : List Pair) (m : List ℕ) → bytes_eq p.name m ≡ true → look (p ∷ ps) m ≡ p.value
unfolding look
look_first p ps m e = ap (λ b. cond b p.value (look ps m)) e

pub look_later : (p : Pair) (ps : List Pair) (m : List ℕ) → bytes_eq p.name m ≡ false → look (p ∷ ps) m ≡ look ps m
unfolding look
look_later p ps m e = ap (λ b. cond b p.value (look ps m)) e

pub look_before : (xs ys : List Pair) (m : List ℕ) → look ys m ≡ [] → look (xs ++ ys) m ≡ look xs m
unfolding look
look_before [] ys m e = e
look_before (p ∷ xs) ys m e = ap (λ v. cond (bytes_eq p.name m) p.value v) (look_before xs ys m e)

pub look_behind : (xs ys : List Pair) (m : List ℕ) → IsAbsent m xs → look (xs ++ ys) m ≡ look ys m
unfolding look
look_behind [] ys m h = refl
look_behind (p ∷ xs) ys m h = ap (λ b. cond b p.value (look (xs ++ ys) m)) h.0 ∙ look_behind xs ys m h.1

module _ (g : List ℕ → Bool) (m : List ℕ) where
  kept_step : (b : Bool) (p : Pair) (ps qs : List Pair) → (bytes_eq p.name m ≡ true → b ≡ true) → look qs m ≡ look ps m → look (cond b (p ∷ qs) qs) m ≡ look (p ∷ ps) m
  unfolding look
  kept_step true p ps qs k e = ap (λ v. cond (bytes_eq p.name m) p.value v) e
  kept_step false p ps qs k e = e ∙ sym (look_later p ps m (unlike (bytes_eq p.name m) k))
    where
      unlike : (c : Bool) → (c ≡ true → false ≡ true) → c ≡ false
      unlike true k = sym (k refl)
      unlike false k = refl

  look_kept : (ps : List Pair) → g m ≡ true → look (filter (λ (p : Pair). g p.name) ps) m ≡ look ps m
  look_kept [] e = refl
  look_kept (p ∷ ps) e = kept_step (g p.name) p ps (filter (λ (q : Pair). g q.name) ps) (λ s. ap g (same_name p.name m s) ∙ e) (look_kept ps e)

  drop_step : (b : Bool) (p : Pair) (qs : List Pair) → (bytes_eq p.name m ≡ true → b ≡ false) → IsAbsent m qs → IsAbsent m (cond b (p ∷ qs) qs)
  drop_step true p qs k h = (unlike (bytes_eq p.name m) k, h)
    where
      unlike : (c : Bool) → (c ≡ true → true ≡ false) → c ≡ false
      unlike true k = k refl
      unlike false k = refl
  drop_step false p qs k h = h

  absent_dropped : (ps : List Pair) → g m ≡ false → IsAbsent m (filter (λ (p : Pair). g p.name) ps)
  absent_dropped [] e = tt
  absent_dropped (p ∷ ps) e = drop_step (g p.name) p (filter (λ (q : Pair). g q.name) ps) (λ s. ap g (same_name p.name m s) ∙ e) (absent_dropped ps e)

module _ (ps : List Pair) (n m : List ℕ) where
  is_below : List ℕ → Bool
  is_below k = is_lt (bytes_cmp k n)

  with_at : (o : Ordering) (value : List ℕ) → bytes_cmp m n ≡ o → look (with_label ps n value) m ≡ cond (bytes_eq n m) value (look ps m)
  unfolding look
  with_at Less value e =
      let gone : IsAbsent m (above n ps) = absent_dropped (λ k. is_gt (bytes_cmp k n)) m ps (ap is_gt e) in
      let there : look (below n ps) m ≡ look ps m = look_kept (λ k. is_lt (bytes_cmp k n)) m ps (ap is_lt e) in
      let other : bytes_eq n m ≡ false = not_greater n m (turned m n e) in
      put value gone there other
    where
      put : (v : List ℕ) → IsAbsent m (above n ps) → look (below n ps) m ≡ look ps m → bytes_eq n m ≡ false → look (with_label ps n v) m ≡ cond (bytes_eq n m) v (look ps m)
      put [] gone there other = look_before (below n ps) (above n ps) m (look_absent (above n ps) m gone) ∙ there ∙ ap (λ b. cond b [] (look ps m)) (sym other)
      put (b ∷ bs) gone there other =
          look_before (below n ps) (record { name = n; value = b ∷ bs } ∷ above n ps) m (look_absent (record { name = n; value = b ∷ bs } ∷ above n ps) m (other, gone)) ∙ there ∙ ap (λ c. cond c (b ∷ bs) (look ps m)) (sym other)
  with_at Greater value e =
      let gone : IsAbsent m (below n ps) = absent_dropped (λ k. is_lt (bytes_cmp k n)) m ps (ap is_lt e) in
      let there : look (above n ps) m ≡ look ps m = look_kept (λ k. is_gt (bytes_cmp k n)) m ps (ap is_gt e) in
      let other : bytes_eq n m ≡ false = not_less n m (turned_back m n e) in
      put value gone there other
    where
      put : (v : List ℕ) → IsAbsent m (below n ps) → look (above n ps) m ≡ look ps m → bytes_eq n m ≡ false → look (with_label ps n v) m ≡ cond (bytes_eq n m) v (look ps m)
      put [] gone there other = look_behind (below n ps) (above n ps) m gone ∙ there ∙ ap (λ b. cond b [] (look ps m)) (sym other)
      put (b ∷ bs) gone there other =
          look_behind (below n ps) (record { name = n; value = b ∷ bs } ∷ above n ps) m gone ∙ look_later (record { name = n; value = b ∷ bs }) (above n ps) m other ∙ there ∙ ap (λ c. cond c (b ∷ bs) (look ps m)) (sym other)
  with_at Equal value e =
      let lower : IsAbsent m (below n ps) = absent_dropped (λ k. is_lt (bytes_cmp k n)) m ps (ap is_lt e) in
      let upper : IsAbsent m (above n ps) = absent_dropped (λ k. is_gt (bytes_cmp k n)) m ps (ap is_gt e) in
      let same : bytes_eq n m ≡ true = test_same n m (sym (same_name m n (equal_test m n ∙ ap is_eq e))) in
      put value lower upper same
    where
      put : (v : List ℕ) → IsAbsent m (below n ps) → IsAbsent m (above n ps) → bytes_eq n m ≡ true → look (with_label ps n v) m ≡ cond (bytes_eq n m) v (look ps m)
      put [] lower upper same = look_behind (below n ps) (above n ps) m lower ∙ look_absent (above n ps) m upper ∙ ap (λ b. cond b [] (look ps m)) (sym same)
      put (b ∷ bs) lower upper same =
          look_behind (below n ps) (record { name = n; value = b ∷ bs } ∷ above n ps) m lower ∙ look_first (record { name = n; value = b ∷ bs }) (above n ps) m same ∙ ap (λ c. cond c (b ∷ bs) (look ps m)) (sym same)

pub look-with_label : (ps : List Pair) (n value m : List ℕ) → look (with_label ps n value) m ≡ cond (bytes_eq n m) value (look ps m)
look-with_label ps n value m = with_at ps n m (bytes_cmp m n) value refl

-- the value of a name after labels are put in
unfoldable pub setting : List ℕ → List Pair → List ℕ → List ℕ
setting v [] m = v
setting v (p ∷ ps) m = setting (cond (bytes_eq p.name m) p.value v) ps m

pub look-with_labels : (set ps : List Pair) (m : List ℕ) → look (with_labels set ps) m ≡ setting (look set m) ps m
unfolding setting
look-with_labels set [] m = refl
look-with_labels set (p ∷ ps) m = look-with_labels (with_label set p.name p.value) ps m ∙ ap (λ v. setting v ps m) (look-with_label set p.name p.value m)

pub with_labels_is_set : (set ps : List Pair) → IsSet set → IsSet (with_labels set ps)
with_labels_is_set set [] s = s
with_labels_is_set set (p ∷ ps) s = with_labels_is_set (with_label set p.name p.value) ps (with_label_is_set p.name set s p.value)
