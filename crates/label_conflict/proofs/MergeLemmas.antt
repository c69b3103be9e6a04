-- Labels in the order of their names are those that are put into no labels one after another.
use Rattle.std.proofs.Common.{◌≡◌, ◌≢◌, ℕ, Bool, true, false, not, cond, List, [], ◌∷◌, ◌++◌, refl, ap, sym, subst, ◌∙◌, All}
use Rattle.std.specs.Prelude.{filter}
use Rattle.std.specs.Ordering.{is_lt, is_gt, is_eq}
use Rattle.std.specs.declared.cmp.Ordering.{Ordering}
use Rattle.std.specs.declared.cmp.Ordering.TheVariants.{Less, Equal, Greater}
use Rattle.std.specs.Cmp.Lexicographic.{texts_ties}
use Rattle.std.specs.Str.{bytes_eq}
use Rattle.std.proofs.lemmas.Slice.Eq.{bytes_eq-Decides}
use Rattle.std.proofs.lemmas.List.Sorted.{All-permutation}
use Rattle.std.proofs.lemmas.List.Elements.{All-tail, All-head}
use Rattle.std.specs.List.{IsDistinct}
use Rattle.label_set.specs.Bytes.{bytes_cmp}
use Rattle.label_set.specs.SetText.{metric_label}
use Rattle.label_set.specs.Sets.{IsSet, below, above, with_label}
use Rattle.label_set.specs.Lasts.{with_labels}
use Rattle.label_set.specs.declared.texts.Pair.{Pair}
use Rattle.label_set.proofs.SetLemmas.{with_label_is_set}
use Rattle.label_set.proofs.LookLemmas.{look, setting, IsAbsent, look-with_label, look-with_labels, with_labels_is_set}
use Rattle.label_set.proofs.OfLemmas.{set_ext}
use Rattle.label_conflict.specs.Orders.{by_name, placed, in_order}
use Rattle.label_conflict.proofs.OrderLemmas.{in_order_moves}
use Rattle.label_conflict.specs.Merging.{names_of, bears, joined, merged}
use Rattle.label_conflict.proofs.JoinLemmas.{HasValue, IsFit, differ_from_names, joined_fit}

-- another name is no tie
no_tie : (m n : List ℕ) → n ≢ m → bytes_cmp m n ≡ Equal → ⊥
no_tie m n h e = h (sym ((bytes_eq-Decides m n).0 (texts_ties m n ∙ ap is_eq e)))

kept_alike : (o : Ordering) (q : Pair) (r s : List Pair) → (o ≡ Equal → ⊥) → r ≡ s → cond (not (is_lt o)) (q ∷ r) r ≡ cond (is_gt o) (q ∷ s) s
kept_alike Less q r s h e = e
kept_alike Equal q r s h e = absurd (h refl)
kept_alike Greater q r s h e = ap (λ xs. q ∷ xs) e

same_above : (n : List ℕ) (xs : List Pair) → All (λ (q : Pair). n ≢ q.name) xs → filter (λ (q : Pair). not (is_lt (bytes_cmp q.name n))) xs ≡ above n xs
same_above n [] h = refl
same_above n (q ∷ qs) h =
    kept_alike (bytes_cmp q.name n) q _ _ (no_tie q.name n (All-head (λ (q : Pair). n ≢ q.name) q qs h)) (same_above n qs (All-tail (λ (q : Pair). n ≢ q.name) q qs h))

put_at : (p : Pair) (v : List ℕ) (xs : List Pair) → p.value ≡ v → v ≢ [] → below p.name xs ++ p ∷ above p.name xs ≡ with_label xs p.name v
put_at p [] xs e h = absurd (h refl)
put_at p (b ∷ bs) xs e h = ap (λ v. below p.name xs ++ record { name = p.name; value = v } ∷ above p.name xs) e

placed_is : (p : Pair) (xs : List Pair) → All (λ (q : Pair). p.name ≢ q.name) xs → p.value ≢ [] → placed by_name p xs ≡ with_label xs p.name p.value
placed_is p xs h v = ap (λ ys. below p.name xs ++ p ∷ ys) (same_above p.name xs h) ∙ put_at p p.value xs refl v

first_put : (p : Pair) (ps : List Pair) → IsFit (p ∷ ps) → in_order by_name (p ∷ ps) ≡ with_label (in_order by_name ps) p.name p.value
first_put p ps f =
    placed_is p (in_order by_name ps) (All-permutation (λ (q : Pair). p.name ≢ q.name) ps (in_order by_name ps) (in_order_moves by_name ps) f.0.0) (All-head HasValue p ps f.1)

rest_fit : (p : Pair) (ps : List Pair) → IsFit (p ∷ ps) → IsFit ps
rest_fit p ps f = (f.0.1, All-tail HasValue p ps f.1)

order_is_set : (ps : List Pair) → IsFit ps → IsSet (in_order by_name ps)
order_is_set [] f = tt
order_is_set (p ∷ ps) f =
    subst IsSet (sym (first_put p ps f)) (with_label_is_set p.name (in_order by_name ps) (order_is_set ps (rest_fit p ps f)) p.value)

setting_absent : (v : List ℕ) (ps : List Pair) (m : List ℕ) → IsAbsent m ps → setting v ps m ≡ v
unfolding setting
setting_absent v [] m h = refl
setting_absent v (p ∷ ps) m h = ap (λ b. setting (cond b p.value v) ps m) h.0 ∙ setting_absent v ps m h.1

unequal : (b : Bool) (m n : List ℕ) → bytes_eq n m ≡ b → m ≢ n → b ≡ false
unequal true m n e h = absurd (h (sym ((bytes_eq-Decides n m).0 e)))
unequal false m n e h = refl

absent : (m : List ℕ) (ps : List Pair) → All (λ (q : Pair). m ≢ q.name) ps → IsAbsent m ps
absent m [] h = tt
absent m (q ∷ qs) h =
    (unequal (bytes_eq q.name m) m q.name refl (All-head (λ (q : Pair). m ≢ q.name) q qs h), absent m qs (All-tail (λ (q : Pair). m ≢ q.name) q qs h))

set_first : (b : Bool) (p : Pair) (ps : List Pair) (m : List ℕ) → bytes_eq p.name m ≡ b → All (λ (q : Pair). p.name ≢ q.name) ps →
    cond b p.value (setting [] ps m) ≡ setting (cond b p.value []) ps m
set_first true p ps m e h =
    let same : p.name ≡ m = (bytes_eq-Decides p.name m).0 e in
    sym (setting_absent p.value ps m (absent m ps (subst (λ n. All (λ (q : Pair). n ≢ q.name) ps) same h)))
set_first false p ps m e h = refl

look_order : (ps : List Pair) (m : List ℕ) → IsFit ps → look (in_order by_name ps) m ≡ setting [] ps m
unfolding look setting
look_order [] m f = refl
look_order (p ∷ ps) m f =
    ap (λ s. look s m) (first_put p ps f) ∙ look-with_label (in_order by_name ps) p.name p.value m
    ∙ ap (cond (bytes_eq p.name m) p.value) (look_order ps m (rest_fit p ps f)) ∙ set_first (bytes_eq p.name m) p ps m refl f.0.0

look_put : (ps : List Pair) (m : List ℕ) → look (with_labels [] ps) m ≡ setting [] ps m
unfolding look
look_put ps m = look-with_labels [] ps m

pub order_is_put : (ps : List Pair) → IsFit ps → in_order by_name ps ≡ with_labels [] ps
order_is_put ps f =
    set_ext (in_order by_name ps) (with_labels [] ps) (order_is_set ps f) (with_labels_is_set [] ps tt) (λ m. look_order ps m f ∙ sym (look_put ps m))

-- the wanted set is what the joined labels make, put in one after another
pub merged_put : (name : List ℕ) (exposed target : List Pair) (honor : Bool) → IsDistinct bytes_eq (names_of exposed) → IsSet target →
    bears exposed metric_label ≡ false → bears target metric_label ≡ false → with_labels [] (joined name exposed target honor) ≡ merged name exposed target honor
unfolding merged
merged_put name exposed target honor d t e u =
    sym (order_is_put (joined name exposed target honor) (joined_fit name exposed target (differ_from_names exposed d) t e u honor))
