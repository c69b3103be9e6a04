-- Labels that are borrowed, seen as pairs.
use Rattle.std.proofs.Common.{arith, ◌≡◌, ℕ, ◌+◌, ◌<◌, List, [], ◌∷◌, ◌++◌, ap, sym, ◌∙◌, drop, get_or, add-one, suc, drop-cons, append_assoc, subst, Some}
use Rattle.std.specs.Prelude.{map, length}
use Rattle.std.specs.List.Sorted.{IsSorted}
use Rattle.std.proofs.lemmas.List.{get_or-map, length-map}
use Rattle.std.specs.declared.cmp.Ordering.{Ordering}
use Rattle.label_set.specs.Borrowed.{pair_of}
use Rattle.label_set.specs.declared.texts.Pair.{Pair}
use Rattle.label_set.specs.declared.labels.Label.{Label}
use Rattle.label_conflict.specs.Merging.{settled, with_free, free_name}

-- a sort of labels sorts their pairs
pub sorted_from : (cmp : Pair → Pair → Ordering) (ls : List Label) → IsSorted (λ one other. cmp (pair_of one) (pair_of other)) ls → IsSorted cmp (map pair_of ls)
sorted_from cmp [] s = λ k d low h. absurd (omega arith)
sorted_from cmp (x ∷ xs) s = λ k d low h.
    let within : k + 1 < length (x ∷ xs) = subst (λ (n : ℕ). k + 1 < n) (length-map (x ∷ xs) pair_of) h in
    let first : get_or (map pair_of (x ∷ xs)) k d ≡ pair_of (get_or (x ∷ xs) k x) = get_or-map pair_of (x ∷ xs) k x d (omega arith) in
    let next : get_or (map pair_of (x ∷ xs)) (k + 1) d ≡ pair_of (get_or (x ∷ xs) (k + 1) x) = get_or-map pair_of (x ∷ xs) (k + 1) x d within in
    rw (first, next) (s k x low within)

-- one more conflict is settled
pub settle_next : (ls : List Label) (i : ℕ) (l : Label) (base out : List Pair) (n : List ℕ) → i < length ls → l ≡ get_or ls i l →
    free_name (base ++ out) l.name.now ≡ Some n →
    settled (map pair_of (drop i ls)) (base ++ out) ≡ settled (map pair_of (drop (i + 1) ls)) (base ++ (out ++ record { name = n; value = l.value.now } ∷ []))
settle_next ls i l base out n h is free =
    let split : drop i ls ≡ l ∷ drop (i + 1) ls = rw add-one (drop-cons ls i l h ∙ ap (λ x. x ∷ drop (suc i) ls) (sym is)) in
    ap (λ xs. settled (map pair_of xs) (base ++ out)) split
    ∙ ap (λ o. settled (map pair_of (drop (i + 1) ls)) (with_free (base ++ out) l.value.now o)) free
    ∙ ap (settled (map pair_of (drop (i + 1) ls))) (append_assoc base out (record { name = n; value = l.value.now } ∷ []))
