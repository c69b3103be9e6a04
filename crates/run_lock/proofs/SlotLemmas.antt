-- The slots of the workers, and what their entries tell of them.
use Rattle.std.proofs.Common.{◌≡◌, ◌≢◌, ◌⊎◌, ℕ, zero, suc, ◌+◌, ◌<◌, ◌≤◌, ◌==◌, List, [], ◌∷◌, ◌++◌, length, set, replicate, Bool, true, false, cond, refl, sym, ap, ◌∙◌, subst, inl, inr, ⊎_elim, arith}
use Rattle.std.specs.Prelude.{Option, Some, None, slice_get}
use Rattle.std.proofs.lemmas.Bool.Decides.{nat_tests}
use Rattle.std.proofs.lemmas.List.{length-set, length-replicate}
use Rattle.std.proofs.lemmas.List.Sums.{sum_by-cons}
use Rattle.run_lock.specs.declared.marks.Entry.{Entry}
use Rattle.run_lock.specs.declared.marks.Note.{Note}
use Rattle.run_lock.specs.Entries.{entry, own_by}
use Rattle.run_lock.specs.Held.{has_ticket, has_any, times, held, after_note, pending, IsHeld}
use Rattle.run_lock.proofs.EntryLemmas.{own_here, own_else, pending_push}

-- one ticket is put into a slot, or leaves it
pub slot_put : (slots : List (Option ℕ)) (i k j : ℕ) → slice_get slots i ≡ Some None → times j (set slots i (Some k)) ≡ times j slots + cond {A = ℕ} (k == j) 1 0
slot_put [] i k j h = cc
slot_put (None ∷ xs) zero k j h = omega (arith, sum_by-cons (λ x. cond {A = ℕ} (has_ticket j x) 1 0) (Some k) xs, sum_by-cons (λ x. cond {A = ℕ} (has_ticket j x) 1 0) None xs)
slot_put (Some y ∷ xs) zero k j h = cc
slot_put (x ∷ xs) (suc i) k j h = omega (arith, sum_by-cons (λ x. cond {A = ℕ} (has_ticket j x) 1 0) x (set xs i (Some k)), sum_by-cons (λ x. cond {A = ℕ} (has_ticket j x) 1 0) x xs, slot_put xs i k j h)

pub slot_left : (slots : List (Option ℕ)) (i k j : ℕ) → slice_get slots i ≡ Some (Some k) → times j (set slots i None) + cond {A = ℕ} (k == j) 1 0 ≡ times j slots
slot_left [] i k j h = cc
slot_left (None ∷ xs) zero k j h = cc
slot_left (Some y ∷ xs) zero k j h =
    let same : y ≡ k = cc in
    let e : cond {A = ℕ} (k == j) 1 0 ≡ cond {A = ℕ} (y == j) 1 0 = ap (λ z. cond {A = ℕ} (z == j) 1 0) (sym same) in
    omega (arith, e, sum_by-cons (λ x. cond {A = ℕ} (has_ticket j x) 1 0) (Some y) xs, sum_by-cons (λ x. cond {A = ℕ} (has_ticket j x) 1 0) None xs)
slot_left (x ∷ xs) (suc i) k j h = omega (arith, sum_by-cons (λ x. cond {A = ℕ} (has_ticket j x) 1 0) x (set xs i None), sum_by-cons (λ x. cond {A = ℕ} (has_ticket j x) 1 0) x xs, slot_left xs i k j h)

pub held_put : (slots : List (Option ℕ)) (i k : ℕ) → slice_get slots i ≡ Some None → held (set slots i (Some k)) ≡ held slots + 1
held_put [] i k h = cc
held_put (None ∷ xs) zero k h = omega (arith, sum_by-cons (λ x. cond {A = ℕ} (has_any x) 1 0) (Some k) xs, sum_by-cons (λ x. cond {A = ℕ} (has_any x) 1 0) None xs)
held_put (Some y ∷ xs) zero k h = cc
held_put (x ∷ xs) (suc i) k h = omega (arith, sum_by-cons (λ x. cond {A = ℕ} (has_any x) 1 0) x (set xs i (Some k)), sum_by-cons (λ x. cond {A = ℕ} (has_any x) 1 0) x xs, held_put xs i k h)

pub held_left : (slots : List (Option ℕ)) (i k : ℕ) → slice_get slots i ≡ Some (Some k) → held (set slots i None) + 1 ≡ held slots
held_left [] i k h = cc
held_left (None ∷ xs) zero k h = cc
held_left (Some y ∷ xs) zero k h = omega (arith, sum_by-cons (λ x. cond {A = ℕ} (has_any x) 1 0) (Some y) xs, sum_by-cons (λ x. cond {A = ℕ} (has_any x) 1 0) None xs)
held_left (x ∷ xs) (suc i) k h = omega (arith, sum_by-cons (λ x. cond {A = ℕ} (has_any x) 1 0) x (set xs i None), sum_by-cons (λ x. cond {A = ℕ} (has_any x) 1 0) x xs, held_left xs i k h)

-- no more slots have a ticket than there are
pub held_few : (slots : List (Option ℕ)) → held slots ≤ length slots
held_few [] = omega arith
held_few (None ∷ xs) = omega (arith, sum_by-cons (λ x. cond {A = ℕ} (has_any x) 1 0) None xs, held_few xs)
held_few (Some y ∷ xs) = omega (arith, sum_by-cons (λ x. cond {A = ℕ} (has_any x) 1 0) (Some y) xs, held_few xs)

-- where no slot has a ticket, none has this one
pub none_out : (slots : List (Option ℕ)) (k : ℕ) → held slots ≡ 0 → times k slots ≡ 0
none_out [] k h = refl
none_out (None ∷ xs) k h = sum_by-cons (λ x. cond {A = ℕ} (has_ticket k x) 1 0) None xs ∙ omega (arith, none_out xs k (omega (arith, h, sum_by-cons (λ x. cond {A = ℕ} (has_any x) 1 0) None xs)))
none_out (Some y ∷ xs) k h = absurd (omega (arith, h, sum_by-cons (λ x. cond {A = ℕ} (has_any x) 1 0) (Some y) xs))

none_held : (n : ℕ) → held (replicate n None) ≡ 0
none_held zero = refl
none_held (suc n) = sum_by-cons (λ x. cond {A = ℕ} (has_any x) 1 0) None (replicate n None) ∙ omega (arith, none_held n)

pub held_none : (slots : List (Option ℕ)) (n : ℕ) → slots ≡ replicate n None → held slots ≡ 0
held_none slots n is = ap held is ∙ none_held n

-- what stands in a slot
get_set_here : (xs : List (Option ℕ)) (i : ℕ) (v : Option ℕ) → i < length xs → slice_get (set xs i v) i ≡ Some v
get_set_here [] i v lt = absurd (omega arith)
get_set_here (x ∷ xs) zero v lt = refl
get_set_here (x ∷ xs) (suc i) v lt = get_set_here xs i v (omega arith)

get_set_else : (xs : List (Option ℕ)) (i j : ℕ) (v : Option ℕ) → j ≢ i → slice_get (set xs i v) j ≡ slice_get xs j
get_set_else [] i j v apart = refl
get_set_else (x ∷ xs) zero zero v apart = absurd (apart refl)
get_set_else (x ∷ xs) zero (suc j) v apart = refl
get_set_else (x ∷ xs) (suc i) zero v apart = refl
get_set_else (x ∷ xs) (suc i) (suc j) v apart = get_set_else xs i j v (λ e. apart (ap (λ n. suc n) e))

pub split : (i j : ℕ) → (i ≡ j) ⊎ (i ≢ j)
split i j = same_or (i == j) i j refl
  where
    same_or : (b : Bool) (i j : ℕ) → (i == j) ≡ b → (i ≡ j) ⊎ (i ≢ j)
    same_or true i j h = inl (grind (arith, nat_tests))
    same_or false i j h = inr (λ e. grind (arith, nat_tests))

-- one more entry of a worker
pub tickets_note : (slots rest : List (Option ℕ)) (log : List Entry) (x : Note) (i s : ℕ) → IsHeld slots log → s ≡ 2 + i → rest ≡ set slots i (after_note (pending (own_by (2 + i) log)) x) → IsHeld rest (log ++ entry s x ∷ [])
tickets_note slots rest log x i s h is now j lt =
    let o = after_note (pending (own_by (2 + i) log)) x in
    let within : j < length slots = omega (arith, lt, ap length now, length-set slots i o) in
    ⊎_elim
    (λ (e : i ≡ j).
    let P : ℕ → Type 0 = λ (n : ℕ). slice_get rest n ≡ Some (pending (own_by (2 + n) (log ++ entry s x ∷ []))) in
    subst P e (ap (λ xs. slice_get xs i) now ∙ (get_set_here slots i o (omega (arith, e, within)) ∙ ap Some (sym (ap pending (own_here log s (2 + i) x is) ∙ pending_push None (own_by (2 + i) log) (entry s x))))))
    (λ (n : i ≢ j). ap (λ xs. slice_get xs j) now ∙ (get_set_else slots i j o (λ e. n (sym e)) ∙ (h j within ∙ ap (λ xs. Some (pending xs)) (sym (own_else log s (2 + j) x (λ e. n (omega (arith, is, e))))))))
    (split i j)

-- one more entry that leaves what its seat has out as it is
pub tickets_silent : (slots : List (Option ℕ)) (log : List Entry) (x : Note) (s : ℕ) → ((o : Option ℕ) → after_note o x ≡ o) → IsHeld slots log → IsHeld slots (log ++ entry s x ∷ [])
tickets_silent slots log x s same h j lt =
    ⊎_elim
    (λ (e : s ≡ 2 + j). h j lt ∙ ap Some (sym (ap pending (own_here log s (2 + j) x e) ∙ (pending_push None (own_by (2 + j) log) (entry s x) ∙ same (pending (own_by (2 + j) log))))))
    (λ (n : s ≢ 2 + j). h j lt ∙ ap (λ xs. Some (pending xs)) (sym (own_else log s (2 + j) x n)))
    (split s (2 + j))

-- one more entry of the caller or of the ticker
pub tickets_other : (slots : List (Option ℕ)) (log : List Entry) (x : Note) (s : ℕ) → IsHeld slots log → s < 2 → IsHeld slots (log ++ entry s x ∷ [])
tickets_other slots log x s h few j lt = h j lt ∙ ap (λ xs. Some (pending xs)) (sym (own_else log s (2 + j) x (λ e. absurd (omega (arith, e, few)))))

get_none : (n i : ℕ) → i < n → slice_get {X = Option ℕ} (replicate n None) i ≡ Some None
get_none zero i lt = absurd (omega arith)
get_none (suc n) zero lt = refl
get_none (suc n) (suc i) lt = get_none n i (omega arith)

-- before the run
pub tickets_first : (n : ℕ) (log : List Entry) → ((q : ℕ) → 0 < q → own_by q log ≡ []) → IsHeld (replicate n None) log
tickets_first n log none i lt = get_none n i (omega (arith, lt, length-replicate {A = Option ℕ} n None)) ∙ ap (λ xs. Some (pending xs)) (sym (none (2 + i) (omega arith)))
