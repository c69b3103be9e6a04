-- Verdicts stand, and the kept entries of a series rise.
use Rattle.std.proofs.Common.{◌≡◌, ◌⊎◌, inl, inr, ℕ, zero, suc, ◌<◌, ◌≤◌, ℤ, ◌<ℤ◌, ◌≤ℤ◌, Bool, true, false, ◌&&◌, List, [], ◌∷◌, ◌++◌, length, take, reverse, if◌then◌else◌, refl, sym, ap, ap₂, ◌∙◌, true≢false, arith, slice_get, Some, None, Option, option_map, Ordering, Less, Equal, Greater, int_cmp, subst}
use Rattle.std.proofs.lemmas.List.{take-append-le}
use Rattle.std.proofs.lemmas.Option.{same_Some, slice_get_within}
use Rattle.std.proofs.lemmas.Cmp.{int_ranked}
use Rattle.std.proofs.lemmas.Int.{ints}
use Rattle.label_set.specs.Same.{sets_decide}
use Rattle.label_set.specs.declared.texts.Pair.{Pair}
use Rattle.report_samples.specs.declared.entries.Entry.{Entry}
use Rattle.appender_book.specs.declared.verdicts.Verdict.TheVariants.{Kept}
use Rattle.appender_book.specs.Laws.{VerdictsStand, KeptRise}
use Rattle.appender_book.specs.Verdicts.{verdict_at, verdict_behind, verdict_after, verdict_by, same_value, last_kept, is_kept, is_of}
use Rattle.appender_book.proofs.VerdictLemmas.{verdict_here, none_here, back}

get_front : {X : Type 0} (xs ys : List X) (i : ℕ) → i < length xs → slice_get (xs ++ ys) i ≡ slice_get xs i
get_front [] ys i lt = absurd (omega arith)
get_front (x ∷ xs) ys zero lt = refl
get_front (x ∷ xs) ys (suc i) lt = get_front xs ys i (omega arith)

pub verdicts_stand : VerdictsStand
unfolding verdict_at
verdicts_stand es later i lt =
    ap₂ (λ (before : List Entry) (o : Option Entry). option_map (verdict_behind (reverse before)) o) (take-append-le i es later (omega arith)) (get_front es later i lt)

-- this one is found, and isn't earlier than that entry
record IsLater (found : Option Entry) (a : Entry) : Type 0 where
  pub entry : Entry
  pub is : found ≡ Some entry
  pub later : a.moment ≤ℤ entry.moment

less_only : (r : Ordering) (same : Bool) → is_kept (verdict_by r same) ≡ true → r ≡ Less
less_only Less same h = refl
less_only Greater same h = absurd (true≢false (sym h))
less_only Equal true h = absurd (true≢false (sym h))
less_only Equal false h = absurd (true≢false (sym h))

-- what is kept after an entry is later
kept_after : (k x : Entry) → is_kept (verdict_after (Some k) x) ≡ true → k.moment <ℤ x.moment
kept_after k x h = int_ranked k.moment x.moment Less (sym (less_only (int_cmp k.moment x.moment) (same_value k.value x.value) h))

later_still : (a k x : ℤ) → a ≤ℤ k → k <ℤ x → a ≤ℤ x
later_still a k x le lt = omega (arith, ints)

later_yet : (a k x : ℤ) → a ≤ℤ k → k <ℤ x → a <ℤ x
later_yet a k x le lt = omega (arith, ints)

not_earlier : (a : ℤ) → a ≤ℤ a
not_earlier a = omega (arith, ints)

both : (a b : Bool) → a ≡ true → b ≡ true → (a && b) ≡ true
both true b h at = at
both false b h at = absurd (true≢false (sym h))

second_of : (a b : Bool) → (a && b) ≡ true → b ≡ true
second_of true b h = h
second_of false b h = absurd (true≢false (sym h))

found_itself : (series : List Pair) (x : Entry) (before : List Entry) → x.series ≡ series → verdict_behind before x ≡ Kept → IsLater (last_kept series (x ∷ before)) x
found_itself series x before same kept = record {
  entry = x;
  is = ap (λ b. if b then Some x else last_kept series before)
      (both (is_of series x) (is_kept (verdict_after (last_kept series before) x)) ((sets_decide series x.series).1 (sym same))
      (ap (λ (s : List Pair). is_kept (verdict_after (last_kept s before) x)) (sym same) ∙ ap is_kept kept));
  later = not_earlier x.moment;
}

found_later : (series : List Pair) (x : Entry) (before : List Entry) (a : Entry) → IsLater (last_kept series before) a → IsLater (last_kept series (x ∷ before)) a
found_later series x before a l = by (is_of series x && is_kept (verdict_after (last_kept series before) x)) refl
  where
    by : (b : Bool) → (is_of series x && is_kept (verdict_after (last_kept series before) x)) ≡ b → IsLater (last_kept series (x ∷ before)) a
    by true at = record {
      entry = x;
      is = ap (λ b. if b then Some x else last_kept series before) at;
      later =
          later_still a.moment l.entry.moment x.moment l.later
          (kept_after l.entry x (ap (λ (o : Option Entry). is_kept (verdict_after o x)) (sym l.is) ∙ second_of (is_of series x) (is_kept (verdict_after (last_kept series before) x)) at));
    }
    by false at = record {
      entry = l.entry;
      is = ap (λ b. if b then Some x else last_kept series before) at ∙ l.is;
      later = l.later;
    }

-- it was kept
kept_here : (es : List Entry) (i : ℕ) (a : Entry) → slice_get es i ≡ Some a → verdict_at es i ≡ Some Kept → verdict_behind (reverse (take i es)) a ≡ Kept
kept_here es i a here kept = same_Some (verdict_behind (reverse (take i es)) a) Kept (sym (verdict_here es i a here) ∙ kept)

here_or_before : (i n : ℕ) → i < suc n → (i ≡ n) ⊎ (i < n)
here_or_before zero zero lt = inl refl
here_or_before zero (suc n) lt = inr (omega arith)
here_or_before (suc i) zero lt = absurd (omega arith)
here_or_before (suc i) (suc n) lt = by (here_or_before i n (omega arith))
  where
    by : (i ≡ n) ⊎ (i < n) → (suc i ≡ suc n) ⊎ (suc i < suc n)
    by (inl e) = inl (ap suc e)
    by (inr l) = inr (omega arith)

module _ (es : List Entry) (series : List Pair) (i : ℕ) (a : Entry) (here : slice_get es i ≡ Some a) (same : a.series ≡ series) (kept : verdict_at es i ≡ Some Kept) where
  later_at : (n : ℕ) (x : Entry) → slice_get es n ≡ Some x → (i ≡ n) ⊎ (i < n) → (i < n → IsLater (last_kept series (reverse (take n es))) a) →
      IsLater (last_kept series (x ∷ reverse (take n es))) a
  later_at n x at (inl e) ih =
      let y : x ≡ a = same_Some x a (sym at ∙ ap (slice_get es) (sym e) ∙ here) in
      subst (λ (z : Entry). IsLater (last_kept series (z ∷ reverse (take n es))) a) (sym y)
      (found_itself series a (reverse (take n es)) same (ap (λ k. verdict_behind (reverse (take k es)) a) (sym e) ∙ kept_here es i a here kept))
  later_at n x at (inr l) ih = found_later series x (reverse (take n es)) a (ih l)

  later_by : (n : ℕ) → n < length es → i < suc n → (o : Option Entry) → slice_get es n ≡ o → (i < n → IsLater (last_kept series (reverse (take n es))) a) →
      IsLater (last_kept series (reverse (take (suc n) es))) a
  later_by n lt before None at ih = none_here es n lt at
  later_by n lt before (Some x) at ih =
      subst (λ (z : List Entry). IsLater (last_kept series z) a) (sym (back es n x lt at)) (later_at n x at (here_or_before i n before) ih)

  later_than : (n : ℕ) → n ≤ length es → i < n → IsLater (last_kept series (reverse (take n es))) a
  later_than zero le lt = absurd (omega arith)
  later_than (suc n) le lt = later_by n (omega arith) lt (slice_get es n) refl (later_than n (omega arith))

pub kept_rise : KeptRise
kept_rise es i j a b lt here there same first second =
    let within : j < length es = slice_get_within es j b there in
    let l = later_than es b.series i a here same first j (omega arith) lt in
    later_yet a.moment l.entry.moment b.moment l.later
    (kept_after l.entry b (ap (λ (o : Option Entry). is_kept (verdict_after o b)) (sym l.is) ∙ ap is_kept (kept_here es j b there second)))
