-- The end of the last kept entry of a series is that of the one that going back finds.
use Rattle.std.proofs.Common.{◌≡◌, ℕ, zero, suc, ◌<◌, ◌≤◌, Bool, true, false, ◌&&◌, List, [], ◌∷◌, ◌++◌, length, take, reverse, if◌then◌else◌, refl, sym, ap, ap₂, ◌∙◌, arith, slice_get, Some, None, Option, option_map, take-suc, take_all}
use Rattle.std.proofs.lemmas.Option.{get_or_from_slice_get, none-some}
use Rattle.std.proofs.lemmas.List.{reverse-append}
use Rattle.label_set.specs.Same.{sets_decide}
use Rattle.label_set.specs.declared.texts.Pair.{Pair}
use Rattle.report_samples.specs.declared.entries.Entry.{Entry}
use Rattle.appender_book.specs.Index.{is_of_set, is_kept_one, is_kept_with, kept_end, is_series, entry_before}
use Rattle.appender_book.specs.Verdicts.{verdict_at, verdict_behind, verdict_after, last_kept, is_kept, is_of}

-- the verdict of the entry at a place
pub verdict_here : (es : List Entry) (n : ℕ) (x : Entry) → slice_get es n ≡ Some x → verdict_at es n ≡ Some (verdict_behind (reverse (take n es)) x)
unfolding verdict_at
verdict_here es n x here = ap (option_map (verdict_behind (reverse (take n es)))) here

pub none_here : {P : Type 0} (es : List Entry) (n : ℕ) → n < length es → slice_get es n ≡ None → P
none_here [] n lt h = absurd (omega arith)
none_here (e ∷ es) zero lt h = absurd (none-some e (sym h))
none_here (e ∷ es) (suc n) lt h = none_here es n (omega arith) h

-- the entries to a place, the last first
pub back : (es : List Entry) (n : ℕ) (x : Entry) → n < length es → slice_get es n ≡ Some x → reverse (take (suc n) es) ≡ x ∷ reverse (take n es)
back es n x lt here = ap reverse (take-suc es n x lt ∙ ap (λ (y : Entry). take n es ++ y ∷ []) (get_or_from_slice_get es n x x here)) ∙ reverse-append (take n es) (x ∷ [])

and_turned : (a b c : Bool) → (a ≡ true → b ≡ c) → (b && a) ≡ (a && c)
and_turned true true c h = h refl
and_turned true false c h = h refl
and_turned false true c h = refl
and_turned false false c h = refl

-- an entry passes here where going back stops there
same_stop : (es : List Entry) (series : List Pair) (n : ℕ) (x : Entry) → slice_get es n ≡ Some x →
    is_kept_with es (is_series series) n ≡ (is_of series x && is_kept (verdict_after (last_kept series (reverse (take n es))) x))
unfolding is_kept_with
same_stop es series n x here =
    ap₂ (λ a b. a && b) (ap is_kept_one (verdict_here es n x here)) (ap (is_of_set (is_series series)) here)
    ∙ and_turned (is_of series x) (is_kept (verdict_behind (reverse (take n es)) x)) (is_kept (verdict_after (last_kept series (reverse (take n es))) x))
    (λ t. ap (λ (s : List Pair). is_kept (verdict_after (last_kept s (reverse (take n es))) x)) (sym ((sets_decide series x.series).0 t)))

found_by : (es : List Entry) (n m : ℕ) (x : Entry) (r : Option Entry) → slice_get es n ≡ Some x → entry_before es m ≡ r → (b : Bool) →
    entry_before es (if b then suc n else m) ≡ (if b then Some x else r)
found_by es n m x r here ih true = here
found_by es n m x r here ih false = ih

found_more : (es : List Entry) (series : List Pair) (n : ℕ) (x : Entry) → slice_get es n ≡ Some x →
    entry_before es (kept_end es (is_series series) n) ≡ last_kept series (reverse (take n es)) →
    entry_before es (kept_end es (is_series series) (suc n)) ≡ last_kept series (x ∷ reverse (take n es))
found_more es series n x here ih =
    found_by es n (kept_end es (is_series series) n) x (last_kept series (reverse (take n es))) here ih (is_kept_with es (is_series series) n)
    ∙ ap (λ b. if b then Some x else last_kept series (reverse (take n es))) (same_stop es series n x here)

found_next : (es : List Entry) (series : List Pair) (n : ℕ) → n < length es → (o : Option Entry) → slice_get es n ≡ o →
    entry_before es (kept_end es (is_series series) n) ≡ last_kept series (reverse (take n es)) →
    entry_before es (kept_end es (is_series series) (suc n)) ≡ last_kept series (reverse (take (suc n) es))
found_next es series n lt None at ih = none_here es n lt at
found_next es series n lt (Some x) at ih = found_more es series n x at ih ∙ ap (last_kept series) (sym (back es n x lt at))

-- the entry that the index leads to is the one that going back finds
pub entry_found : (es : List Entry) (series : List Pair) (n : ℕ) → n ≤ length es →
    entry_before es (kept_end es (is_series series) n) ≡ last_kept series (reverse (take n es))
entry_found es series zero h = refl
entry_found es series (suc n) h = found_next es series n (omega arith) (slice_get es n) refl (entry_found es series n (omega arith))

-- of all entries
pub found_of_all : (es : List Entry) (series : List Pair) → entry_before es (kept_end es (is_series series) (length es)) ≡ last_kept series (reverse es)
found_of_all es series = entry_found es series (length es) (omega arith) ∙ ap (λ (before : List Entry). last_kept series (reverse before)) (take_all (length es) es (omega arith))
