-- The index of one entry more, of a series that is known or a new one.
use Rattle.std.proofs.Common.{◌≡◌, ◌≢◌, ◌⊎◌, inl, inr, ℕ, zero, suc, ◌+◌, ◌<◌, ◌≤◌, Bool, true, false, ◌&&◌, List, [], ◌∷◌, ◌++◌, length, map, reverse, set, nat_eq, if◌then◌else◌, slice_get, Some, Option, unwrap_or, refl, sym, ap, ap₂, ◌∙◌, subst, true≢false, arith}
use Rattle.std.proofs.lemmas.List.{map-append, length-set, length-map, get_or-set_same, get_or-set_other}
use Rattle.std.proofs.lemmas.Option.{unwrap_or-slice_get, same_Some}
use Rattle.std.specs.declared.hash.DefaultHasher.{DefaultHasher}
use Rattle.label_set.specs.Same.{sets_decide}
use Rattle.label_set.specs.declared.texts.Pair.{Pair}
use Rattle.report_samples.specs.declared.entries.Entry.{Entry}
use Rattle.appender_book.specs.declared.verdicts.Verdict.{Verdict}
use Rattle.appender_book.specs.declared.index.Index.{Index}
use Rattle.appender_book.specs.declared.index.Found.{Found}
use Rattle.appender_book.specs.declared.index.Found.TheVariants.{Known, New}
use Rattle.appender_book.specs.Index.{IsIndex, IsNoted, IsFound, end_of, has_hash, hash_at, hash_in, hash_of, is_series, kept_end, number_in, number_of, number_of_hash, passes_at, set_before, sets_of}
use Rattle.appender_book.specs.Series.{series_of}
use Rattle.appender_book.specs.Verdicts.{verdict_behind, is_kept}
use Rattle.appender_book.proofs.EndLemmas.{end_within}
use Rattle.appender_book.proofs.NumberLemmas.{places_more, places_left, series_known, series_begun, stands_nowhere}
use Rattle.appender_book.proofs.IndexLemmas.{three, kept_more, verdicts_more, new_kept}
use Rattle.appender_book.proofs.SeriesLemmas.{slice_get_left, slice_get_end, length_more, sets_stay, sets_renewed, sets_begun, set_there, passes_there, number_passes, number_within, passes_left, passes_end, passes_past, number_stays, number_more}

-- the ends with another one at a place
end_renewed : (ns : List ℕ) (place n : ℕ) → place < length ns → end_of (set ns place n) (suc place) ≡ n
end_renewed ns place n lt = unwrap_or-slice_get (set ns place n) place 0 ∙ get_or-set_same ns place n 0 lt

end_left : (ns : List ℕ) (place n number : ℕ) → number ≢ suc place → end_of (set ns place n) number ≡ end_of ns number
end_left ns place n zero other = refl
end_left ns place n (suc m) other =
    unwrap_or-slice_get (set ns place n) m 0 ∙ get_or-set_other ns place m n 0 (λ e. other (ap suc e)) ∙ sym (unwrap_or-slice_get ns m 0)

-- two series that stand at one place are the same
series_at_once : (sets : List (Option (List Pair))) (x y : List Pair) (place : ℕ) → slice_get sets place ≡ Some (Some y) → passes_at sets (is_series x) place ≡ true → is_series x y ≡ true
series_at_once sets x y place at h = sym (passes_there sets (is_series x) place y at) ∙ h

set_read : (ns : List ℕ) (place v p n : ℕ) → slice_get (set ns place v) p ≡ Some n → (n ≡ v) ⊎ (slice_get ns p ≡ Some n)
set_read [] place v p n h = inr h
set_read (x ∷ ns) zero v zero n h = inl (sym (same_Some v n h))
set_read (x ∷ ns) zero v (suc p) n h = inr h
set_read (x ∷ ns) (suc place) v zero n h = inr h
set_read (x ∷ ns) (suc place) v (suc p) n h = set_read ns place v p n h

more_read : (ns : List ℕ) (v p n : ℕ) → slice_get (ns ++ v ∷ []) p ≡ Some n → (n ≡ v) ⊎ (slice_get ns p ≡ Some n)
more_read [] v zero n h = inl (sym (same_Some v n h))
more_read [] v (suc p) n h = inr h
more_read (x ∷ ns) v zero n h = inr h
more_read (x ∷ ns) v (suc p) n h = more_read ns v p n h

within_by : (es : List Entry) (e : Entry) (n : ℕ) → (n ≡ suc (length es)) ⊎ (n ≤ length es) → n ≤ length (es ++ e ∷ [])
within_by es e n (inl at) = let l = length_more es e in omega arith
within_by es e n (inr le) = let l = length_more es e in omega arith

either : {P Q R : Type 0} → (Q → R) → P ⊎ Q → P ⊎ R
either f (inl p) = inl p
either f (inr q) = inr (f q)

-- the ends where the series with a place has one more entry, kept or not
abbrev ends_by : List Entry → List ℕ → ℕ → Bool → List ℕ
ends_by es ends place kept = if kept then set ends place (suc (length es)) else ends

sets_known : (es : List Entry) (e : Entry) (old : Index) (place : ℕ) → IsIndex es old → slice_get (sets_of es old.ends.items) place ≡ Some (Some e.series) → (kept : Bool) →
    sets_of (es ++ e ∷ []) (ends_by es old.ends.items place kept) ≡ sets_of es old.ends.items
sets_known es e old place is at true = sets_renewed es e old.ends.items place is.within at
sets_known es e old place is at false = sets_stay es e old.ends.items is.within

count_known : (es : List Entry) (ends : List ℕ) (place : ℕ) (kept : Bool) → length (ends_by es ends place kept) ≡ length ends
count_known es ends place true = length-set ends place (suc (length es))
count_known es ends place false = refl

within_known : (es : List Entry) (e : Entry) (old : Index) (place : ℕ) → IsIndex es old → (kept : Bool) (p n : ℕ) →
    slice_get (ends_by es old.ends.items place kept) p ≡ Some n → n ≤ length (es ++ e ∷ [])
within_known es e old place is true p n h = within_by es e n (either (is.within p n) (set_read old.ends.items place (suc (length es)) p n h))
within_known es e old place is false p n h = within_by es e n (inr (is.within p n h))

ends_known : (es : List Entry) (e : Entry) (old : Index) (place : ℕ) → IsIndex es old → number_of es old.ends.items e.series ≡ suc place → (x : List Pair) →
    end_of (ends_by es old.ends.items place (is_kept (verdict_behind (reverse es) e))) (number_of es old.ends.items x) ≡ kept_end (es ++ e ∷ []) (is_series x) (length (es ++ e ∷ []))
ends_known es e old place is found x = by (is_kept (verdict_behind (reverse es) e)) (is_series x e.series) refl ∙ sym (kept_more es e (is_series x))
  where
    ends : List ℕ
    ends = old.ends.items

    sets : List (Option (List Pair))
    sets = sets_of es old.ends.items

    same : is_series x e.series ≡ true → number_of es old.ends.items x ≡ suc place
    same h = ap (number_of es old.ends.items) ((sets_decide x e.series).0 h) ∙ found

    here : slice_get sets place ≡ Some (Some e.series)
    here = set_there sets e.series place (number_passes (passes_at sets (is_series e.series)) (length ends) place found)

    other : is_series x e.series ≡ false → number_of es old.ends.items x ≢ suc place
    other h at = true≢false (sym (series_at_once sets x e.series place here (number_passes (passes_at sets (is_series x)) (length ends) place at)) ∙ h)

    by : (b t : Bool) → is_series x e.series ≡ t →
        end_of (ends_by es old.ends.items place b) (number_of es old.ends.items x) ≡ (if b && t then suc (length es) else kept_end es (is_series x) (length es))
    by false t h = is.ends x
    by true true h = ap (end_of (set ends place (suc (length es)))) (same h) ∙ end_renewed ends place (suc (length es)) (number_within (passes_at sets (is_series e.series)) (length ends) place found)
    by true false h = end_left ends place (suc (length es)) (number_of es old.ends.items x) (other h) ∙ is.ends x

-- of a series that is known
pub known_more : (es : List Entry) (e : Entry) (old new : Index) (place : ℕ) (verdict : Verdict) → IsIndex es old → verdict ≡ verdict_behind (reverse es) e →
    number_of es old.ends.items e.series ≡ suc place → IsNoted old new (suc (length es)) (Known place) verdict → IsIndex (es ++ e ∷ []) new
known_more es e old new place verdict is judged found noted =
    let sets = sets_of es old.ends.items in
    let here = set_there sets e.series place (number_passes (passes_at sets (is_series e.series)) (length old.ends.items) place found) in
    let ends : new.ends.items ≡ ends_by es old.ends.items place (is_kept verdict) = noted.ends in
    let sets_new : sets_of (es ++ e ∷ []) new.ends.items ≡ sets = ap (sets_of (es ++ e ∷ [])) ends ∙ sets_known es e old place is here (is_kept verdict) in
    let count : length new.ends.items ≡ length old.ends.items = ap length ends ∙ count_known es old.ends.items place (is_kept verdict) in
    let number : (x : List Pair) → number_of (es ++ e ∷ []) new.ends.items x ≡ number_of es old.ends.items x =
    λ x. ap₂ (λ (ss : List (Option (List Pair))) n. number_in ss (is_series x) n) sets_new count in
    record {
      judged = ap length noted.verdicts ∙ length_more old.verdicts.items verdict ∙ ap suc is.judged ∙ sym (length_more es e);
      verdicts = verdicts_more es e old new (suc (length es)) (Known place) verdict is judged noted;
      placed = ap length noted.places ∙ length_more old.places.items place ∙ ap suc is.placed ∙ sym (length_more es e);
      places = λ p n at.
          ap (λ (ss : List (Option (List Pair))). slice_get ss n) sets_new
          ∙ places_more es e sets old.places.items place is.placed is.places here p n (ap (λ (ns : List ℕ). slice_get ns p) (sym noted.places) ∙ at);
      series = sets_new ∙ is.series ∙ ap (map Some) (sym (series_known es e sets place is.series here));
      counted = ap length noted.earlier ∙ is.counted ∙ sym count;
      within = λ p n at. within_known es e old place is (is_kept verdict) p n (ap (λ (ns : List ℕ). slice_get ns p) (sym ends) ∙ at);
      ends = λ x.
          ap₂ end_of (ends ∙ ap (λ v. ends_by es old.ends.items place (is_kept v)) judged) (number x) ∙ ends_known es e old place is found x;
      alone = λ x p h. number x ∙ is.alone x p (sym (ap (λ (ss : List (Option (List Pair))). passes_at ss (is_series x) p) sets_new) ∙ h);
      earlier = λ i lt.
          ap (λ (ns : List ℕ). slice_get ns i) noted.earlier ∙ is.earlier i (subst (λ (n : ℕ). i < n) count lt)
          ∙ ap₂ (λ (ss : List (Option (List Pair))) (h : DefaultHasher). Some (number_in ss (has_hash h (hash_at h ss i)) i)) (sym sets_new) (sym noted.hasher);
      last = λ h.
          noted.last h ∙ is.last h ∙ ap (λ (hasher : DefaultHasher). number_in sets (has_hash hasher h) (length old.ends.items)) (sym noted.hasher)
          ∙ ap₂ (λ (ss : List (Option (List Pair))) n. number_in ss (has_hash new.hasher h) n) (sym sets_new) (sym count);
    }

end_before : (ns : List ℕ) (n m : ℕ) → m ≤ length ns → end_of (ns ++ n ∷ []) m ≡ end_of ns m
end_before ns n zero le = refl
end_before ns n (suc m) le = ap (λ o. unwrap_or o 0) (slice_get_left ns n m (omega arith))

end_last : (ns : List ℕ) (n : ℕ) → end_of (ns ++ n ∷ []) (suc (length ns)) ≡ n
end_last ns n = ap (λ o. unwrap_or o 0) (slice_get_end ns n)

hash_end : (hasher : DefaultHasher) (sets : List (Option (List Pair))) (set : List Pair) → hash_at hasher (sets ++ Some set ∷ []) (length sets) ≡ hash_of hasher set
hash_end hasher sets set = ap (hash_in hasher) (slice_get_end sets (Some set))

hash_left : (hasher : DefaultHasher) (sets : List (Option (List Pair))) (set : List Pair) (i : ℕ) → i < length sets → hash_at hasher (sets ++ Some set ∷ []) i ≡ hash_at hasher sets i
hash_left hasher sets set i lt = ap (hash_in hasher) (slice_get_left sets (Some set) i lt)

ends_begun : (es : List Entry) (e : Entry) (old : Index) → IsIndex es old → number_of es old.ends.items e.series ≡ 0 → (x : List Pair) →
    end_of (old.ends.items ++ suc (length es) ∷ []) (if is_series x e.series then suc (length old.ends.items) else number_of es old.ends.items x)
    ≡ kept_end (es ++ e ∷ []) (is_series x) (length (es ++ e ∷ []))
ends_begun es e old is found x =
    by (is_series x e.series) ∙ sym (kept_more es e (is_series x) ∙ ap (λ v. if is_kept v && is_series x e.series then suc (length es) else kept_end es (is_series x) (length es)) (new_kept es old e is found))
  where
    by : (t : Bool) → end_of (old.ends.items ++ suc (length es) ∷ []) (if t then suc (length old.ends.items) else number_of es old.ends.items x)
        ≡ (if t then suc (length es) else kept_end es (is_series x) (length es))
    by true = end_last old.ends.items (suc (length es))
    by false = end_before old.ends.items (suc (length es)) (number_of es old.ends.items x) (end_within (passes_at (sets_of es old.ends.items) (is_series x)) (length old.ends.items)) ∙ is.ends x

-- a number that a new series leaves alone
alone_begun : (es : List Entry) (e : Entry) (old : Index) → IsIndex es old → number_of es old.ends.items e.series ≡ 0 → (x : List Pair) (p : ℕ) →
    passes_at (sets_of es old.ends.items ++ Some e.series ∷ []) (is_series x) p ≡ true →
    (if is_series x e.series then suc (length old.ends.items) else number_of es old.ends.items x) ≡ suc p
alone_begun es e old is found x p h = by (three p (length sets))
  where
    sets : List (Option (List Pair))
    sets = sets_of es old.ends.items

    count : length sets ≡ length old.ends.items
    count = length-map old.ends.items (set_before es)

    before : number_of es old.ends.items x ≡ suc p → (t : Bool) → is_series x e.series ≡ t →
        (if t then suc (length old.ends.items) else number_of es old.ends.items x) ≡ suc p
    before at true q = let n : 0 ≡ suc p = sym found ∙ ap (number_of es old.ends.items) (sym ((sets_decide x e.series).0 q)) ∙ at in absurd (omega arith)
    before at false q = at

    by : (p < length sets) ⊎ ((p ≡ length sets) ⊎ (length sets < p)) → (if is_series x e.series then suc (length old.ends.items) else number_of es old.ends.items x) ≡ suc p
    by (inl lt) = before (is.alone x p (sym (passes_left sets (Some e.series) (is_series x) p lt) ∙ h)) (is_series x e.series) refl
    by (inr (inl at)) =
        ap (λ b. if b then suc (length old.ends.items) else number_of es old.ends.items x)
        (sym (passes_end sets e.series (is_series x)) ∙ ap (passes_at (sets ++ Some e.series ∷ []) (is_series x)) (sym at) ∙ h)
        ∙ ap suc (sym count ∙ sym at)
    by (inr (inr gt)) = absurd (true≢false (sym h ∙ passes_past (sets ++ Some e.series ∷ []) (is_series x) p (let l = length_more sets (Some e.series) in omega arith)))

earlier_begun : (es : List Entry) (e : Entry) (old : Index) (hash last : ℕ) → IsIndex es old → hash ≡ hash_of old.hasher e.series → last ≡ number_of_hash old hash → (i : ℕ) →
    i < suc (length old.ends.items) → slice_get (old.earlier.items ++ last ∷ []) i
    ≡ Some (number_in (sets_of es old.ends.items ++ Some e.series ∷ []) (has_hash old.hasher (hash_at old.hasher (sets_of es old.ends.items ++ Some e.series ∷ []) i)) i)
earlier_begun es e old hash last is hashed first i lt = by (three i (length old.ends.items))
  where
    sets : List (Option (List Pair))
    sets = sets_of es old.ends.items

    count : length sets ≡ length old.ends.items
    count = length-map old.ends.items (set_before es)

    here : last ≡ number_in (sets ++ Some e.series ∷ []) (has_hash old.hasher (hash_at old.hasher (sets ++ Some e.series ∷ []) (length sets))) (length sets)
    here =
        first ∙ is.last hash ∙ ap (number_in sets (has_hash old.hasher hash)) (sym count)
        ∙ sym (number_stays sets (Some e.series) (has_hash old.hasher hash) (length sets) (omega arith))
        ∙ ap (λ n. number_in (sets ++ Some e.series ∷ []) (has_hash old.hasher n) (length sets)) (hashed ∙ sym (hash_end old.hasher sets e.series))

    by : (i < length old.ends.items) ⊎ ((i ≡ length old.ends.items) ⊎ (length old.ends.items < i)) → slice_get (old.earlier.items ++ last ∷ []) i
        ≡ Some (number_in (sets ++ Some e.series ∷ []) (has_hash old.hasher (hash_at old.hasher (sets ++ Some e.series ∷ []) i)) i)
    by (inl below) =
        let counted = is.counted in
        let was = count in
        slice_get_left old.earlier.items last i (omega arith) ∙ is.earlier i below
        ∙ ap Some (sym (number_stays sets (Some e.series) (has_hash old.hasher (hash_at old.hasher sets i)) i (omega arith))
        ∙ ap (λ n. number_in (sets ++ Some e.series ∷ []) (has_hash old.hasher n) i) (sym (hash_left old.hasher sets e.series i (omega arith))))
    by (inr (inl at)) =
        ap (slice_get (old.earlier.items ++ last ∷ [])) (at ∙ sym is.counted) ∙ slice_get_end old.earlier.items last
        ∙ ap Some (here ∙ ap (λ n. number_in (sets ++ Some e.series ∷ []) (has_hash old.hasher (hash_at old.hasher (sets ++ Some e.series ∷ []) n)) n) (count ∙ sym at))
    by (inr (inr gt)) = absurd (omega arith)

-- of a new one
pub begun_more : (es : List Entry) (e : Entry) (old new : Index) (hash last : ℕ) (verdict : Verdict) → IsIndex es old → verdict ≡ verdict_behind (reverse es) e →
    number_of es old.ends.items e.series ≡ 0 → hash ≡ hash_of old.hasher e.series → last ≡ number_of_hash old hash →
    IsNoted old new (suc (length es)) (New hash last) verdict → IsIndex (es ++ e ∷ []) new
begun_more es e old new hash last verdict is judged found hashed first noted =
    let sets = sets_of es old.ends.items in
    let more = sets ++ Some e.series ∷ [] in
    let was : length sets ≡ length old.ends.items = length-map old.ends.items (set_before es) in
    let sets_new : sets_of (es ++ e ∷ []) new.ends.items ≡ more = ap (sets_of (es ++ e ∷ [])) noted.ends ∙ sets_begun es e old.ends.items is.within in
    let count : length new.ends.items ≡ suc (length old.ends.items) = ap length noted.ends ∙ length_more old.ends.items (suc (length es)) in
    let number : (test : List Pair → Bool) →
    number_in (sets_of (es ++ e ∷ []) new.ends.items) test (length new.ends.items) ≡ (if test e.series then suc (length old.ends.items) else number_in sets test (length old.ends.items)) =
    λ test.
    ap₂ (λ (ss : List (Option (List Pair))) n. number_in ss test n) sets_new (count ∙ ap suc (sym was)) ∙ number_more sets e.series test
    ∙ ap (λ n. if test e.series then suc n else number_in sets test n) was in
    record {
      judged = ap length noted.verdicts ∙ length_more old.verdicts.items verdict ∙ ap suc is.judged ∙ sym (length_more es e);
      verdicts = verdicts_more es e old new (suc (length es)) (New hash last) verdict is judged noted;
      placed = ap length noted.places ∙ length_more old.places.items (length old.ends.items) ∙ ap suc is.placed ∙ sym (length_more es e);
      places = λ p n at.
          ap (λ (ss : List (Option (List Pair))). slice_get ss n) sets_new
          ∙ places_more es e more old.places.items (length old.ends.items) is.placed (λ i m h. places_left sets (Some e.series) m _ (is.places i m h))
          (ap (slice_get more) (sym was) ∙ slice_get_end sets (Some e.series)) p n (ap (λ (ns : List ℕ). slice_get ns p) (sym noted.places) ∙ at);
      series =
          sets_new ∙ ap (λ (ss : List (Option (List Pair))). ss ++ Some e.series ∷ []) is.series
          ∙ sym (map-append Some (series_of es) (e.series ∷ []))
          ∙ ap (map Some) (sym (series_begun es e sets is.series (stands_nowhere es old e.series is found)));
      counted = ap length noted.earlier ∙ length_more old.earlier.items last ∙ ap suc is.counted ∙ sym count;
      within = λ p n at.
          within_by es e n (either (is.within p n) (more_read old.ends.items (suc (length es)) p n (ap (λ (ns : List ℕ). slice_get ns p) (sym noted.ends) ∙ at)));
      ends = λ x. ap₂ end_of noted.ends (number (is_series x)) ∙ ends_begun es e old is found x;
      alone = λ x p h.
          number (is_series x) ∙ alone_begun es e old is found x p (sym (ap (λ (ss : List (Option (List Pair))). passes_at ss (is_series x) p) sets_new) ∙ h);
      earlier = λ i lt.
          ap (λ (ns : List ℕ). slice_get ns i) noted.earlier ∙ earlier_begun es e old hash last is hashed first i (subst (λ (n : ℕ). i < n) count lt)
          ∙ ap₂ (λ (ss : List (Option (List Pair))) (h : DefaultHasher). Some (number_in ss (has_hash h (hash_at h ss i)) i)) (sym sets_new) (sym noted.hasher);
      last = λ h.
          let one : length old.ends.items + 1 ≡ suc (length old.ends.items) = omega arith in
          noted.last h ∙ ap₂ (λ m n. if nat_eq h hash then m else n) one (is.last h)
          ∙ ap (λ k. if nat_eq h k then suc (length old.ends.items) else number_in sets (has_hash old.hasher h) (length old.ends.items)) hashed
          ∙ sym (number (has_hash old.hasher h))
          ∙ ap (λ (hasher : DefaultHasher). number_in (sets_of (es ++ e ∷ []) new.ends.items) (has_hash hasher h) (length new.ends.items)) (sym noted.hasher);
    }

-- of any
pub one_more : (es : List Entry) (e : Entry) (old new : Index) (found : Found) (verdict : Verdict) → IsIndex es old → IsFound es old e.series found →
    verdict ≡ verdict_behind (reverse es) e → IsNoted old new (suc (length es)) found verdict → IsIndex (es ++ e ∷ []) new
one_more es e old new (Known place) verdict is found judged noted = known_more es e old new place verdict is judged found noted
one_more es e old new (New hash last) verdict is found judged noted = begun_more es e old new hash last verdict is judged found.0 found.1 found.2 noted
