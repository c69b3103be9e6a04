-- The index of no entries, and of one more.
use Rattle.std.proofs.Common.{◌≡◌, ◌⊎◌, inl, inr, ℕ, zero, suc, ◌+◌, ◌<◌, ◌≤◌, Bool, true, false, ◌&&◌, List, [], ◌∷◌, ◌++◌, length, map, take, reverse, nat_eq, if◌then◌else◌, slice_get, Some, None, Option, option_map, unwrap_or, refl, sym, ap, ap₂, ◌∙◌, subst, true≢false, arith}
use Rattle.std.proofs.lemmas.List.{take-append-le}
use Rattle.std.proofs.Math.Seq.{take-append_seam}
use Rattle.std.proofs.lemmas.Option.{slice_get_past}
use Rattle.std.specs.HashMap.{IsEmpty}
use Rattle.std.specs.Map.{lookup}
use Rattle.std.specs.declared.hash.DefaultHasher.{DefaultHasher}
use Rattle.label_set.specs.declared.texts.Pair.{Pair}
use Rattle.report_samples.specs.declared.entries.Entry.{Entry}
use Rattle.appender_book.specs.declared.verdicts.Verdict.{Verdict}
use Rattle.appender_book.specs.declared.verdicts.Verdict.TheVariants.{Kept}
use Rattle.appender_book.specs.declared.index.Index.{Index}
use Rattle.appender_book.specs.declared.index.Found.{Found}
use Rattle.appender_book.specs.Index.{HasSeriesRoom, IsIndex, IsNoted, IsSameIndex, end_of, entry_at, entry_before, entry_of_end, has_hash, hash_at, is_kept_one, is_kept_with, is_of_set, is_series, kept_end, number_in, number_of, passes_at, sets_of}
use Rattle.appender_book.specs.Series.{series_of}
use Rattle.appender_book.specs.Verdicts.{verdict_at, verdict_after, verdict_behind, is_kept, last_kept}
use Rattle.appender_book.proofs.EndLemmas.{end_alike}
use Rattle.appender_book.proofs.SeriesLemmas.{slice_get_left, slice_get_end, length_more, passes_past}
use Rattle.appender_book.proofs.VerdictLemmas.{verdict_here, found_of_all}

-- there is no verdict where there is no entry
no_verdict : (place : ℕ) → verdict_at [] place ≡ None
unfolding verdict_at
no_verdict place = refl

no_series : sets_of [] [] ≡ map Some (series_of [])
unfolding series_of
no_series = refl

none_passes : (ends : List ℕ) (test : List Pair → Bool) (place : ℕ) → ends ≡ [] → passes_at (sets_of [] ends) test place ≡ false
none_passes ends test place e = passes_past (sets_of [] ends) test place (let l : length (sets_of [] ends) ≡ 0 = ap (λ (ns : List ℕ). length (sets_of [] ns)) e in omega arith)

pub no_entries : (index : Index) → index.verdicts.items ≡ [] → index.places.items ≡ [] → index.ends.items ≡ [] → index.earlier.items ≡ [] → IsEmpty index.last → IsIndex [] index
no_entries index v p e b m =
    let none : length index.ends.items ≡ 0 = ap length e in
    record {
      judged = ap length v;
      verdicts = λ place. ap (λ (vs : List Verdict). slice_get vs place) v ∙ sym (no_verdict place);
      placed = ap length p;
      places = λ place series at. absurd (true≢false (ap is_there (sym at ∙ ap (λ (ns : List ℕ). slice_get ns place) p)));
      series = ap (sets_of []) e ∙ no_series;
      counted = ap length b ∙ sym none;
      within = λ place end at. absurd (true≢false (ap is_there (sym at ∙ ap (λ (ns : List ℕ). slice_get ns place) e)));
      ends = λ series. ap (λ (ns : List ℕ). end_of ns (number_of [] ns series)) e;
      alone = λ series place h. absurd (true≢false (sym h ∙ none_passes index.ends.items (is_series series) place e));
      earlier = λ place lt. absurd (omega arith);
      last = λ hash. ap (λ (ns : List (ℕ × ℕ)). unwrap_or (lookup (nat_eq hash) ns) 0) m ∙ sym (ap (λ (ns : List ℕ). number_in (sets_of [] ns) (has_hash index.hasher hash) (length ns)) e);
    }
  where
    is_there : Option ℕ → Bool
    is_there None = false
    is_there (Some n) = true

pub three : (i n : ℕ) → (i < n) ⊎ ((i ≡ n) ⊎ (n < i))
three zero zero = inr (inl refl)
three zero (suc n) = inl (omega arith)
three (suc i) zero = inr (inr (omega arith))
three (suc i) (suc n) = by (three i n)
  where
    by : (i < n) ⊎ ((i ≡ n) ⊎ (n < i)) → (suc i < suc n) ⊎ ((suc i ≡ suc n) ⊎ (suc n < suc i))
    by (inl lt) = inl (omega arith)
    by (inr (inl at)) = inr (inl (ap suc at))
    by (inr (inr gt)) = inr (inr (omega arith))

-- a list is read as a function says, with one element more
read_more : {Y : Type 0} (f : ℕ → Option Y) (xs : List Y) (y : Y) (n : ℕ) → n ≡ length xs → ((i : ℕ) → i < n → slice_get xs i ≡ f i) → f n ≡ Some y →
    ((i : ℕ) → n < i → f i ≡ None) → (i : ℕ) → slice_get (xs ++ y ∷ []) i ≡ f i
read_more {Y} f xs y n at below here past i = by (three i n)
  where
    by : (i < n) ⊎ ((i ≡ n) ⊎ (n < i)) → slice_get (xs ++ y ∷ []) i ≡ f i
    by (inl lt) = slice_get_left xs y i (omega arith) ∙ below i lt
    by (inr (inl e)) = ap (slice_get (xs ++ y ∷ [])) (e ∙ at) ∙ slice_get_end xs y ∙ sym here ∙ ap f (sym e)
    by (inr (inr gt)) = slice_get_past (xs ++ y ∷ []) i (let l = length_more xs y in omega arith) ∙ sym (past i gt)

-- the verdicts of the entries before stay
verdict_stays : (es : List Entry) (e : Entry) (i : ℕ) → i < length es → verdict_at (es ++ e ∷ []) i ≡ verdict_at es i
unfolding verdict_at
verdict_stays es e i lt =
    ap₂ (λ (before : List Entry) (o : Option Entry). option_map (verdict_behind (reverse before)) o) (take-append-le i es (e ∷ []) (omega arith)) (slice_get_left es e i lt)

verdict_new : (es : List Entry) (e : Entry) → verdict_at (es ++ e ∷ []) (length es) ≡ Some (verdict_behind (reverse es) e)
verdict_new es e =
    verdict_here (es ++ e ∷ []) (length es) e (slice_get_end es e) ∙ ap (λ (before : List Entry). Some (verdict_behind (reverse before) e)) (take-append_seam es (e ∷ []))

kept_stays : (es : List Entry) (e : Entry) (test : List Pair → Bool) (i : ℕ) → i < length es → is_kept_with (es ++ e ∷ []) test i ≡ is_kept_with es test i
unfolding is_kept_with
kept_stays es e test i lt = ap₂ (λ v (o : Option Entry). is_kept_one v && is_of_set test o) (verdict_stays es e i lt) (slice_get_left es e i lt)

kept_new : (es : List Entry) (e : Entry) (test : List Pair → Bool) → is_kept_with (es ++ e ∷ []) test (length es) ≡ (is_kept (verdict_behind (reverse es) e) && test e.series)
unfolding is_kept_with
kept_new es e test = ap₂ (λ v (o : Option Entry). is_kept_one v && is_of_set test o) (verdict_new es e) (slice_get_end es e)

-- the last kept entry that passes, with one entry more
pub kept_more : (es : List Entry) (e : Entry) (test : List Pair → Bool) →
    kept_end (es ++ e ∷ []) test (length (es ++ e ∷ [])) ≡ (if is_kept (verdict_behind (reverse es) e) && test e.series then suc (length es) else kept_end es test (length es))
kept_more es e test =
    ap (kept_end (es ++ e ∷ []) test) (length_more es e)
    ∙ ap₂ (λ b n. if b then suc (length es) else n) (kept_new es e test)
    (end_alike (is_kept_with (es ++ e ∷ []) test) (is_kept_with es test) (length es) (λ i lt. kept_stays es e test i lt))

verdict_past : (es : List Entry) (i : ℕ) → length es ≤ i → verdict_at es i ≡ None
unfolding verdict_at
verdict_past es i le = ap (option_map (verdict_behind (reverse (take i es)))) (slice_get_past es i le)

pub verdicts_more : (es : List Entry) (e : Entry) (old new : Index) (end : ℕ) (found : Found) (verdict : Verdict) → IsIndex es old → verdict ≡ verdict_behind (reverse es) e →
    IsNoted old new end found verdict → (i : ℕ) → slice_get new.verdicts.items i ≡ verdict_at (es ++ e ∷ []) i
verdicts_more es e old new end found verdict is judged noted i =
    ap (λ (vs : List Verdict). slice_get vs i) noted.verdicts
    ∙ read_more (verdict_at (es ++ e ∷ [])) old.verdicts.items verdict (length es) (sym is.judged) (λ k lt. is.verdicts k ∙ sym (verdict_stays es e k lt))
    (verdict_new es e ∙ ap Some (sym judged)) (λ k gt. verdict_past (es ++ e ∷ []) k (let l = length_more es e in omega arith)) i

-- a first entry of a series is kept
pub new_kept : (es : List Entry) (index : Index) (e : Entry) → IsIndex es index → number_of es index.ends.items e.series ≡ 0 → verdict_behind (reverse es) e ≡ Kept
new_kept es index e is none =
    ap (λ (o : Option Entry). verdict_after o e)
    (sym (found_of_all es e.series) ∙ ap (entry_before es) (sym (is.ends e.series) ∙ ap (end_of index.ends.items) none))

-- the last kept entry of a series that has a place
pub known_last : (es : List Entry) (index : Index) (series : List Pair) (place : ℕ) → IsIndex es index → number_of es index.ends.items series ≡ suc place →
    entry_at es index.ends.items place ≡ last_kept series (reverse es)
known_last es index series place is at =
    by (slice_get index.ends.items place) ∙ ap (entry_before es) (sym (ap (end_of index.ends.items) at) ∙ is.ends series) ∙ found_of_all es series
  where
    by : (o : Option ℕ) → entry_of_end es o ≡ entry_before es (unwrap_or o 0)
    by None = refl
    by (Some end) = refl

-- the same notes are an index of the same entries
pub same_index : (es : List Entry) (old new : Index) → IsIndex es old → IsSameIndex old new → IsIndex es new
same_index es old new is same = record {
  judged = ap length same.verdicts ∙ is.judged;
  verdicts = λ i. ap (λ (vs : List Verdict). slice_get vs i) same.verdicts ∙ is.verdicts i;
  placed = ap length same.places ∙ is.placed;
  places = λ place series at.
      ap (λ (ns : List ℕ). slice_get (sets_of es ns) series) same.ends ∙ is.places place series (ap (λ (ns : List ℕ). slice_get ns place) (sym same.places) ∙ at);
  series = ap (sets_of es) same.ends ∙ is.series;
  counted = ap length same.earlier ∙ is.counted ∙ ap length (sym same.ends);
  within = λ place end at. is.within place end (ap (λ (ns : List ℕ). slice_get ns place) (sym same.ends) ∙ at);
  ends = λ series. ap (λ (ns : List ℕ). end_of ns (number_of es ns series)) same.ends ∙ is.ends series;
  alone = λ series place h.
      ap (λ (ns : List ℕ). number_of es ns series) same.ends ∙ is.alone series place (ap (λ (ns : List ℕ). passes_at (sets_of es ns) (is_series series) place) (sym same.ends) ∙ h);
  earlier = λ i lt.
      ap (λ (ns : List ℕ). slice_get ns i) same.earlier ∙ is.earlier i (subst (λ (ns : List ℕ). i < length ns) same.ends lt)
      ∙ ap₂ (λ (ns : List ℕ) (h : DefaultHasher). Some (number_in (sets_of es ns) (has_hash h (hash_at h (sets_of es ns) i)) i)) (sym same.ends) (sym same.hasher);
  last = λ h. same.last h ∙ is.last h ∙ ap₂ (λ (ns : List ℕ) (hasher : DefaultHasher). number_in (sets_of es ns) (has_hash hasher h) (length ns)) (sym same.ends) (sym same.hasher);
}

-- room for one more is room
pub less_room : (n : ℕ) (index : Index) → HasSeriesRoom (n + 1) index → HasSeriesRoom n index
less_room n index room =
    let ends = room.ends in
    let earlier = room.earlier in
    let next = room.next in
    let few = room.few in
    let last = room.last in
    record { ends = omega arith; earlier = omega arith; next = omega arith; few = omega arith; last = omega arith }
