-- The sets of the series of a book, and the numbers of series.
use Rattle.std.proofs.Common.{◌≡◌, ℕ, zero, suc, ◌<◌, ◌≤◌, Bool, true, false, List, [], ◌∷◌, ◌++◌, length, set, slice_get, if◌then◌else◌, refl, sym, ap, ap₂, ◌∙◌, true≢false, arith, Some, None, Option, option_map}
use Rattle.std.proofs.lemmas.List.{map-append, map-set, set-get_or}
use Rattle.std.proofs.lemmas.Option.{slice_get_past, slice_get-map, get_or_from_slice_get}
use Rattle.label_set.specs.Same.{sets_decide}
use Rattle.label_set.specs.declared.texts.Pair.{Pair}
use Rattle.report_samples.specs.declared.entries.Entry.{Entry}
use Rattle.appender_book.specs.Index.{last_end, entry_at, entry_before, entry_of_end, is_of_set, set_before, sets_of, passes, passes_at, number_in, is_series}
use Rattle.appender_book.proofs.EndLemmas.{end_alike, end_stays, end_passes, end_within}

-- one element more
pub slice_get_left : {X : Type 0} (xs : List X) (y : X) (i : ℕ) → i < length xs → slice_get (xs ++ y ∷ []) i ≡ slice_get xs i
slice_get_left [] y i lt = absurd (omega arith)
slice_get_left (x ∷ xs) y zero lt = refl
slice_get_left (x ∷ xs) y (suc i) lt = slice_get_left xs y i (omega arith)

pub slice_get_end : {X : Type 0} (xs : List X) (y : X) → slice_get (xs ++ y ∷ []) (length xs) ≡ Some y
slice_get_end [] y = refl
slice_get_end (x ∷ xs) y = slice_get_end xs y

pub length_more : {X : Type 0} (xs : List X) (x : X) → length (xs ++ x ∷ []) ≡ suc (length xs)
length_more [] x = refl
length_more (y ∷ xs) x = ap suc (length_more xs x)

-- the entries before stay
entry_stays : (es : List Entry) (e : Entry) (end : ℕ) → end ≤ length es → entry_before (es ++ e ∷ []) end ≡ entry_before es end
entry_stays es e zero le = refl
entry_stays es e (suc place) le = slice_get_left es e place (omega arith)

set_stays : (es : List Entry) (e : Entry) (end : ℕ) → end ≤ length es → set_before (es ++ e ∷ []) end ≡ set_before es end
set_stays es e end le = ap (option_map (λ (x : Entry). x.series)) (entry_stays es e end le)

set_new : (es : List Entry) (e : Entry) → set_before (es ++ e ∷ []) (suc (length es)) ≡ Some e.series
set_new es e = ap (option_map (λ (x : Entry). x.series)) (slice_get_end es e)

-- and so do the sets of the series
pub sets_stay : (es : List Entry) (e : Entry) (ends : List ℕ) → ((place end : ℕ) → slice_get ends place ≡ Some end → end ≤ length es) →
    sets_of (es ++ e ∷ []) ends ≡ sets_of es ends
sets_stay es e [] h = refl
sets_stay es e (n ∷ ns) h = ap₂ (λ (s : Option (List Pair)) (ss : List (Option (List Pair))). s ∷ ss) (set_stays es e n (h 0 n refl)) (sets_stay es e ns (λ place end at. h (suc place) end at))

-- also where the end of one is that of a later entry of the same set
pub sets_renewed : (es : List Entry) (e : Entry) (ends : List ℕ) (place : ℕ) → ((place end : ℕ) → slice_get ends place ≡ Some end → end ≤ length es) →
    slice_get (sets_of es ends) place ≡ Some (Some e.series) → sets_of (es ++ e ∷ []) (set ends place (suc (length es))) ≡ sets_of es ends
sets_renewed es e ends place h at =
    map-set (set_before (es ++ e ∷ [])) ends place (suc (length es))
    ∙ ap₂ (λ (ss : List (Option (List Pair))) (s : Option (List Pair)). set ss place s) (sets_stay es e ends h) (set_new es e ∙ sym (get_or_from_slice_get (sets_of es ends) place (Some e.series) None at))
    ∙ set-get_or (sets_of es ends) place None

-- a new series has its own
pub sets_begun : (es : List Entry) (e : Entry) (ends : List ℕ) → ((place end : ℕ) → slice_get ends place ≡ Some end → end ≤ length es) →
    sets_of (es ++ e ∷ []) (ends ++ suc (length es) ∷ []) ≡ sets_of es ends ++ Some e.series ∷ []
sets_begun es e ends h =
    map-append (set_before (es ++ e ∷ [])) ends (suc (length es) ∷ [])
    ∙ ap₂ (λ (ss : List (Option (List Pair))) (s : Option (List Pair)). ss ++ s ∷ []) (sets_stay es e ends h) (set_new es e)

-- a set that passes as that of a series is it
set_read : (series : List Pair) (o : Option (Option (List Pair))) → passes (is_series series) o ≡ true → o ≡ Some (Some series)
set_read series None h = absurd (true≢false (sym h))
set_read series (Some None) h = absurd (true≢false (sym h))
set_read series (Some (Some s)) h = ap (λ (x : List Pair). Some (Some x)) (sym ((sets_decide series s).0 h))

pub set_there : (sets : List (Option (List Pair))) (series : List Pair) (place : ℕ) → passes_at sets (is_series series) place ≡ true →
    slice_get sets place ≡ Some (Some series)
unfolding passes_at
set_there sets series place h = set_read series (slice_get sets place) h

pub passes_there : (sets : List (Option (List Pair))) (test : List Pair → Bool) (place : ℕ) (series : List Pair) → slice_get sets place ≡ Some (Some series) →
    passes_at sets test place ≡ test series
unfolding passes_at
passes_there sets test place series at = ap (passes test) at

-- what has a number passes
pub number_passes : (f : ℕ → Bool) (n place : ℕ) → last_end f n ≡ suc place → f place ≡ true
number_passes f n place at = end_passes f place (sym (ap (last_end f) at) ∙ end_stays f n ∙ at)

pub number_within : (f : ℕ → Bool) (n place : ℕ) → last_end f n ≡ suc place → place < n
number_within f n place at = let w : last_end f n ≤ n = end_within f n in omega arith

-- the tests of one series more
pub passes_left : (sets : List (Option (List Pair))) (s : Option (List Pair)) (test : List Pair → Bool) (i : ℕ) → i < length sets →
    passes_at (sets ++ s ∷ []) test i ≡ passes_at sets test i
unfolding passes_at
passes_left sets s test i lt = ap (passes test) (slice_get_left sets s i lt)

pub passes_end : (sets : List (Option (List Pair))) (set : List Pair) (test : List Pair → Bool) → passes_at (sets ++ Some set ∷ []) test (length sets) ≡ test set
unfolding passes_at
passes_end sets set test = ap (passes test) (slice_get_end sets (Some set))

pub passes_past : (sets : List (Option (List Pair))) (test : List Pair → Bool) (i : ℕ) → length sets ≤ i → passes_at sets test i ≡ false
unfolding passes_at
passes_past sets test i le = ap (passes test) (slice_get_past sets i le)

pub number_stays : (sets : List (Option (List Pair))) (s : Option (List Pair)) (test : List Pair → Bool) (n : ℕ) → n ≤ length sets →
    number_in (sets ++ s ∷ []) test n ≡ number_in sets test n
number_stays sets s test n le = end_alike (passes_at (sets ++ s ∷ []) test) (passes_at sets test) n (λ i lt. passes_left sets s test i (omega arith))

pub number_more : (sets : List (Option (List Pair))) (set : List Pair) (test : List Pair → Bool) →
    number_in (sets ++ Some set ∷ []) test (suc (length sets)) ≡ (if test set then suc (length sets) else number_in sets test (length sets))
number_more sets set test =
    ap₂ (λ b n. if b then suc (length sets) else n) (passes_end sets set test) (number_stays sets (Some set) test (length sets) (omega arith))

passes_by : (series : List Pair) (end : Option ℕ) (es : List Entry) → passes (is_series series) (option_map (set_before es) end) ≡ is_of_set (is_series series) (entry_of_end es end)
passes_by series None es = refl
passes_by series (Some end) es = by (entry_before es end)
  where
    by : (o : Option Entry) → passes (is_series series) (Some (option_map (λ (x : Entry). x.series) o)) ≡ is_of_set (is_series series) o
    by None = refl
    by (Some e) = refl

-- the series at a place is that of its last kept entry
pub passes_as : (es : List Entry) (ends : List ℕ) (series : List Pair) (place : ℕ) →
    passes_at (sets_of es ends) (is_series series) place ≡ is_of_set (is_series series) (entry_at es ends place)
unfolding passes_at
passes_as es ends series place = ap (passes (is_series series)) (slice_get-map (set_before es) ends place) ∙ passes_by series (slice_get ends place) es
