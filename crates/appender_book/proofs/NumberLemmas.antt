-- The series of a book and their numbers, with one entry more.
use Rattle.std.proofs.Common.{◌≡◌, ◌⊎◌, inl, inr, ℕ, zero, suc, ◌<◌, ◌≤◌, Bool, true, false, ◌||◌, List, [], ◌∷◌, ◌++◌, length, map, if◌then◌else◌, slice_get, Some, None, Option, option_map, refl, sym, ap, ap₂, ◌∙◌, subst, arith}
use Rattle.std.specs.Prelude.{is_some, IfSome}
use Rattle.std.specs.List.{fold, list_any}
use Rattle.std.proofs.lemmas.List.{map-append, length-map}
use Rattle.std.proofs.lemmas.List.Sums.{fold-append}
use Rattle.std.proofs.lemmas.Option.{none-some, same_Some, slice_get-map, slice_get_within, slice_get_past}
use Rattle.label_set.specs.Same.{sets_decide}
use Rattle.label_set.specs.declared.texts.Pair.{Pair}
use Rattle.report_samples.specs.declared.entries.Entry.{Entry}
use Rattle.appender_book.specs.declared.index.Index.{Index}
use Rattle.appender_book.specs.declared.index.Found.{Found}
use Rattle.appender_book.specs.declared.index.Found.TheVariants.{Known, New}
use Rattle.appender_book.specs.Index.{IsIndex, IsWithin, IsFound, entry_at, entry_of_end, is_series, number_of, passes, passes_at, set_before, sets_of}
use Rattle.appender_book.specs.Series.{AreShort, series_of, value_len, with_set}
use Rattle.appender_book.proofs.SeriesLemmas.{slice_get_left, slice_get_end, length_more, number_within}
use Rattle.appender_book.proofs.IndexLemmas.{three}

abbrev pub series_in : Entry → List Pair
series_in e = e.series

series_more : (es : List Entry) (e : Entry) → series_of (es ++ e ∷ []) ≡ with_set (series_of es) e.series
unfolding series_of
series_more es e = ap (fold with_set []) (map-append series_in es (e ∷ [])) ∙ fold-append with_set [] (map series_in es) (e.series ∷ [])

or_true : (b : Bool) → (b || true) ≡ true
or_true true = refl
or_true false = refl

-- a set that has a place is among the sets
set_among : (sets : List (List Pair)) (set : List Pair) (place : ℕ) → slice_get (map Some sets) place ≡ Some (Some set) → list_any (is_series set) sets ≡ true
set_among [] set place h = absurd (none-some (Some set) h)
set_among (x ∷ xs) set zero h =
    ap (λ b. b || list_any (is_series set) xs) ((sets_decide set x).1 (sym (same_Some x set (same_Some (Some x) (Some set) h))))
set_among (x ∷ xs) set (suc place) h = ap (λ b. is_series set x || b) (set_among xs set place h) ∙ or_true (is_series set x)

-- one that has none isn't
none_among : (sets : List (List Pair)) (set : List Pair) → ((i : ℕ) → passes (is_series set) (slice_get (map Some sets) i) ≡ false) → list_any (is_series set) sets ≡ false
none_among [] set h = refl
none_among (x ∷ xs) set h = ap₂ (λ a b. a || b) (h 0) (none_among xs set (λ i. h (suc i)))

pub series_known : (es : List Entry) (e : Entry) (sets : List (Option (List Pair))) (place : ℕ) → sets ≡ map Some (series_of es) →
    slice_get sets place ≡ Some (Some e.series) → series_of (es ++ e ∷ []) ≡ series_of es
series_known es e sets place is here =
    series_more es e
    ∙ ap (λ b. if b then series_of es else series_of es ++ e.series ∷ [])
    (set_among (series_of es) e.series place (ap (λ (ss : List (Option (List Pair))). slice_get ss place) (sym is) ∙ here))

pub series_begun : (es : List Entry) (e : Entry) (sets : List (Option (List Pair))) → sets ≡ map Some (series_of es) →
    ((i : ℕ) → passes_at sets (is_series e.series) i ≡ false) → series_of (es ++ e ∷ []) ≡ series_of es ++ e.series ∷ []
unfolding passes_at
series_begun es e sets is other =
    series_more es e
    ∙ ap (λ b. if b then series_of es else series_of es ++ e.series ∷ [])
    (none_among (series_of es) e.series (λ i. ap (λ (ss : List (Option (List Pair))). passes (is_series e.series) (slice_get ss i)) (sym is) ∙ other i))

-- where a series has no number its set stands at no place
pub stands_nowhere : (es : List Entry) (index : Index) (series : List Pair) → IsIndex es index → number_of es index.ends.items series ≡ 0 → (i : ℕ) →
    passes_at (sets_of es index.ends.items) (is_series series) i ≡ false
stands_nowhere es index series is none i = by (passes_at (sets_of es index.ends.items) (is_series series) i) refl
  where
    by : (b : Bool) → passes_at (sets_of es index.ends.items) (is_series series) i ≡ b → b ≡ false
    by true at = let e : suc i ≡ 0 = sym (is.alone series i at) ∙ none in absurd (omega arith)
    by false at = refl

-- an item of a list with one more
item_more : {X Y : Type 0} (xs : List X) (x : X) (ys : List Y) (y : Y) (i : ℕ) (z : X) → length xs ≡ length ys → slice_get (xs ++ x ∷ []) i ≡ Some z →
    ((slice_get xs i ≡ Some z) × (slice_get (ys ++ y ∷ []) i ≡ slice_get ys i)) ⊎ ((x ≡ z) × (slice_get (ys ++ y ∷ []) i ≡ Some y))
item_more {X} {Y} xs x ys y i z count h = by (three i (length xs))
  where
    by : (i < length xs) ⊎ ((i ≡ length xs) ⊎ (length xs < i)) →
        ((slice_get xs i ≡ Some z) × (slice_get (ys ++ y ∷ []) i ≡ slice_get ys i)) ⊎ ((x ≡ z) × (slice_get (ys ++ y ∷ []) i ≡ Some y))
    by (inl lt) = inl (sym (slice_get_left xs x i lt) ∙ h, slice_get_left ys y i (omega arith))
    by (inr (inl at)) =
        inr (same_Some x z (sym (slice_get_end xs x) ∙ ap (slice_get (xs ++ x ∷ [])) (sym at) ∙ h), ap (slice_get (ys ++ y ∷ [])) (at ∙ count) ∙ slice_get_end ys y)
    by (inr (inr gt)) = absurd (none-some z (sym (slice_get_past (xs ++ x ∷ []) i (let l = length_more xs x in omega arith)) ∙ h))

-- the places of the series of the entries, with one entry more
pub places_more : (es : List Entry) (e : Entry) (sets : List (Option (List Pair))) (places : List ℕ) (series : ℕ) → length places ≡ length es →
    ((p n : ℕ) → slice_get places p ≡ Some n → slice_get sets n ≡ Some (option_map series_in (slice_get es p))) → slice_get sets series ≡ Some (Some e.series) →
    (p n : ℕ) → slice_get (places ++ series ∷ []) p ≡ Some n → slice_get sets n ≡ Some (option_map series_in (slice_get (es ++ e ∷ []) p))
places_more es e sets places series count was here p n h = by (item_more places series es e p n count h)
  where
    by : ((slice_get places p ≡ Some n) × (slice_get (es ++ e ∷ []) p ≡ slice_get es p)) ⊎ ((series ≡ n) × (slice_get (es ++ e ∷ []) p ≡ Some e)) →
        slice_get sets n ≡ Some (option_map series_in (slice_get (es ++ e ∷ []) p))
    by (inl old) = was p n old.0 ∙ ap (λ (o : Option Entry). Some (option_map series_in o)) (sym old.1)
    by (inr new) = ap (slice_get sets) (sym new.0) ∙ here ∙ ap (λ (o : Option Entry). Some (option_map series_in o)) (sym new.1)

-- a set has its place also with one more
pub places_left : (sets : List (Option (List Pair))) (s : Option (List Pair)) (n : ℕ) (o : Option (List Pair)) → slice_get sets n ≡ Some o → slice_get (sets ++ s ∷ []) n ≡ Some o
places_left sets s n o h = slice_get_left sets s n (slice_get_within sets n o h) ∙ h

-- what is found of a series has a place
pub found_within : (es : List Entry) (index : Index) (series : List Pair) (found : Found) → IsFound es index series found → IsWithin found index
found_within es index series (Known place) found = number_within (passes_at (sets_of es index.ends.items) (is_series series)) (length index.ends.items) place found
found_within es index series (New hash last) found = tt

some_read : (o q : Option (List Pair)) → option_map Some o ≡ Some q → o ≡ q
some_read None q h = absurd (none-some q h)
some_read (Some x) q h = same_Some (Some x) q h

-- the series of an entry has the number
pub number_read : (es : List Entry) (index : Index) (place : ℕ) (o : Option ℕ) → IsIndex es index → o ≡ slice_get index.places.items place →
    IfSome o (λ n. slice_get (series_of es) n ≡ option_map series_in (slice_get es place))
number_read es index place None is at = tt
number_read es index place (Some n) is at =
    some_read (slice_get (series_of es) n) (option_map series_in (slice_get es place))
    (sym (slice_get-map Some (series_of es) n) ∙ ap (λ (ss : List (Option (List Pair))). slice_get ss n) (sym is.series) ∙ is.places place n (sym at))

pub some_alike : {X Y : Type 0} (xs : List X) (ys : List Y) (i : ℕ) → length xs ≡ length ys → is_some (slice_get xs i) ≡ is_some (slice_get ys i)
some_alike [] [] i e = refl
some_alike [] (y ∷ ys) i e = absurd (omega arith)
some_alike (x ∷ xs) [] i e = absurd (omega arith)
some_alike (x ∷ xs) (y ∷ ys) zero e = refl
some_alike (x ∷ xs) (y ∷ ys) (suc i) e = some_alike xs ys i (omega arith)

pub series_counted : (es : List Entry) (index : Index) → IsIndex es index → length index.ends.items ≡ length (series_of es)
series_counted es index is = sym (length-map index.ends.items (set_before es)) ∙ ap length is.series ∙ length-map (series_of es) Some

-- the last kept entry of a series is of its set
pub entry_set : (es : List Entry) (index : Index) (number : ℕ) → IsIndex es index →
    option_map series_in (entry_at es index.ends.items number) ≡ slice_get (series_of es) number
entry_set es index number is =
    by (slice_get index.ends.items number) (slice_get (series_of es) number)
    (sym (slice_get-map (set_before es) index.ends.items number) ∙ ap (λ (ss : List (Option (List Pair))). slice_get ss number) is.series ∙ slice_get-map Some (series_of es) number)
  where
    by : (o : Option ℕ) (q : Option (List Pair)) → option_map (set_before es) o ≡ option_map Some q → option_map series_in (entry_of_end es o) ≡ q
    by None None h = refl
    by None (Some x) h = absurd (none-some (Some x) h)
    by (Some end) None h = absurd (none-some (set_before es end) (sym h))
    by (Some end) (Some x) h = same_Some (set_before es end) (Some x) h

-- the longest value, with one entry more
pub short_more : (es : List Entry) (e : Entry) (most more : ℕ) → AreShort most es → most ≤ more → value_len e.value ≤ more → AreShort more (es ++ e ∷ [])
short_more es e most more short up fits k x at = by (item_more es e es e k x refl at)
  where
    by : ((slice_get es k ≡ Some x) × (slice_get (es ++ e ∷ []) k ≡ slice_get es k)) ⊎ ((e ≡ x) × (slice_get (es ++ e ∷ []) k ≡ Some e)) → value_len x.value ≤ more
    by (inl old) = let had = short k x old.0 in omega arith
    by (inr new) = subst (λ (y : Entry). value_len y.value ≤ more) new.0 fits
