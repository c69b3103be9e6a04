-- Going back over the series of one hash finds the one with a set.
use Rattle.std.proofs.Common.{◌≡◌, ℕ, suc, ◌<◌, ◌≤◌, true, false, List, length, sym, ap, ◌∙◌, true≢false, arith, eq-eqb, eqb-true, slice_get, Some, None, Option, subst}
use Rattle.std.proofs.lemmas.Option.{same_Some}
use Rattle.std.specs.declared.hash.DefaultHasher.{DefaultHasher}
use Rattle.label_set.specs.Same.{sets_decide}
use Rattle.label_set.specs.declared.texts.Pair.{Pair}
use Rattle.report_samples.specs.declared.entries.Entry.{Entry}
use Rattle.appender_book.specs.declared.index.Index.{Index}
use Rattle.appender_book.specs.Index.{hash_of, last_end, passes, passes_at, number_in, number_of_hash, sets_of, has_hash, hash_in, hash_at, is_series, IsIndex}
use Rattle.appender_book.proofs.EndLemmas.{end_within, end_stays, end_here, end_skips, end_passes, end_narrower}

-- of the first series, so many, the one with a set is that with this number, or one before it, and that one has the hash
pub record IsOnWay (sets : List (Option (List Pair))) (hasher : DefaultHasher) (hash : ℕ) (series : List Pair) (count number : ℕ) : Type 0 where
  pub within : number ≤ count
  pub stays : number_in sets (has_hash hasher hash) number ≡ number
  pub rest : number_in sets (is_series series) number ≡ number_in sets (is_series series) count

-- a set of the series has its hash
series_hash : (hasher : DefaultHasher) (hash : ℕ) (series : List Pair) → hash ≡ hash_of hasher series → (o : Option (Option (List Pair))) →
    passes (is_series series) o ≡ true → passes (has_hash hasher hash) o ≡ true
series_hash hasher hash series is None h = h
series_hash hasher hash series is (Some None) h = h
series_hash hasher hash series is (Some (Some set)) h = eq-eqb hash (hash_of hasher set) (is ∙ ap (hash_of hasher) ((sets_decide series set).0 h))

narrow : (sets : List (Option (List Pair))) (hasher : DefaultHasher) (hash : ℕ) (series : List Pair) → hash ≡ hash_of hasher series → (i : ℕ) →
    passes_at sets (is_series series) i ≡ true → passes_at sets (has_hash hasher hash) i ≡ true
unfolding passes_at
narrow sets hasher hash series is i = series_hash hasher hash series is (slice_get sets i)

-- where it begins
pub way_begins : (es : List Entry) (index : Index) (hash : ℕ) (series : List Pair) (number : ℕ) → IsIndex es index → hash ≡ hash_of index.hasher series →
    number ≡ number_of_hash index hash → IsOnWay (sets_of es index.ends.items) index.hasher hash series (length index.ends.items) number
way_begins es index hash series number is at e =
    let sets = sets_of es index.ends.items in
    let h = passes_at sets (has_hash index.hasher hash) in
    let s = passes_at sets (is_series series) in
    let from : number ≡ last_end h (length index.ends.items) = e ∙ is.last hash in
    record {
      within = subst (λ (n : ℕ). n ≤ length index.ends.items) (sym from) (end_within h (length index.ends.items));
      stays = subst (λ (n : ℕ). last_end h n ≡ n) (sym from) (end_stays h (length index.ends.items));
      rest = ap (last_end s) from ∙ sym (end_narrower h s (narrow sets index.hasher hash series at) (length index.ends.items));
    }

hash_read : (hasher : DefaultHasher) (hash : ℕ) (o : Option (Option (List Pair))) → passes (has_hash hasher hash) o ≡ true → hash ≡ hash_in hasher o
hash_read hasher hash None h = absurd (true≢false (sym h))
hash_read hasher hash (Some None) h = absurd (true≢false (sym h))
hash_read hasher hash (Some (Some set)) h = eqb-true hash (hash_of hasher set) h

hash_there : (sets : List (Option (List Pair))) (hasher : DefaultHasher) (hash place : ℕ) → passes_at sets (has_hash hasher hash) place ≡ true →
    hash ≡ hash_at hasher sets place
unfolding passes_at
hash_there sets hasher hash place h = hash_read hasher hash (slice_get sets place) h

-- what is noted of a series
earlier_is : (es : List Entry) (index : Index) (place m : ℕ) → IsIndex es index → place < length index.ends.items → slice_get index.earlier.items place ≡ Some m →
    m ≡ number_in (sets_of es index.ends.items) (has_hash index.hasher (hash_at index.hasher (sets_of es index.ends.items) place)) place
earlier_is es index place m is lt noted =
    same_Some m (number_in (sets_of es index.ends.items) (has_hash index.hasher (hash_at index.hasher (sets_of es index.ends.items) place)) place) (sym noted ∙ is.earlier place lt)

-- it is the number of one before it
pub earlier_within : (es : List Entry) (index : Index) (place m : ℕ) → IsIndex es index → place < length index.ends.items →
    slice_get index.earlier.items place ≡ Some m → m ≤ place
earlier_within es index place m is lt noted =
    let sets = sets_of es index.ends.items in
    subst (λ (n : ℕ). n ≤ place) (sym (earlier_is es index place m is lt noted)) (end_within (passes_at sets (has_hash index.hasher (hash_at index.hasher sets place))) place)

-- a number whose series is another leads to an earlier one
pub way_goes : (es : List Entry) (index : Index) (hash : ℕ) (series : List Pair) (place m : ℕ) → IsIndex es index → hash ≡ hash_of index.hasher series →
    IsOnWay (sets_of es index.ends.items) index.hasher hash series (length index.ends.items) (suc place) →
    passes_at (sets_of es index.ends.items) (is_series series) place ≡ false → slice_get index.earlier.items place ≡ Some m →
    IsOnWay (sets_of es index.ends.items) index.hasher hash series (length index.ends.items) m
way_goes es index hash series place m is at way other noted =
    let sets = sets_of es index.ends.items in
    let count = length index.ends.items in
    let h = passes_at sets (has_hash index.hasher hash) in
    let s = passes_at sets (is_series series) in
    let up : suc place ≤ count = way.within in
    let lt : place < count = omega arith in
    let w : last_end h place ≤ place = end_within h place in
    let low : last_end h place ≤ count = omega arith in
    let from : m ≡ last_end h place =
    earlier_is es index place m is lt noted ∙ ap (λ n. number_in sets (has_hash index.hasher n) place) (sym (hash_there sets index.hasher hash place (end_passes h place way.stays))) in
    record {
      within = subst (λ (n : ℕ). n ≤ count) (sym from) low;
      stays = subst (λ (n : ℕ). last_end h n ≡ n) (sym from) (end_stays h place);
      rest = ap (last_end s) from ∙ sym (end_narrower h s (narrow sets index.hasher hash series at) place) ∙ sym (end_skips s place other) ∙ way.rest;
    }

-- one whose series has the set is the one
pub way_ends : (sets : List (Option (List Pair))) (hasher : DefaultHasher) (hash : ℕ) (series : List Pair) (count place : ℕ) →
    IsOnWay sets hasher hash series count (suc place) → passes_at sets (is_series series) place ≡ true → number_in sets (is_series series) count ≡ suc place
way_ends sets hasher hash series count place way here = sym way.rest ∙ end_here (passes_at sets (is_series series)) place here

-- where the way ends there is none
pub way_done : (sets : List (Option (List Pair))) (hasher : DefaultHasher) (hash : ℕ) (series : List Pair) (count number : ℕ) →
    IsOnWay sets hasher hash series count number → number ≡ 0 → number_in sets (is_series series) count ≡ 0
way_done sets hasher hash series count number way at = sym way.rest ∙ ap (number_in sets (is_series series)) at
