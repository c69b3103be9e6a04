-- How a book finds the last kept entry of a series. Series have places in the order in which they first came, and numbers, one more than their places.
-- The number of a series is found by what is expected next, or else by the hash of its set, and from there back over the series of the same hash.
use Rattle.std.specs.Prelude.{◌≡◌, ℕ, zero, suc, ◌+◌, ◌<◌, ◌≤◌, ◌^◌, ⊤, Bool, true, false, ◌&&◌, List, [], ◌∷◌, ◌++◌, map, length, if◌then◌else◌, slice_get, slice_set, nat_eq, unwrap_or, vec_len, vec_capacity}
use Rattle.std.specs.List.{fold}
use Rattle.std.specs.Option.{option_map}
use Rattle.std.specs.declared.option.Option.{Option}
use Rattle.std.specs.declared.option.Option.TheVariants.{None, Some}
use Rattle.std.specs.declared.hash.DefaultHasher.{DefaultHasher}
use Rattle.std.specs.Hash.DefaultHasher.{write, finish}
use Rattle.std.specs.HashMap.{get, spare}
use Rattle.std.specs.Ordering.{is_eq}
use Rattle.label_set.specs.Sets.{set_cmp}
use Rattle.label_set.specs.Same.{set_input}
use Rattle.label_set.specs.declared.texts.Pair.{Pair}
use Rattle.report_samples.specs.declared.entries.Entry.{Entry}
use Rattle.appender_book.specs.declared.verdicts.Verdict.{Verdict}
use Rattle.appender_book.specs.declared.index.Index.{Index}
use Rattle.appender_book.specs.declared.index.Found.{Found}
use Rattle.appender_book.specs.declared.index.Found.TheVariants.{Known, New}
use Rattle.appender_book.specs.Verdicts.{is_kept, verdict_at}
use Rattle.appender_book.specs.Series.{series_of}

-- the hash of a set, begun with this hasher
unfoldable pub hash_of : DefaultHasher → List Pair → ℕ
hash_of hasher set = finish (fold write hasher (set_input set))

-- the last place below n that passes, and one more; 0 where none does
abbrev pub last_end : (ℕ → Bool) → ℕ → ℕ
last_end test zero = zero
last_end test (suc n) = if test n then suc n else last_end test n

abbrev pub is_kept_one : Option Verdict → Bool
is_kept_one None = false
is_kept_one (Some v) = is_kept v

abbrev pub is_of_set : (List Pair → Bool) → Option Entry → Bool
is_of_set test None = false
is_of_set test (Some e) = test e.series

-- the entry at a place is kept, and its set passes
unfoldable pub is_kept_with : List Entry → (List Pair → Bool) → ℕ → Bool
is_kept_with entries test place = is_kept_one (verdict_at entries place) && is_of_set test (slice_get entries place)

-- behind the last kept entry among the first n whose set passes; 0 where there is none
abbrev pub kept_end : List Entry → (List Pair → Bool) → ℕ → ℕ
kept_end entries test = last_end (is_kept_with entries test)

-- the sets of a hash
abbrev pub has_hash : DefaultHasher → ℕ → List Pair → Bool
has_hash hasher hash set = nat_eq hash (hash_of hasher set)

-- the sets of a series
abbrev pub is_series : List Pair → List Pair → Bool
is_series series set = is_eq (set_cmp series set)

-- the entry before an end; an end is one more than a place, and 0 where there is no entry
abbrev pub entry_before : List Entry → ℕ → Option Entry
entry_before entries zero = None
entry_before entries (suc place) = slice_get entries place

-- the entry before the end that may be there
abbrev pub entry_of_end : List Entry → Option ℕ → Option Entry
entry_of_end entries None = None
entry_of_end entries (Some end) = entry_before entries end

-- the last kept entry of the series at a place, where these are the ends of the series
abbrev pub entry_at : List Entry → List ℕ → ℕ → Option Entry
entry_at entries ends place = entry_of_end entries (slice_get ends place)

abbrev pub set_before : List Entry → ℕ → Option (List Pair)
set_before entries end = option_map (λ (e : Entry). e.series) (entry_before entries end)

-- the sets of the series, where these are their ends
abbrev pub sets_of : List Entry → List ℕ → List (Option (List Pair))
sets_of entries ends = map (set_before entries) ends

abbrev pub passes : (List Pair → Bool) → Option (Option (List Pair)) → Bool
passes test None = false
passes test (Some None) = false
passes test (Some (Some set)) = test set

-- the set at a place passes
unfoldable pub passes_at : List (Option (List Pair)) → (List Pair → Bool) → ℕ → Bool
passes_at sets test place = passes test (slice_get sets place)

-- the number of the last of the first n series whose set passes; 0 where there is none
abbrev pub number_in : List (Option (List Pair)) → (List Pair → Bool) → ℕ → ℕ
number_in sets test = last_end (passes_at sets test)

-- the number of the series with a set
abbrev pub number_of : List Entry → List ℕ → List Pair → ℕ
number_of entries ends series = number_in (sets_of entries ends) (is_series series) (length ends)

-- the end of the series with a number; 0 where there is none
abbrev pub end_of : List ℕ → ℕ → ℕ
end_of ends zero = 0
end_of ends (suc place) = unwrap_or (slice_get ends place) 0

abbrev pub hash_in : DefaultHasher → Option (Option (List Pair)) → ℕ
hash_in hasher None = 0
hash_in hasher (Some None) = 0
hash_in hasher (Some (Some set)) = hash_of hasher set

-- the hash of the set at a place
abbrev pub hash_at : DefaultHasher → List (Option (List Pair)) → ℕ → ℕ
hash_at hasher sets place = hash_in hasher (slice_get sets place)

-- the number that the index has for a hash
abbrev pub number_of_hash : Index → ℕ → ℕ
number_of_hash index hash = unwrap_or (get nat_eq index.last hash) 0

-- the index is that of these entries
pub record IsIndex (entries : List Entry) (index : Index) : Type 0 where
  pub judged : length index.verdicts.items ≡ length entries
  pub verdicts : (place : ℕ) → slice_get index.verdicts.items place ≡ verdict_at entries place
  pub placed : length index.places.items ≡ length entries
  pub places : (place series : ℕ) → slice_get index.places.items place ≡ Some series →
      slice_get (sets_of entries index.ends.items) series ≡ Some (option_map (λ (e : Entry). e.series) (slice_get entries place))
  pub series : sets_of entries index.ends.items ≡ map Some (series_of entries)
  pub counted : length index.earlier.items ≡ length index.ends.items
  pub within : (place end : ℕ) → slice_get index.ends.items place ≡ Some end → end ≤ length entries
  pub ends : (series : List Pair) →
      end_of index.ends.items (number_of entries index.ends.items series)
      ≡ kept_end entries (is_series series) (length entries)
  pub alone : (series : List Pair) (place : ℕ) → passes_at (sets_of entries index.ends.items) (is_series series) place ≡ true →
      number_of entries index.ends.items series ≡ suc place
  pub earlier : (place : ℕ) → place < length index.ends.items →
      slice_get index.earlier.items place
      ≡ Some (number_in (sets_of entries index.ends.items)
      (has_hash index.hasher (hash_at index.hasher (sets_of entries index.ends.items) place)) place)
  pub last : (hash : ℕ) → number_of_hash index hash ≡ number_in (sets_of entries index.ends.items) (has_hash index.hasher hash) (length index.ends.items)

-- this is found of a series
abbrev pub IsFound : List Entry → Index → List Pair → Found → Type 0
IsFound entries index series (Known place) = number_of entries index.ends.items series ≡ suc place
IsFound entries index series (New hash last) =
    (number_of entries index.ends.items series ≡ 0) × (hash ≡ hash_of index.hasher series) × (last ≡ number_of_hash index hash)

-- the index has room for n more series
pub record HasSeriesRoom (n : ℕ) (index : Index) : Type 0 where
  pub ends : vec_len index.ends + n ≤ vec_capacity index.ends
  pub earlier : vec_len index.earlier + n ≤ vec_capacity index.earlier
  pub next : vec_len index.next + n ≤ vec_capacity index.next
  pub few : vec_len index.ends + n ≤ 2 ^ 32
  pub last : n ≤ spare index.last

-- the index has room for n more entries
pub record HasRoom (n : ℕ) (index : Index) : Type 0 where
  pub verdicts : vec_len index.verdicts + n ≤ vec_capacity index.verdicts
  pub places : vec_len index.places + n ≤ vec_capacity index.places
  pub series : HasSeriesRoom n index

-- the same is noted
pub record IsSameIndex (old new : Index) : Type 0 where
  pub verdicts : new.verdicts.items ≡ old.verdicts.items
  pub places : new.places.items ≡ old.places.items
  pub ends : new.ends.items ≡ old.ends.items
  pub earlier : new.earlier.items ≡ old.earlier.items
  pub hasher : new.hasher ≡ old.hasher
  pub last : (hash : ℕ) → number_of_hash new hash ≡ number_of_hash old hash

-- the ends, with another one at a place
abbrev pub with_end : List ℕ → ℕ → ℕ → List ℕ
with_end ends place end = slice_set ends place end

-- the ends after an entry, where this was found of its series
abbrev pub ends_after : List ℕ → ℕ → Bool → Found → List ℕ
ends_after ends end kept (Known place) = if kept then with_end ends place end else ends
ends_after ends end kept (New hash last) = ends ++ end ∷ []

abbrev pub earlier_after : List ℕ → Found → List ℕ
earlier_after earlier (Known place) = earlier
earlier_after earlier (New hash last) = earlier ++ last ∷ []

abbrev pub last_after : Index → ℕ → Found → ℕ
last_after index h (Known place) = number_of_hash index h
last_after index h (New hash last) = if nat_eq h hash then length index.ends.items + 1 else number_of_hash index h

-- the place of a series of which this was found
abbrev pub place_of : Index → Found → ℕ
place_of index (Known place) = place
place_of index (New hash last) = length index.ends.items

-- the index has the place that was found
abbrev pub IsWithin : Found → Index → Type 0
IsWithin (Known place) index = place < length index.ends.items
IsWithin (New hash last) index = ⊤

-- an entry with an end is noted as well, of which this was found, and of this verdict
pub record IsNoted (old new : Index) (end : ℕ) (found : Found) (verdict : Verdict) : Type 0 where
  pub verdicts : new.verdicts.items ≡ old.verdicts.items ++ verdict ∷ []
  pub places : new.places.items ≡ old.places.items ++ place_of old found ∷ []
  pub ends : new.ends.items ≡ ends_after old.ends.items end (is_kept verdict) found
  pub earlier : new.earlier.items ≡ earlier_after old.earlier.items found
  pub hasher : new.hasher ≡ old.hasher
  pub last : (h : ℕ) → number_of_hash new h ≡ last_after old h found
