-- Label sets without empty names, and what is made of them.
use Rattle.std.proofs.Common.{◌≡◌, ◌≢◌, ℕ, Bool, true, false, not, cond, List, [], ◌∷◌, All, get_or, length, find, flat_map, IfSome, Some, ◌==◌}
use Rattle.std.specs.Ordering.{match_ordering}
use Rattle.std.specs.declared.cmp.Ordering.{Ordering}
use Rattle.std.specs.declared.cmp.Ordering.TheVariants.{Less, Equal, Greater}
use Rattle.std.specs.BTreeSet.{insert_key}
use Rattle.std.proofs.lemmas.Bool.{false≢true}
use Rattle.std.proofs.lemmas.List.Elements.{All-nil, All-cons, All-head, All-tail, All-append, All-filter}
use Rattle.label_set.specs.Bytes.{is_label_name}
use Rattle.label_set.specs.Lasts.{with_labels}
use Rattle.label_set.specs.Sets.{above, below, set_cmp, with_label}
use Rattle.label_set.specs.declared.texts.Pair.{Pair}
use Rattle.label_conflict.specs.Orders.{in_order, placed}
use Rattle.series_cache.specs.Sets.{rising}
use Rattle.named_series.specs.Named.{HasLabels}

-- lists of any kind
module _ {X : Type 0} (P : X → Type 0) where
  -- what a search finds
  pub found-all : (test : X → Bool) (xs : List X) → All P xs → IfSome (find test xs) P
  found-all test [] h = tt
  found-all test (x ∷ xs) h = by (test x) (All-head P x xs h) (found-all test xs (All-tail P x xs h))
    where
      by : (b : Bool) → P x → IfSome (find test xs) P → IfSome (cond b (Some x) (find test xs)) P
      by true p r = p
      by false p r = r

  -- lists that are joined
  pub joined-all : {Y : Type 0} (f : Y → List X) (ys : List Y) → All (λ y. All P (f y)) ys → All P (flat_map f ys)
  joined-all f [] h = All-nil P
  joined-all f (y ∷ ys) h =
      All-append P (f y) (flat_map f ys) (All-head (λ z. All P (f z)) y ys h)
      (joined-all f ys (All-tail (λ z. All P (f z)) y ys h))

  -- what holds of everything
  pub every-all : ((x : X) → P x) → (xs : List X) → All P xs
  every-all f xs k d lt = f (get_or xs k d)

-- a name with a byte
abbrev pub IsFilled : List ℕ → Type 0
IsFilled name = name ≢ []

pub byte-filled : (b : ℕ) (bs : List ℕ) → IsFilled (b ∷ bs)
byte-filled b bs e = absurd cc

pub long-filled : (name : List ℕ) → not (length name == 0) ≡ true → IsFilled name
long-filled [] e = absurd (false≢true e)
long-filled (b ∷ bs) e = byte-filled b bs

pub name-filled : (name : List ℕ) → is_label_name name ≡ true → IsFilled name
name-filled [] e = absurd (false≢true e)
name-filled (b ∷ bs) e = byte-filled b bs

-- a label with such a name
abbrev pub IsLabelled : Pair → Type 0
IsLabelled p = IsFilled p.name

abbrev pub labelled : List ℕ → List ℕ → Pair
labelled name value = record { name = name; value = value }

pub label-alone : (name value : List ℕ) → IsFilled name → HasLabels (labelled name value ∷ [])
label-alone name value n = All-cons IsLabelled (labelled name value) [] n (All-nil IsLabelled)

-- a set with one more label, and with several
pub label-with : (set : List Pair) (name value : List ℕ) → IsFilled name → HasLabels set →
    HasLabels (with_label set name value)
label-with set name [] n h =
    All-append IsLabelled (below name set) (above name set) (All-filter _ IsLabelled set h)
    (All-filter _ IsLabelled set h)
label-with set name (b ∷ bs) n h =
    All-append IsLabelled (below name set) (labelled name (b ∷ bs) ∷ above name set) (All-filter _ IsLabelled set h)
    (All-cons IsLabelled (labelled name (b ∷ bs)) (above name set) n (All-filter _ IsLabelled set h))

pub labels-with : (set ps : List Pair) → HasLabels set → HasLabels ps → HasLabels (with_labels set ps)
labels-with set [] h k = h
labels-with set (p ∷ ps) h k =
    labels-with (with_label set p.name p.value) ps (label-with set p.name p.value (All-head IsLabelled p ps k) h)
    (All-tail IsLabelled p ps k)

-- labels in an order
module _ (cmp : Pair → Pair → Ordering) where
  placed-labels : (p : Pair) (ps : List Pair) → IsLabelled p → HasLabels ps → HasLabels (placed cmp p ps)
  placed-labels p ps n h =
      All-append IsLabelled _ _ (All-filter _ IsLabelled ps h)
      (All-cons IsLabelled p _ n (All-filter _ IsLabelled ps h))

  pub ordered-labels : (ps : List Pair) → HasLabels ps → HasLabels (in_order cmp ps)
  ordered-labels [] h = h
  ordered-labels (p ∷ ps) h =
      placed-labels p (in_order cmp ps) (All-head IsLabelled p ps h) (ordered-labels ps (All-tail IsLabelled p ps h))

-- sets in rising order
inserted : (xs : List (List Pair)) (k : List Pair) → All HasLabels xs → HasLabels k →
    All HasLabels (insert_key set_cmp xs k)
inserted [] k a h = All-cons HasLabels k [] h a
inserted (x ∷ xs) k a h = by (set_cmp k x) (inserted xs k (All-tail HasLabels x xs a) h)
  where
    by : (o : Ordering) → All HasLabels (insert_key set_cmp xs k) →
        All HasLabels (match_ordering o (k ∷ x ∷ xs) (x ∷ xs) (x ∷ insert_key set_cmp xs k))
    by Less r = All-cons HasLabels k (x ∷ xs) h a
    by Equal r = a
    by Greater r = All-cons HasLabels x (insert_key set_cmp xs k) (All-head HasLabels x xs a) r

pub rising-labels : (xs : List (List Pair)) → All HasLabels xs → All HasLabels (rising xs)
rising-labels [] a = a
rising-labels (x ∷ xs) a =
    inserted (rising xs) x (rising-labels xs (All-tail HasLabels x xs a)) (All-head HasLabels x xs a)
