-- Labels, one at a time, and their names.
use Rattle.std.proofs.Common.{◌≡◌, ℕ, suc, zero, ◌+◌, ◌<◌, ◌≤◌, Bool, true, false, not, ◌||◌, List, [], ◌∷◌, ◌++◌, length, take, drop, refl, sym, ap, ◌∙◌, arith, get_or, Option, Some, None, option_map, option_and_then, is_some, append_assoc, append-nil, add-one, drop-cons, if◌then◌else◌, map}
use Rattle.std.specs.Borrow.{Bor}
use Rattle.std.specs.List.{list_any}
use Rattle.std.specs.Str.{bytes_eq}
use Rattle.std.proofs.lemmas.List.{map-append, take_more}
use Rattle.std.proofs.lemmas.Bool.{not-false, not-true}
use Rattle.std.proofs.Math.ListN.{drop_of_length-le}
use Rattle.label_set.specs.Bytes.{is_label_name}
use Rattle.label_set.specs.declared.texts.Pair.{Pair}
use Rattle.label_set.specs.SetText.{metric_label}
use Rattle.expo_reader.specs.Bodies.{has_metric_label, names_of}
use Rattle.expo_reader.specs.Forms.{closed_or, names_differ, names_differ_from, with_first}
use Rattle.expo_reader.specs.Texts.{word_at, mark_at, text_at, text_value}
use Rattle.expo_reader.specs.declared.faults.Fault.{Fault}
use Rattle.expo_reader.specs.declared.faults.Fault.TheVariants.{Faulty, NoMemory}
use Rattle.expo_reader.specs.Faults.{FaultIs}
use Rattle.om_reader.specs.Forms.{after_label, braced, differing, label_and_more, label_at, labels_at, named_label, valued_label}

-- a label by its parts
pub label-no_word : (bs : List ℕ) → word_at bs ≡ None → label_at bs ≡ None
unfolding label_at
label-no_word bs e = ap named_label e

pub label-no_text : (name text rest : List ℕ) → text_value text ≡ None → valued_label name (Some (text, rest)) ≡ None
label-no_text name text rest e = by_name (is_label_name name) refl
  where
    by_name : (b : Bool) → is_label_name name ≡ b → valued_label name (Some (text, rest)) ≡ None
    by_name true t = rw (t, e) refl
    by_name false t = rw t refl

none-then : {A B : Type 0} (f : A → Option B) → ((x : A) → f x ≡ None) → (o : Option A) → option_and_then f o ≡ None
none-then f h None = refl
none-then f h (Some x) = h x

module _ (bs name rest : List ℕ) (word : word_at bs ≡ Some (name, rest)) where
  pub label-no_name : is_label_name name ≡ false → label_at bs ≡ None
  unfolding label_at
  label-no_name e = ap named_label word ∙ none-then (λ (quoted : List ℕ). valued_label name (text_at quoted)) (λ quoted. by_text (text_at quoted)) (mark_at 61 rest)
    where
      by_text : (o : Option (List ℕ × List ℕ)) → valued_label name o ≡ None
      by_text None = refl
      by_text (Some (text, after)) = rw e refl

  pub label-no_mark : mark_at 61 rest ≡ None → label_at bs ≡ None
  unfolding label_at
  label-no_mark e = ap named_label word ∙ rw e refl

  pub by_text : (quoted : List ℕ) → mark_at 61 rest ≡ Some quoted → label_at bs ≡ valued_label name (text_at quoted)
  unfolding label_at
  by_text quoted mark = ap named_label word ∙ rw mark refl

  pub label-fault : (quoted : List ℕ) → mark_at 61 rest ≡ Some quoted → (f : Fault) → FaultIs f (valued_label name (text_at quoted)) → FaultIs f (label_at bs)
  label-fault quoted mark Faulty e = by_text quoted mark ∙ e
  label-fault quoted mark NoMemory e = tt

-- the label of a text that writes a value
pub written : (name text rest : List ℕ) → is_label_name name ≡ true → is_some (text_value text) ≡ true →
    (p : Pair) × (valued_label name (Some (text, rest)) ≡ Some (p, rest)) × (p.name ≡ name)
written name text rest named e = by_value (text_value text) refl e
  where
    by_value : (o : Option (List ℕ)) → text_value text ≡ o → is_some o ≡ true → (p : Pair) × (valued_label name (Some (text, rest)) ≡ Some (p, rest)) × (p.name ≡ name)
    by_value None t s = absurd cc
    by_value (Some value) t s = (record { name = name; value = value }, rw (named, t) refl, refl)

none-value : (o : Option (List ℕ)) → is_some o ≡ false → o ≡ None
none-value None s = refl
none-value (Some value) s = absurd cc

pub not-written : (name text rest : List ℕ) → is_some (text_value text) ≡ false → valued_label name (Some (text, rest)) ≡ None
not-written name text rest e = label-no_text name text rest (none-value (text_value text) e)

-- labels in front of those that are found
abbrev pub put : List Pair → Option (List Pair × List ℕ) → Option (List Pair × List ℕ)
put xs None = None
put xs (Some (labels, rest)) = Some (xs ++ labels, rest)

-- with the labels so far, the rest gives what is wanted
abbrev pub Reaches : List Pair → List ℕ → Option (List Pair × List ℕ) → Type 0
Reaches xs bs total = (k : ℕ) × (length bs < k) × (put xs (labels_at k bs) ≡ total)

put-twice : (xs : List Pair) (x : Pair) (o : Option (List Pair × List ℕ)) → put xs (with_first x o) ≡ put (xs ++ x ∷ []) o
put-twice xs x None = refl
put-twice xs x (Some (labels, rest)) = ap (λ l. Some (l, rest)) (sym (append_assoc xs (x ∷ []) labels))

put-nil : (o : Option (List Pair × List ℕ)) → put [] o ≡ o
put-nil None = refl
put-nil (Some (labels, rest)) = refl

pub reaches-start : (bs : List ℕ) → Reaches [] bs (labels_at (length bs + 1) bs)
reaches-start bs = (length bs + 1, omega arith, put-nil _)

module _ (xs : List Pair) (bs : List ℕ) (total : Option (List Pair × List ℕ)) where
  open_step : (n : ℕ) → put xs (labels_at (suc n) bs) ≡ put xs (label_and_more (λ next. labels_at n next) (label_at bs))
  unfolding labels_at
  open_step n = refl

  fault : (f : Fault) → FaultIs f (label_at bs) → (k : ℕ) → length bs < k → put xs (labels_at k bs) ≡ total → FaultIs f total
  fault NoMemory e k h t = tt
  fault Faulty e zero h t = absurd (omega arith)
  fault Faulty e (suc n) h t = sym t ∙ open_step n ∙ ap (λ o. put xs (label_and_more (λ next. labels_at n next) o)) e

  pub labels-fault : (f : Fault) → FaultIs f (label_at bs) → Reaches xs bs total → FaultIs f total
  labels-fault f e r = fault f e r.0 r.1 r.2

  module _ (label : Pair) (rest : List ℕ) (found : label_at bs ≡ Some (label, rest)) (less : length rest < length bs) where
    label_step : (n : ℕ) → put xs (labels_at (suc n) bs) ≡ put (xs ++ label ∷ []) (after_label (λ next. labels_at n next) rest (mark_at 44 rest))
    label_step n = open_step n ∙ ap (λ o. put xs (label_and_more (λ next. labels_at n next) o)) found ∙ put-twice xs label _

    module _ (comma : mark_at 44 rest ≡ None) where
      last : (o : Option (List ℕ)) → mark_at 125 rest ≡ o → (k : ℕ) → length bs < k → put xs (labels_at k bs) ≡ total →
          put (xs ++ label ∷ []) (option_map (λ (r : List ℕ). ([], r)) o) ≡ total
      last o e zero h t = absurd (omega arith)
      last o e (suc n) h t =
          sym (label_step n ∙ ap (λ m. put (xs ++ label ∷ []) (after_label (λ next. labels_at n next) rest m)) comma
          ∙ ap (λ m. put (xs ++ label ∷ []) (option_map (λ (r : List ℕ). ([], r)) m)) e) ∙ t

      pub labels-last : (after : List ℕ) → mark_at 125 rest ≡ Some after → Reaches xs bs total → total ≡ Some (xs ++ label ∷ [], after)
      labels-last after e r = sym (last (Some after) e r.0 r.1 r.2) ∙ ap (λ l. Some (l, after)) (append-nil (xs ++ label ∷ []))

      pub labels-open : mark_at 125 rest ≡ None → Reaches xs bs total → total ≡ None
      labels-open e r = sym (last None e r.0 r.1 r.2)

    module _ (next : List ℕ) (comma : mark_at 44 rest ≡ Some next) (fewer : length next < length rest) where
      on : (k : ℕ) → length bs < k → put xs (labels_at k bs) ≡ total → Reaches (xs ++ label ∷ []) next total
      on zero h t = absurd (omega arith)
      on (suc n) h t =
          (n, omega (arith, less, fewer, h), sym (label_step n ∙ ap (λ m. put (xs ++ label ∷ []) (after_label (λ next. labels_at n next) rest m)) comma) ∙ t)

      pub labels-more : Reaches xs bs total → Reaches (xs ++ label ∷ []) next total
      labels-more r = on r.0 r.1 r.2

-- labels that were added so far, and what the rest gives; the names are those of the labels
pub record HasAdded (old new : List (List ℕ)) (bs : List ℕ) (total : Option (List Pair × List ℕ)) : Type 0 where
  pub more : List Pair
  pub items : new ≡ old ++ names_of more
  pub reaches : Reaches more bs total

pub names-more : (old : List (List ℕ)) (more : List Pair) (p : Pair) → (old ++ names_of more) ++ p.name ∷ [] ≡ old ++ names_of (more ++ p ∷ [])
names-more old more p = append_assoc old (names_of more) (p.name ∷ []) ∙ ap (λ l. old ++ l) (sym (map-append (λ (q : Pair). q.name) more (p ∷ [])))

-- a test of the names
pub any-name : (test : List ℕ → Bool) (xs : List Pair) → list_any (λ (x : Pair). test x.name) xs ≡ list_any test (names_of xs)
any-name test [] = refl
any-name test (x ∷ xs) = ap (λ b. test x.name || b) (any-name test xs)

-- the names that a set has seen
abbrev pub names_seen : List (Bor (List ℕ)) → List (List ℕ)
names_seen keys = map (λ (n : Bor (List ℕ)). n.now) keys

-- names that differ, one at a time
module _ (seen : List (List ℕ)) (xs : List (List ℕ)) (i : ℕ) where
  module _ (x : List ℕ) (at : x ≡ get_or xs i x) (h : i < length xs) where
    there : drop i xs ≡ x ∷ drop (i + 1) xs
    there = rw (add-one, drop-cons xs i x) (ap (λ (y : List ℕ). y ∷ drop (suc i) xs) (sym at))

    pub differ-again : list_any (bytes_eq x) seen ≡ true → names_differ_from seen (drop i xs) ≡ false
    unfolding names_differ_from
    differ-again e = ap (names_differ_from seen) there ∙ rw e refl

    pub differ-more : list_any (bytes_eq x) seen ≡ false → names_differ_from (seen ++ x ∷ []) (drop (i + 1) xs) ≡ names_differ_from seen (drop i xs)
    unfolding names_differ_from
    differ-more e = sym (ap (names_differ_from seen) there ∙ rw e refl)

  pub differ-end : length xs ≤ i → names_differ_from seen (drop i xs) ≡ true
  unfolding names_differ_from
  differ-end h = ap (names_differ_from seen) (drop_of_length-le xs h)

-- the names in front of a place, and one more
pub next-name : (xs : List (List ℕ)) (i : ℕ) (x : List ℕ) → x ≡ get_or xs i x → i < length xs → list_any (bytes_eq x) (take i xs) ≡ false →
    names_differ_from (take (i + 1) xs) (drop (i + 1) xs) ≡ names_differ_from (take i xs) (drop i xs)
next-name xs i x at h e =
    ap (λ (l : List (List ℕ)). names_differ_from l (drop (i + 1) xs)) (take_more xs i x h ∙ ap (λ (y : List ℕ). take i xs ++ y ∷ []) (sym at))
    ∙ differ-more (take i xs) xs i x at h e

-- a name that goes into the set of those seen
any-seen : (x : List ℕ) (keys : List (Bor (List ℕ))) → list_any (λ (n : Bor (List ℕ)). bytes_eq x n.now) keys ≡ list_any (bytes_eq x) (names_seen keys)
any-seen x [] = refl
any-seen x (k ∷ keys) = ap (λ b. bytes_eq x k.now || b) (any-seen x keys)

module _ (keys : List (Bor (List ℕ))) (x : Bor (List ℕ)) where
  module _ (b : Bool) (added : b ≡ not (list_any (λ (n : Bor (List ℕ)). bytes_eq x.now n.now) keys)) where
    pub again-seen : b ≡ false → list_any (bytes_eq x.now) (names_seen keys) ≡ true
    again-seen e = sym (any-seen x.now keys) ∙ not-false (list_any (λ (n : Bor (List ℕ)). bytes_eq x.now n.now) keys) (sym added ∙ e)

    pub first-seen : b ≡ true → list_any (bytes_eq x.now) (names_seen keys) ≡ false
    first-seen e = sym (any-seen x.now keys) ∙ not-true (list_any (λ (n : Bor (List ℕ)). bytes_eq x.now n.now) keys) (sym added ∙ e)

  pub seen-more : (new : List (Bor (List ℕ))) → new ≡ (if list_any (λ (n : Bor (List ℕ)). bytes_eq x.now n.now) keys then keys else (keys ++ x ∷ [])) →
      list_any (bytes_eq x.now) (names_seen keys) ≡ false → names_seen new ≡ names_seen keys ++ x.now ∷ []
  seen-more new more first =
      let none : list_any (λ (n : Bor (List ℕ)). bytes_eq x.now n.now) keys ≡ false = any-seen x.now keys ∙ first in
      ap names_seen (more ∙ rw none refl) ∙ map-append (λ (n : Bor (List ℕ)). n.now) keys (x ∷ [])

-- all labels behind a brace
pub braced-none : (bs rest : List ℕ) → mark_at 125 bs ≡ Some rest → braced bs ≡ Some ([], rest)
unfolding braced names_differ_from
braced-none bs rest e = ap (λ o. differing (closed_or o (labels_at (length bs + 1) bs))) e

pub braced-labels : (bs : List ℕ) (o : Option (List Pair × List ℕ)) → mark_at 125 bs ≡ None → labels_at (length bs + 1) bs ≡ o → braced bs ≡ differing o
unfolding braced
braced-labels bs o e l = ap (λ m. differing (closed_or m (labels_at (length bs + 1) bs))) e ∙ ap differing l

pub braced-fault : (bs : List ℕ) → mark_at 125 bs ≡ None → (f : Fault) → FaultIs f (labels_at (length bs + 1) bs) → FaultIs f (braced bs)
braced-fault bs e Faulty l = braced-labels bs None e l
braced-fault bs e NoMemory l = tt

module _ (bs rest : List ℕ) (labels : List Pair) (opened : mark_at 125 bs ≡ None) (found : labels_at (length bs + 1) bs ≡ Some (labels, rest)) (names : List (List ℕ)) (names_is : names ≡ names_of labels)
    (differ : Bool) (test : differ ≡ names_differ_from [] names) where
  same-test : differ ≡ names_differ labels
  same-test = test ∙ ap (names_differ_from []) names_is

  pub braced-some : differ ≡ true → braced bs ≡ Some (labels, rest)
  braced-some e = braced-labels bs (Some (labels, rest)) opened found ∙ (let d : names_differ labels ≡ true = sym same-test ∙ e in rw d refl)

  pub braced-twice : differ ≡ false → braced bs ≡ None
  braced-twice e = braced-labels bs (Some (labels, rest)) opened found ∙ (let d : names_differ labels ≡ false = sym same-test ∙ e in rw d refl)

-- whether a label is `__name__`
pub has-metric : (names : List (List ℕ)) (labels : List Pair) (b : Bool) → b ≡ list_any (λ (n : List ℕ). bytes_eq n metric_label) names → names ≡ names_of labels → b ≡ has_metric_label labels
has-metric names labels b test is = test ∙ ap (list_any (λ (n : List ℕ). bytes_eq n metric_label)) is ∙ sym (any-name (λ (n : List ℕ). bytes_eq n metric_label) labels)
