-- Bytes of labels are read back.
use Rattle.std.proofs.Common.{arith, ◌≡◌, ℕ, ◌+◌, ◌*◌, ◌/◌, ◌%◌, ◌<◌, ◌≤◌, ◌^◌, suc, zero, List, [], ◌∷◌, ◌++◌, length, take, drop, refl, sym, ap, ◌∙◌, subst, length-append, append_assoc, ◌==◌}
use Rattle.std.specs.Int.{w64, to_le_bytes, from_le_bytes}
use Rattle.std.proofs.lemmas.Bool.Decides.{nat_tests}
use Rattle.std.proofs.lemmas.Nat.{from_le_bytes-to_le_bytes_8}
use Rattle.label_set.specs.declared.texts.Pair.{Pair}
use Rattle.label_set.specs.Sets.{IsSet}
use Rattle.label_set.specs.Flat.{flat_label, flat, name_len, value_len, first_label, after_first, labels_within, labels_of, IsLabel, AreLabels, IsFlat, IsFlatSet}

pub take_front : (xs ys : List ℕ) → take (length xs) (xs ++ ys) ≡ xs
take_front [] ys = refl
take_front (x ∷ xs) ys = ap (λ zs. x ∷ zs) (take_front xs ys)

drop_front : (xs ys : List ℕ) → drop (length xs) (xs ++ ys) ≡ ys
drop_front [] ys = refl
drop_front (x ∷ xs) ys = drop_front xs ys

head_read : (p : Pair) → IsLabel p → from_le_bytes w64 (to_le_bytes w64 (length p.name + length p.value * 4294967296)) ≡ length p.name + length p.value * 4294967296
head_read p h =
    let name = h.name_fits in
    let value = h.value_fits in
    from_le_bytes-to_le_bytes_8 (length p.name + length p.value * 4294967296) (omega arith)

low_part : (n v : ℕ) → n < 2 ^ 32 → (n + v * 4294967296) % 4294967296 ≡ n
low_part n v h = omega arith

high_part : (n v : ℕ) → n < 2 ^ 32 → (n + v * 4294967296) / 4294967296 ≡ v
high_part n v h = omega arith

name_len-flat : (p : Pair) (rest : List ℕ) → IsLabel p → name_len (flat_label p ++ rest) ≡ length p.name
unfolding name_len flat_label
name_len-flat p rest h = ap (λ n. n % 4294967296) (head_read p h) ∙ low_part (length p.name) (length p.value) h.name_fits

value_len-flat : (p : Pair) (rest : List ℕ) → IsLabel p → value_len (flat_label p ++ rest) ≡ length p.value
unfolding value_len flat_label
value_len-flat p rest h = ap (λ n. n / 4294967296) (head_read p h) ∙ high_part (length p.name) (length p.value) h.name_fits

name_at : (p : Pair) (rest : List ℕ) → IsLabel p → take (name_len (flat_label p ++ rest)) ((p.name ++ p.value) ++ rest) ≡ p.name
name_at p rest h =
    ap (λ n. take n ((p.name ++ p.value) ++ rest)) (name_len-flat p rest h) ∙ ap (take (length p.name)) (append_assoc p.name p.value rest) ∙ take_front p.name (p.value ++ rest)

past_name : (p : Pair) (rest : List ℕ) → IsLabel p → drop (name_len (flat_label p ++ rest)) ((p.name ++ p.value) ++ rest) ≡ p.value ++ rest
past_name p rest h =
    ap (λ n. drop n ((p.name ++ p.value) ++ rest)) (name_len-flat p rest h) ∙ ap (drop (length p.name)) (append_assoc p.name p.value rest) ∙ drop_front p.name (p.value ++ rest)

value_at : (p : Pair) (rest : List ℕ) → IsLabel p → take (value_len (flat_label p ++ rest)) (drop (name_len (flat_label p ++ rest)) ((p.name ++ p.value) ++ rest)) ≡ p.value
value_at p rest h =
    ap (take (value_len (flat_label p ++ rest))) (past_name p rest h) ∙ ap (λ n. take n (p.value ++ rest)) (value_len-flat p rest h) ∙ take_front p.value rest

past_value : (p : Pair) (rest : List ℕ) → IsLabel p → drop (value_len (flat_label p ++ rest)) (drop (name_len (flat_label p ++ rest)) ((p.name ++ p.value) ++ rest)) ≡ rest
past_value p rest h =
    ap (drop (value_len (flat_label p ++ rest))) (past_name p rest h) ∙ ap (λ n. drop n (p.value ++ rest)) (value_len-flat p rest h) ∙ drop_front p.value rest

first_label-flat : (p : Pair) (rest : List ℕ) → IsLabel p → first_label (flat_label p ++ rest) ≡ p
unfolding first_label flat_label
first_label-flat p rest h =
    ap (λ n. record { name = n; value = take (value_len (flat_label p ++ rest)) (drop (name_len (flat_label p ++ rest)) ((p.name ++ p.value) ++ rest)) }) (name_at p rest h) ∙ ap (λ v. record { name = p.name; value = v }) (value_at p rest h)

after_first-flat : (p : Pair) (rest : List ℕ) → IsLabel p → after_first (flat_label p ++ rest) ≡ rest
unfolding after_first flat_label
after_first-flat p rest h = past_value p rest h

length_label : (p : Pair) (rest : List ℕ) → length (flat_label p ++ rest) ≡ 8 + (length p.name + length p.value) + length rest
unfolding flat_label
length_label p rest = omega (arith, length-append (p.name ++ p.value) rest, length-append p.name p.value)

own_length : (p : Pair) → length (flat_label p) ≡ 8 + length p.name + length p.value
unfolding flat_label
own_length p = omega (arith, length-append p.name p.value)

count_within : (ps : List Pair) → length ps ≤ length (flat ps)
unfolding flat
count_within [] = omega arith
count_within (p ∷ ps) = omega (arith, length_label p (flat ps), count_within ps)

labels_within-flat : (k : ℕ) (ps : List Pair) → AreLabels ps → length ps ≤ k → labels_within k (flat ps) ≡ ps
unfolding flat flat_label labels_within
labels_within-flat zero [] h le = refl
labels_within-flat zero (p ∷ ps) h le = absurd (omega arith)
labels_within-flat (suc k) [] h le = refl
labels_within-flat (suc k) (p ∷ ps) h le =
    ap (λ q. q ∷ labels_within k (after_first (flat_label p ++ flat ps))) (first_label-flat p (flat ps) h.0) ∙ ap (λ bs. p ∷ labels_within k bs) (after_first-flat p (flat ps) h.0) ∙ ap (λ qs. p ∷ qs) (labels_within-flat k ps h.1 (omega arith))

pub labels_of-flat : (ps : List Pair) → AreLabels ps → labels_of (flat ps) ≡ ps
unfolding labels_of
labels_of-flat ps h = labels_within-flat (length (flat ps)) ps h (count_within ps)

pub IsFlat-flat : (ps : List Pair) → AreLabels ps → IsFlat (flat ps)
IsFlat-flat ps h =
    let same = labels_of-flat ps h in
    record { bytes = ap flat (sym same); labels = subst AreLabels (sym same) h }

-- what the code reads at the front of bytes
pub record First (bs : List ℕ) : Type 0 where
  pub head : 8 ≤ length bs
  pub name_in : name_len bs ≤ length (drop 8 bs)
  pub value_in : value_len bs ≤ length (drop (name_len bs) (drop 8 bs))
  pub label : IsLabel (first_label bs)
  pub rest : IsFlat (after_first bs)
  pub labels : labels_of bs ≡ first_label bs ∷ labels_of (after_first bs)
  pub bytes : bs ≡ flat_label (first_label bs) ++ after_first bs
  pub size : length (flat_label (first_label bs)) ≡ 8 + name_len bs + value_len bs

first_of_flat : (p : Pair) (ps : List Pair) → IsLabel p → AreLabels ps → First (flat_label p ++ flat ps)
unfolding flat flat_label
first_of_flat p ps h hs =
    let label = first_label-flat p (flat ps) h in
    let after = after_first-flat p (flat ps) h in
    let all : labels_of (flat_label p ++ flat ps) ≡ p ∷ ps = labels_of-flat (p ∷ ps) (h, hs) in
    let others : labels_of (after_first (flat_label p ++ flat ps)) ≡ ps = ap labels_of after ∙ labels_of-flat ps hs in
    record {
      head = omega (arith, length_label p (flat ps));
      name_in = subst (λ (n : ℕ). n ≤ length ((p.name ++ p.value) ++ flat ps)) (sym (name_len-flat p (flat ps) h)) (omega (arith, length-append (p.name ++ p.value) (flat ps), length-append p.name p.value));
      value_in = subst (λ (xs : List ℕ). value_len (flat_label p ++ flat ps) ≤ length xs) (sym (past_name p (flat ps) h)) (subst (λ (n : ℕ). n ≤ length (p.value ++ flat ps)) (sym (value_len-flat p (flat ps) h)) (omega (arith, length-append p.value (flat ps))));
      label = subst IsLabel (sym label) h;
      rest = subst IsFlat (sym after) (IsFlat-flat ps hs);
      labels = all ∙ ap (λ q. q ∷ ps) (sym label) ∙ ap (λ qs. first_label (flat_label p ++ flat ps) ∷ qs) (sym others);
      bytes = ap (λ q. flat_label q ++ flat ps) (sym label) ∙ ap (λ bs. flat_label (first_label (flat_label p ++ flat ps)) ++ bs) (sym after);
      size = ap (λ q. length (flat_label q)) label ∙ own_length p ∙ ap (λ n. 8 + n + length p.value) (sym (name_len-flat p (flat ps) h)) ∙ ap (λ n. 8 + name_len (flat_label p ++ flat ps) + n) (sym (value_len-flat p (flat ps) h));
    }

first_by : (bs : List ℕ) (ps : List Pair) → bs ≡ flat ps → AreLabels ps → 0 < length bs → First bs
unfolding flat
first_by bs [] e h some = absurd (omega (arith, ap length e))
first_by bs (p ∷ ps) e h some = subst First (sym e) (first_of_flat p ps h.0 h.1)

pub first_of : (bs : List ℕ) → IsFlat bs → 0 < length bs → First bs
first_of bs h some = first_by bs (labels_of bs) h.bytes h.labels some

pub no_labels : (bs : List ℕ) → length bs ≡ 0 → labels_of bs ≡ []
unfolding labels_of labels_within
no_labels [] e = refl
no_labels (b ∷ bs) e = absurd (omega arith)

pub IsFlatSet-empty : IsFlatSet []
unfolding flat
IsFlatSet-empty =
    let none = no_labels [] refl in
    record { flat = IsFlat-flat [] tt; set = subst IsSet (sym none) tt }

pub nothing : labels_of [] ≡ []
nothing = no_labels [] refl

zero_tests : (m n : ℕ) → (m ≡ 0 → n ≡ 0) → (n ≡ 0 → m ≡ 0) → (m == 0) ≡ (n == 0)
zero_tests m n e f = grind (arith, nat_tests)

-- there are labels where there are bytes
some_by : (bs : List ℕ) (ps : List Pair) → bs ≡ flat ps → (length bs == 0) ≡ (length ps == 0)
unfolding flat
some_by bs [] e = ap (λ xs. length xs == 0) e
some_by bs (p ∷ ps) e =
    let n = length_label p (flat ps) in
    let m : length bs ≡ length (flat_label p ++ flat ps) = ap length e in
    zero_tests (length bs) (length (p ∷ ps)) (λ z. absurd (omega arith)) (λ z. absurd (omega arith))

pub some_alike : (bs : List ℕ) → IsFlat bs → (length bs == 0) ≡ (length (labels_of bs) == 0)
some_alike bs h = some_by bs (labels_of bs) h.bytes

pub count_of : (bs : List ℕ) → IsFlat bs → length (labels_of bs) ≤ length bs
count_of bs h = subst (λ (xs : List ℕ). length (labels_of bs) ≤ length xs) (sym h.bytes) (count_within (labels_of bs))

module _ (bs : List ℕ) (f : First bs) where
  pub first_whole : 8 + name_len bs + value_len bs ≤ length bs
  first_whole = omega (arith, f.size, ap length f.bytes, length-append (flat_label (first_label bs)) (after_first bs))

  pub first_bytes : take (8 + name_len bs + value_len bs) bs ≡ flat_label (first_label bs)
  first_bytes = ap (λ n. take n bs) (sym f.size) ∙ ap (take (length (flat_label (first_label bs)))) f.bytes ∙ take_front (flat_label (first_label bs)) (after_first bs)

  pub first_others : drop (8 + name_len bs + value_len bs) bs ≡ after_first bs
  first_others = ap (λ n. drop n bs) (sym f.size) ∙ ap (drop (length (flat_label (first_label bs)))) f.bytes ∙ drop_front (flat_label (first_label bs)) (after_first bs)

-- labels of the same bytes are the same
pub same_label : (p q : Pair) → IsLabel p → IsLabel q → flat_label p ≡ flat_label q → p ≡ q
same_label p q h k e = sym (first_label-flat p [] h) ∙ ap (λ bs. first_label (bs ++ [])) e ∙ first_label-flat q [] k
