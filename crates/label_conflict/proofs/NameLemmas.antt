-- Names that are looked up, and names that no label bears.
use Rattle.std.proofs.Common.{◌≡◌, ℕ, suc, ◌+◌, ◌<◌, Bool, true, false, not, cond, List, [], ◌∷◌, ◌++◌, ◌||◌, length, take, drop, get_or, refl, ap, sym, ◌∙◌, arith, length-append, length-take, Some}
use Rattle.std.specs.Prelude.{map, find, if◌then◌else◌}
use Rattle.std.specs.Borrow.{Bor}
use Rattle.std.specs.List.{list_any}
use Rattle.std.specs.Str.{bytes_eq}
use Rattle.std.specs.Cmp.Lexicographic.{nat_list_eq_equiv}
use Rattle.std.proofs.lemmas.List.{take_more, map-append, length-map, get_or_default}
use Rattle.std.proofs.lemmas.List.Folds.{list_any-append}
use Rattle.std.proofs.lemmas.Slice.Eq.{bytes_eq-Decides}
use Rattle.indexmap.specs.IndexSet.{insert_key}
use Rattle.label_set.specs.Borrowed.{pair_of}
use Rattle.label_set.specs.declared.labels.Label.{Label}
use Rattle.label_set.specs.declared.texts.Pair.{Pair}
use Rattle.label_conflict.specs.Merging.{bears, names_of, exported_names, free_name, settled}
use Rattle.label_conflict.specs.Names.{is_among, AreNames, under, bare}
use Rattle.label_conflict.proofs.FreeLemmas.{free_name_is_free}
use Rattle.label_conflict.proofs.BorrowedLemmas.{settle_next}

abbrev same_text : Bor (List ℕ) → Bor (List ℕ) → Bool
same_text x y = bytes_eq x.now y.now

or_false : (b : Bool) → (b || false) ≡ b
or_false true = refl
or_false false = refl

or_true : (b : Bool) → (b || true) ≡ true
or_true true = refl
or_true false = refl

-- a name that is put among others
among_by : (keys : List (Bor (List ℕ))) (x : Bor (List ℕ)) (q : List ℕ) (b c : Bool) → is_among keys x.now ≡ b → bytes_eq q x.now ≡ c →
    is_among (if b then keys else keys ++ x ∷ []) q ≡ (is_among keys q || c)
among_by keys x q true true e h =
    ap (is_among keys) ((bytes_eq-Decides q x.now).0 h) ∙ e ∙ sym (or_true (is_among keys q))
among_by keys x q true false e h = sym (or_false (is_among keys q))
among_by keys x q false c e h =
    list_any-append (λ (n : Bor (List ℕ)). bytes_eq q n.now) keys (x ∷ [])
    ∙ ap (λ r. is_among keys q || r) (or_false (bytes_eq q x.now) ∙ h)

among_more : (keys : List (Bor (List ℕ))) (x : Bor (List ℕ)) (q : List ℕ) → is_among (insert_key same_text keys x) q ≡ (is_among keys q || bytes_eq q x.now)
among_more keys x q = among_by keys x q (list_any (same_text x) keys) (bytes_eq q x.now) refl refl

bears_more : (ps : List Pair) (p : Pair) (q : List ℕ) → bears (ps ++ p ∷ []) q ≡ (bears ps q || bytes_eq q p.name)
bears_more ps p q =
    list_any-append (λ (r : Pair). bytes_eq r.name q) ps (p ∷ [])
    ∙ ap (λ r. bears ps q || r) (or_false (bytes_eq p.name q) ∙ nat_list_eq_equiv.symm p.name q)

-- the names of one more label
pub names_more : (ls : List Label) (i : ℕ) (d : Label) (keys more : List (Bor (List ℕ))) → i < length ls →
    AreNames keys (map pair_of (take i ls)) → more ≡ insert_key same_text keys (get_or ls i d).name → AreNames more (map pair_of (take (i + 1) ls))
names_more ls i d keys more h known put = λ q.
    let l = get_or ls i d in
    let longer : map pair_of (take (i + 1) ls) ≡ map pair_of (take i ls) ++ pair_of l ∷ [] = ap (map pair_of) (take_more ls i d h) ∙ map-append pair_of (take i ls) (l ∷ []) in
    ap (λ ks. is_among ks q) put
    ∙ among_more keys l.name q
    ∙ ap (λ r. r || bytes_eq q l.name.now) (known q)
    ∙ sym (ap (λ ps. bears ps q) longer ∙ bears_more (map pair_of (take i ls)) (pair_of l) q)

-- labels that bear names bear those alone
pub bears_bare : (names : List (List ℕ)) (q : List ℕ) → bears (bare names) q ≡ list_any (bytes_eq q) names
bears_bare [] q = refl
bears_bare (n ∷ ns) q = λ i. nat_list_eq_equiv.symm n q i || bears_bare ns q i

-- a free name is told by the names alone
bears_names : (ps : List Pair) (q : List ℕ) → bears ps q ≡ list_any (λ n. bytes_eq n q) (names_of ps)
bears_names [] q = refl
bears_names (p ∷ ps) q = ap (λ r. bytes_eq p.name q || r) (bears_names ps q)

find_alike : (f g : List ℕ → Bool) → ((n : List ℕ) → f n ≡ g n) → (names : List (List ℕ)) → find f names ≡ find g names
find_alike f g h [] = refl
find_alike f g h (n ∷ ns) = λ i. cond (h n i) (Some n) (find_alike f g h ns i)

free_alike : (ps qs : List Pair) (name : List ℕ) → names_of ps ≡ names_of qs → free_name ps name ≡ free_name qs name
unfolding free_name
free_alike ps qs name e =
    let many : length ps ≡ length qs = sym (length-map ps (λ (p : Pair). p.name)) ∙ ap length e ∙ length-map qs (λ (p : Pair). p.name) in
    find_alike (λ n. not (bears ps n)) (λ n. not (bears qs n)) (λ n. ap not (bears_names ps n ∙ ap (list_any (λ m. bytes_eq m n)) e ∙ sym (bears_names qs n))) (exported_names (suc (length ps)) name)
    ∙ ap (λ k. find (λ n. not (bears qs n)) (exported_names (suc k) name)) many

names_bare : (names : List (List ℕ)) → names_of (bare names) ≡ names
names_bare [] = refl
names_bare (n ∷ ns) = ap (λ ms. n ∷ ms) (names_bare ns)

names_under : (names : List (List ℕ)) (ps : List Pair) → length names ≡ length ps → names_of (under names ps) ≡ names
names_under [] ps e = refl
names_under (n ∷ ns) [] e = absurd (omega arith)
names_under (n ∷ ns) (p ∷ ps) e = ap (λ ms. n ∷ ms) (names_under ns ps (omega arith))

names_append : (ps qs : List Pair) → names_of (ps ++ qs) ≡ names_of ps ++ names_of qs
names_append ps qs = map-append (λ (p : Pair). p.name) ps qs

pub free_under : (labels : List Pair) (names : List (List ℕ)) (ps : List Pair) (name : List ℕ) → length names ≡ length ps →
    free_name (labels ++ under names ps) name ≡ free_name (labels ++ bare names) name
free_under labels names ps name e =
    free_alike (labels ++ under names ps) (labels ++ bare names) name
    (names_append labels (under names ps)
    ∙ ap (λ ns. names_of labels ++ ns) (names_under names ps e ∙ sym (names_bare names))
    ∙ sym (names_append labels (bare names)))

-- a free name is put last
last_by : (names : List (List ℕ)) (n : List ℕ) (b : Bool) → b ≡ false → (if b then names else names ++ n ∷ []) ≡ names ++ n ∷ []
last_by names n true e = absurd cc
last_by names n false e = refl

second_false : (a b : Bool) → (a || b) ≡ false → b ≡ false
second_false true b e = absurd cc
second_false false b e = e

pub free_last : (labels : List Pair) (names : List (List ℕ)) (name n : List ℕ) → free_name (labels ++ bare names) name ≡ Some n →
    insert_key bytes_eq names n ≡ names ++ n ∷ []
free_last labels names name n e =
    let free : bears (labels ++ bare names) n ≡ false = free_name_is_free (labels ++ bare names) name n e in
    let new : bears (bare names) n ≡ false =
    second_false (bears labels n) (bears (bare names) n) (sym (list_any-append (λ (p : Pair). bytes_eq p.name n) labels (bare names)) ∙ free) in
    last_by names n (list_any (bytes_eq n) names) (sym (bears_bare names n) ∙ new)

-- labels under one more name
pub under_more : (names : List (List ℕ)) (ps : List Pair) (n : List ℕ) (p : Pair) → length names ≡ length ps →
    under (names ++ n ∷ []) (ps ++ p ∷ []) ≡ under names ps ++ record { name = n; value = p.value } ∷ []
under_more [] [] n p e = refl
under_more [] (q ∷ qs) n p e = absurd (omega arith)
under_more (m ∷ ms) [] n p e = absurd (omega arith)
under_more (m ∷ ms) (q ∷ qs) n p e = ap (λ rs. record { name = m; value = q.value } ∷ rs) (under_more ms qs n p (omega arith))

short : {A : Type 0} (names : List A) (ls : List Label) (i : ℕ) → length names ≡ i → i < length ls → length names ≡ length (map pair_of (take i ls))
short names ls i e h = omega (arith, length-map (take i ls) pair_of, length-take i ls)

-- one more conflict gets a name
module _ (ls : List Label) (i : ℕ) (d : Label) (labels all : List Pair) (names more : List (List ℕ)) (n : List ℕ) (inside : i < length ls) (count : length names ≡ i)
    (free : free_name (labels ++ bare names) (get_or ls i d).name.now ≡ Some n) (put : more ≡ insert_key bytes_eq names n) where
  put_last : more ≡ names ++ n ∷ []
  put_last = put ∙ free_last labels names (get_or ls i d).name.now n free

  pub one_more : length more ≡ i + 1
  one_more = ap length put_last ∙ length-append names (n ∷ []) ∙ ap (λ k. k + 1) count

  pub named_next : settled (map pair_of (drop i ls)) (labels ++ under names (map pair_of (take i ls))) ≡ all →
      settled (map pair_of (drop (i + 1) ls)) (labels ++ under more (map pair_of (take (i + 1) ls))) ≡ all
  named_next was =
      let l = get_or ls i d in
      let so_far = map pair_of (take i ls) in
      let as_long : length names ≡ length so_far = short names ls i count inside in
      let longer : map pair_of (take (i + 1) ls) ≡ so_far ++ pair_of l ∷ [] = ap (map pair_of) (take_more ls i d inside) ∙ map-append pair_of (take i ls) (l ∷ []) in
      let new : under more (map pair_of (take (i + 1) ls)) ≡ under names so_far ++ record { name = n; value = l.value.now } ∷ [] =
      ap (under more) longer ∙ ap (λ ns. under ns (so_far ++ pair_of l ∷ [])) put_last ∙ under_more names so_far n (pair_of l) as_long in
      let told : free_name (labels ++ under names so_far) l.name.now ≡ Some n = free_under labels names so_far l.name.now as_long ∙ free in
      ap (λ ps. settled (map pair_of (drop (i + 1) ls)) (labels ++ ps)) new
      ∙ sym (settle_next ls i l labels (under names so_far) n inside (get_or_default ls i d l inside) told)
      ∙ was

-- one more label is put under its new name
pub under_next : (names : List (List ℕ)) (ls : List Label) (i : ℕ) (n : List ℕ) (d : Label) (name : Bor (List ℕ)) (out more : List Label) → length names ≡ length ls → i < length ls →
    n ≡ get_or names i n → name.now ≡ n → map pair_of out ≡ under (take i names) (map pair_of (take i ls)) →
    more ≡ out ++ record { name = name; value = (get_or ls i d).value } ∷ [] → map pair_of more ≡ under (take (i + 1) names) (map pair_of (take (i + 1) ls))
under_next names ls i n d name out more same inside is says was now =
    let l = get_or ls i d in
    let so_far = map pair_of (take i ls) in
    let within : i < length names = omega arith in
    let as_long : length (take i names) ≡ length so_far = short (take i names) ls i (omega (arith, length-take i names)) inside in
    let longer : map pair_of (take (i + 1) ls) ≡ so_far ++ pair_of l ∷ [] = ap (map pair_of) (take_more ls i d inside) ∙ map-append pair_of (take i ls) (l ∷ []) in
    let named : take (i + 1) names ≡ take i names ++ n ∷ [] = take_more names i n within ∙ ap (λ x. take i names ++ x ∷ []) (sym is) in
    ap (map pair_of) now
    ∙ map-append pair_of out (record { name = name; value = l.value } ∷ [])
    ∙ ap (λ ps. ps ++ record { name = name.now; value = l.value.now } ∷ []) was
    ∙ ap (λ m. under (take i names) so_far ++ record { name = m; value = l.value.now } ∷ []) says
    ∙ sym (under_more (take i names) so_far n (pair_of l) as_long)
    ∙ sym (ap (λ ns. under ns (map pair_of (take (i + 1) ls))) named ∙ ap (under (take i names ++ n ∷ [])) longer)
