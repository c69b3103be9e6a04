-- Names, byte by byte.
use Rattle.std.proofs.Common.{◌≡◌, ℕ, ◌<◌, true, false, not, ◌&&◌, List, [], ◌∷◌, length, arith, IsTrue, ◌==◌, slice_index, refl}
use Rattle.std.specs.List.{list_all}
use Rattle.std.specs.Str.{IsUtf8}
use Rattle.std.proofs.lemmas.Str.{IsUtf8-from_ascii}
use Rattle.std.proofs.lemmas.Bool.Decides.{nat_tests}
use Rattle.std.proofs.lemmas.Grind.{common_steps}
use Rattle.label_set.specs.Bytes.{is_label_name, is_metric_name, is_name_byte, is_name_start, is_metric_byte, is_metric_start}
use Rattle.expo_lexer.specs.Tokens.{is_blank}
use Rattle.expo_reader.proofs.FrontLemmas.{both}
use Rattle.expo_reader.proofs.NameLemmas.{all-ascii}

name_byte-ascii : (b : ℕ) → is_name_byte b ≡ true → b < 128
unfolding is_name_byte is_name_start
name_byte-ascii b e = grind (arith, nat_tests, common_steps)

-- the parts of the test of a label name
pub label-bytes : (bs : List ℕ) → is_label_name bs ≡ true → list_all is_name_byte bs ≡ true
label-bytes bs h = (both (is_name_start (slice_index bs 0)) (list_all is_name_byte bs) (both (not (length bs == 0)) (is_name_start (slice_index bs 0) && list_all is_name_byte bs) h).1).1

pub metric-bytes : (bs : List ℕ) → is_metric_name bs ≡ true → list_all is_metric_byte bs ≡ true
metric-bytes bs h =
    (both (is_metric_start (slice_index bs 0)) (list_all is_metric_byte bs) (both (not (length bs == 0)) (is_metric_start (slice_index bs 0) && list_all is_metric_byte bs) h).1).1

-- a label name is a text
pub label_name-utf8 : (bs : List ℕ) → IsTrue (is_label_name bs) → IsUtf8 bs
label_name-utf8 bs h = IsUtf8-from_ascii bs (all-ascii is_name_byte name_byte-ascii bs (label-bytes bs h))

-- the first byte of a label name
name_byte-no_blank : (b : ℕ) → is_name_byte b ≡ true → is_blank b ≡ false
unfolding is_name_byte is_name_start is_blank
name_byte-no_blank b e = grind (arith, nat_tests, common_steps)

name_byte-no_brace : (b : ℕ) → is_name_byte b ≡ true → (b == 125) ≡ false
unfolding is_name_byte is_name_start
name_byte-no_brace b e = grind (arith, nat_tests, common_steps)

pub blank-no_name : (b : ℕ) → is_blank b ≡ true → is_name_byte b ≡ false
unfolding is_name_byte is_name_start is_blank
blank-no_name b e = grind (arith, nat_tests, common_steps)

pub blank-no_metric : (b : ℕ) → is_blank b ≡ true → is_metric_byte b ≡ false
unfolding is_metric_byte is_metric_start is_name_start is_blank
blank-no_metric b e = grind (arith, nat_tests, common_steps)

-- a label name has a first byte, which is no blank and no `}`
pub record HasFirst (bs : List ℕ) : Type 0 where
  pub first : ℕ
  pub more : List ℕ
  pub is : bs ≡ first ∷ more
  pub no_blank : is_blank first ≡ false
  pub no_brace : (first == 125) ≡ false

pub label-first : (bs : List ℕ) → is_label_name bs ≡ true → HasFirst bs
label-first [] h = absurd cc
label-first (b ∷ bs) h =
    let named = (both (is_name_byte b) (list_all is_name_byte bs) (label-bytes (b ∷ bs) h)).0 in
    record { first = b; more = bs; is = refl; no_blank = name_byte-no_blank b named; no_brace = name_byte-no_brace b named }

pub metric-some : (bs : List ℕ) → is_metric_name bs ≡ true → 0 < length bs
metric-some [] h = absurd cc
metric-some (b ∷ bs) h = omega arith
