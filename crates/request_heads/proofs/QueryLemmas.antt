-- The parts of a query, one after another.
use Rattle.std.proofs.Common.{◌≡◌, ℕ, suc, ◌+◌, ◌<◌, ◌≤◌, Bool, true, false, cond, not, ◌&&◌, ◌==◌, List, [], ◌∷◌, ◌++◌, length, take, drop, get_or, length-drop, ◌-◌, Option, Some, None, inl, inr, refl, sym, ap, ap₂, ◌∙◌, subst, arith, append_assoc}
use Rattle.std.specs.Prelude.{All, IsUtf8, ◌⊎◌}
use Rattle.std.specs.List.{slice_split}
use Rattle.std.specs.Str.{is_utf8}
use Rattle.std.proofs.lemmas.Bool.{not-false, cases_lt}
use Rattle.std.proofs.lemmas.List.{drop_more, take_all}
use Rattle.std.proofs.lemmas.List.Elements.{All-cons}
use Rattle.std.proofs.lemmas.List.Splits.{slice_split_at, slice_split_none}
use Rattle.std.proofs.lemmas.List.Sums.{prefix_len-le-length, prefix_len_stops}
use Rattle.std.proofs.lemmas.List.{take-append-drop}
use Rattle.std.proofs.lemmas.Str.{IsUtf8-from_is_utf8, is_utf8-from_IsUtf8}
use Rattle.request_heads.specs.Queries.{all_give, are_whole, decoded, front_len, joined, part_gives, text_of}

-- a text that is decoded, and one that isn't
pub text-had : (text bytes : List ℕ) → are_whole text ≡ true → bytes ≡ decoded text → IsUtf8 bytes → Some bytes ≡ text_of text
unfolding text_of
text-had text bytes w e u = ap Some e ∙ sym (ap₂ (λ a b. cond (a && b) (Some (decoded text)) None) w (ap is_utf8 (sym e) ∙ is_utf8-from_IsUtf8 bytes u))

pub text-none : (text bytes : List ℕ) → bytes ≡ decoded text → (IsUtf8 bytes → ⊥) → None ≡ text_of text
unfolding text_of
text-none text bytes e none = by (are_whole text) (is_utf8 (decoded text)) (λ h. none (IsUtf8-from_is_utf8 bytes (ap is_utf8 e ∙ h)))
  where
    by : (a b : Bool) → (b ≡ true → ⊥) → None ≡ cond (a && b) (Some (decoded text)) None
    by true true h = absurd (h refl)
    by true false h = refl
    by false b h = refl

-- no `&` stands in a first part
before : (xs : List ℕ) → All (λ x. (x == 38) ≡ false) (take (front_len 38 xs) xs)
before [] = λ k d h. absurd (omega arith)
before (x ∷ xs) = by (x == 38) refl (before xs)
  where
    by : (b : Bool) → (x == 38) ≡ b → All (λ y. (y == 38) ≡ false) (take (front_len 38 xs) xs) → All (λ y. (y == 38) ≡ false) (take (cond (not b) (1 + front_len 38 xs) 0) (x ∷ xs))
    by true e rest = λ k d h. absurd (omega arith)
    by false e rest =
        let on : suc (front_len 38 xs) ≡ 1 + front_len 38 xs = omega arith in
        subst (λ m. All (λ y. (y == 38) ≡ false) (take m (x ∷ xs))) on (All-cons (λ y. (y == 38) ≡ false) x (take (front_len 38 xs) xs) e rest)

pub split-more : (xs : List ℕ) → front_len 38 xs < length xs →
    slice_split (λ b. b == 38) xs ≡ take (front_len 38 xs) xs ∷ slice_split (λ b. b == 38) (drop (front_len 38 xs + 1) xs)
split-more xs h =
    let n = front_len 38 xs in
    ap (slice_split (λ b. b == 38)) (sym (take-append-drop n xs) ∙ ap (λ l. take n xs ++ l) (drop_more xs n 0 h))
    ∙ slice_split_at (λ b. b == 38) (take n xs) (get_or xs n 0) (drop (n + 1) xs) (before xs) (not-false _ (prefix_len_stops (λ c. not (c == 38)) xs 0 h))

pub split-last : (xs : List ℕ) → front_len 38 xs ≡ length xs → slice_split (λ b. b == 38) xs ≡ xs ∷ []
split-last xs e =
    let n = front_len 38 xs in
    slice_split_none (λ b. b == 38) xs (subst (All (λ y. (y == 38) ≡ false)) (take_all n xs (omega (arith, e))) (before xs))

-- what a part gives is taken before the others
taken-more : (texts news : List (List ℕ)) (rest : Option (List (List ℕ))) → joined (Some texts) (joined (Some news) rest) ≡ joined (Some (texts ++ news)) rest
taken-more texts news None = refl
taken-more texts news (Some others) = ap Some (sym (append_assoc texts news others))

pub join-part : (texts news : List (List ℕ)) (given : Option (List (List ℕ))) (rest : Option (List (List ℕ))) → joined (Some texts) given ≡ Some news → joined (Some texts) (joined given rest) ≡ joined (Some news) rest
join-part texts news None rest e = absurd cc
join-part texts news (Some more) rest e = taken-more texts more rest ∙ (let same : texts ++ more ≡ news = cc in ap (λ ts. joined (Some ts) rest) same)

pub join-refused : (texts : List (List ℕ)) (given : Option (List (List ℕ))) (rest : Option (List (List ℕ))) → joined (Some texts) given ≡ None → joined (Some texts) (joined given rest) ≡ None
join-refused texts None rest e = refl
join-refused texts (Some more) rest e = absurd cc

pub join-nothing : (rest : Option (List (List ℕ))) → joined (Some []) rest ≡ rest
join-nothing None = refl
join-nothing (Some others) = refl

pub join-last : (texts news : List (List ℕ)) (given : Option (List (List ℕ))) → joined (Some texts) given ≡ Some news → joined (Some texts) (joined given (Some [])) ≡ Some news
join-last texts news given e = join-part texts news given (Some []) e ∙ ap Some (append-nil' news)
  where
    append-nil' : (xs : List (List ℕ)) → xs ++ [] ≡ xs
    append-nil' [] = refl
    append-nil' (x ∷ xs) = ap (λ ys. x ∷ ys) (append-nil' xs)

-- one part on: it is refused, it is the last one, or others follow
pub part-refused : (texts : List (List ℕ)) (xs : List ℕ) → joined (Some texts) (part_gives (take (front_len 38 xs) xs)) ≡ None →
    joined (Some texts) (all_give (slice_split (λ b. b == 38) xs)) ≡ None
part-refused texts xs e = by (cases_lt (front_len 38 xs) (length xs))
  where
    by : (front_len 38 xs < length xs) ⊎ (length xs ≤ front_len 38 xs) → joined (Some texts) (all_give (slice_split (λ b. b == 38) xs)) ≡ None
    by (inl h) =
        ap (λ ps. joined (Some texts) (all_give ps)) (split-more xs h)
        ∙ join-refused texts (part_gives (take (front_len 38 xs) xs)) (all_give (slice_split (λ b. b == 38) (drop (front_len 38 xs + 1) xs))) e
    by (inr h) =
        let n : front_len 38 xs ≡ length xs = omega (arith, h, prefix_len-le-length (λ c. not (c == 38)) xs) in
        ap (λ ps. joined (Some texts) (all_give ps)) (split-last xs n)
        ∙ join-refused texts (part_gives xs) (Some []) (ap (λ t. joined (Some texts) (part_gives t)) (sym (take_all (front_len 38 xs) xs (omega (arith, n)))) ∙ e)

pub part-last : (texts news : List (List ℕ)) (xs : List ℕ) → joined (Some texts) (part_gives (take (front_len 38 xs) xs)) ≡ Some news → front_len 38 xs ≡ length xs →
    joined (Some texts) (all_give (slice_split (λ b. b == 38) xs)) ≡ Some news
part-last texts news xs e n =
    ap (λ ps. joined (Some texts) (all_give ps)) (split-last xs n)
    ∙ join-last texts news (part_gives xs) (ap (λ t. joined (Some texts) (part_gives t)) (sym (take_all (front_len 38 xs) xs (omega (arith, n)))) ∙ e)

pub part-more : (texts news : List (List ℕ)) (xs : List ℕ) → joined (Some texts) (part_gives (take (front_len 38 xs) xs)) ≡ Some news → front_len 38 xs < length xs →
    joined (Some news) (all_give (slice_split (λ b. b == 38) (drop (front_len 38 xs + 1) xs))) ≡ joined (Some texts) (all_give (slice_split (λ b. b == 38) xs))
part-more texts news xs e h =
    sym (join-part texts news (part_gives (take (front_len 38 xs) xs)) (all_give (slice_split (λ b. b == 38) (drop (front_len 38 xs + 1) xs))) e)
    ∙ ap (λ ps. joined (Some texts) (all_give ps)) (sym (split-more xs h))

-- so for the loop over the parts, where the rest is what follows the `&` behind a part
pub part-step : (texts news : List (List ℕ)) (xs query behind : List ℕ) (n : ℕ) → n ≡ front_len 38 xs → joined (Some texts) (part_gives (take n xs)) ≡ Some news → n < length xs →
    behind ≡ drop (n + 1) xs → joined (Some texts) (all_give (slice_split (λ b. b == 38) xs)) ≡ all_give (slice_split (λ b. b == 38) query) →
    joined (Some news) (all_give (slice_split (λ b. b == 38) behind)) ≡ all_give (slice_split (λ b. b == 38) query)
part-step texts news xs query behind n is e h rest given =
    ap (λ ys. joined (Some news) (all_give (slice_split (λ b. b == 38) ys))) (rest ∙ ap (λ m. drop (m + 1) xs) is)
    ∙ part-more texts news xs (ap (λ m. joined (Some texts) (part_gives (take m xs))) (sym is) ∙ e) (omega (arith, is, h))
    ∙ given

-- a slice to the end
pub to-end : (xs : List ℕ) (n m : ℕ) → m ≡ length xs → take (m - n) (drop n xs) ≡ drop n xs
to-end xs n m e = take_all (m - n) (drop n xs) (omega (arith, e, length-drop n xs))
