-- The texts of a script are short.
use Rattle.std.proofs.Common.{◌≡◌, ℕ, zero, suc, ◌+◌, ◌*◌, ◌%◌, ◌<◌, ◌≤◌, ◌^◌, Bool, true, false, List, [], ◌∷◌, ◌++◌, length, refl, ap, ◌∙◌, arith, append-nil, append_assoc, codes, map}
use Rattle.std.specs.Prelude.{if◌then◌else◌, ◌==◌}
use Rattle.std.specs.List.{flat_map}
use Rattle.std.specs.Fmt.{decimal}
use Rattle.std.proofs.lemmas.List.{length-append, map-append}
use Rattle.std.proofs.lemmas.Grind.{flat_map-append}
use Rattle.itoa.proofs.Decimal.{length_wide}
use Rattle.outside.specs.Sizes.{most_text_bytes, most_body_bytes}
use Rattle.synth.specs.Scripts.{upto, sample_line, page_line, page, target_text, conf_text, most_targets}

-- one number more
pub upto_none : upto 0 ≡ []
unfolding upto
upto_none = refl

upto_suc : (n : ℕ) → upto (suc n) ≡ upto n ++ n ∷ []
unfolding upto
upto_suc n = refl

pub upto_more : (n : ℕ) → upto (n + 1) ≡ upto n ++ n ∷ []
upto_more n = let e : n + 1 ≡ suc n = omega arith in ap upto e ∙ upto_suc n

pub flat_more : {X : Type 0} (f : ℕ → List X) (n : ℕ) → flat_map f (upto (n + 1)) ≡ flat_map f (upto n) ++ f n
flat_more f n = ap (flat_map f) (upto_more n) ∙ flat_map-append f (upto n) (n ∷ []) ∙ ap (λ z. flat_map f (upto n) ++ z) (append-nil (f n))

later : {X : Type 0} (f : ℕ → List X) (n : ℕ) → flat_map f (upto (suc n)) ≡ flat_map f (upto n) ++ f n
later f n = ap (flat_map f) (upto_suc n) ∙ flat_map-append f (upto n) (n ∷ []) ∙ ap (λ z. flat_map f (upto n) ++ z) (append-nil (f n))

pub map_more : {X : Type 0} (f : ℕ → X) (n : ℕ) → map f (upto (n + 1)) ≡ map f (upto n) ++ f n ∷ []
map_more f n = ap (map f) (upto_more n) ∙ map-append f (upto n) (n ∷ [])

-- seven pieces, one behind the other
pub pieces : (old a b c d e f g : List ℕ) → ((((((old ++ a) ++ b) ++ c) ++ d) ++ e) ++ f) ++ g ≡ old ++ (a ++ (b ++ (c ++ (d ++ (e ++ (f ++ g))))))
pieces old a b c d e f g =
    append_assoc (((((old ++ a) ++ b) ++ c) ++ d) ++ e) f g
    ∙ append_assoc ((((old ++ a) ++ b) ++ c) ++ d) e (f ++ g)
    ∙ append_assoc (((old ++ a) ++ b) ++ c) d (e ++ (f ++ g))
    ∙ append_assoc ((old ++ a) ++ b) c (d ++ (e ++ (f ++ g)))
    ∙ append_assoc (old ++ a) b (c ++ (d ++ (e ++ (f ++ g))))
    ∙ append_assoc old a (b ++ (c ++ (d ++ (e ++ (f ++ g)))))

line_len : (n i : ℕ) → n < 2 ^ 63 → i < 100 → length (sample_line n i) ≤ 200
line_len n i small few =
    let value : length (decimal (n + i) ++ codes "\n") ≡ length (decimal (n + i)) + 1 = length-append (decimal (n + i)) (codes "\n") in
    let path : length (decimal i ++ (codes "\"} " ++ (decimal (n + i) ++ codes "\n"))) ≡ length (decimal i) + length (codes "\"} " ++ (decimal (n + i) ++ codes "\n")) =
    length-append (decimal i) (codes "\"} " ++ (decimal (n + i) ++ codes "\n")) in
    let code : length (decimal (200 + i) ++ (codes "\",path=\"/p" ++ (decimal i ++ (codes "\"} " ++ (decimal (n + i) ++ codes "\n")))))
    ≡ length (decimal (200 + i)) + length (codes "\",path=\"/p" ++ (decimal i ++ (codes "\"} " ++ (decimal (n + i) ++ codes "\n")))) =
    length-append (decimal (200 + i)) (codes "\",path=\"/p" ++ (decimal i ++ (codes "\"} " ++ (decimal (n + i) ++ codes "\n")))) in
    omega (arith, value, path, code, length_wide (n + i) (omega arith), length_wide i (omega arith), length_wide (200 + i) (omega arith))

line_by : (n i : ℕ) (b : Bool) → n < 2 ^ 63 → i < 100 → length (if b then [] else sample_line n i) ≤ 200
line_by n i true small few = omega arith
line_by n i false small few = line_len n i small few

page_line-len : (n i : ℕ) → n < 2 ^ 63 → i < 100 → length (page_line n i) ≤ 200
unfolding page_line
page_line-len n i small few = line_by n i ((n + i) % 10 == 0) small few

lines_len : (n k : ℕ) → n < 2 ^ 63 → k ≤ 100 → length (flat_map (page_line n) (upto k)) ≤ 200 * k
lines_len n zero small few = let e : length (flat_map (page_line n) (upto 0)) ≡ 0 = ap (λ z. length (flat_map (page_line n) z)) upto_none in omega (arith, e)
lines_len n (suc k) small few =
    let more : length (flat_map (page_line n) (upto (suc k))) ≡ length (flat_map (page_line n) (upto k)) + length (page_line n k) =
    ap length (later (page_line n) k) ∙ length-append (flat_map (page_line n) (upto k)) (page_line n k) in
    omega (arith, more, lines_len n k small (omega arith), page_line-len n k small (omega arith))

-- a page is far shorter than 64 MiB
pub page_len : (n : ℕ) → n < 2 ^ 63 → length (page n) ≤ most_body_bytes
unfolding page
page_len n small = omega (arith, lines_len n 100 small (omega arith))

target_by : (t : ℕ) (b : Bool) → t < 2 ^ 64 → length ((if b then codes "\"t" else codes ",\"t") ++ (decimal t ++ codes ":1\"")) ≤ 50
target_by t true small = omega (arith, length-append (decimal t) (codes ":1\""), length_wide t (omega arith))
target_by t false small = omega (arith, length-append (decimal t) (codes ":1\""), length_wide t (omega arith))

target_len : (t : ℕ) → t < 2 ^ 64 → length (target_text t) ≤ 50
unfolding target_text
target_len t small = target_by t (t == 0) small

targets_len : (k : ℕ) → k ≤ most_targets → length (flat_map target_text (upto k)) ≤ 50 * k
targets_len zero few = let e : length (flat_map target_text (upto 0)) ≡ 0 = ap (λ z. length (flat_map target_text z)) upto_none in omega (arith, e)
targets_len (suc k) few =
    let more : length (flat_map target_text (upto (suc k))) ≡ length (flat_map target_text (upto k)) + length (target_text k) =
    ap length (later target_text k) ∙ length-append (flat_map target_text (upto k)) (target_text k) in
    omega (arith, more, targets_len k (omega arith), target_len k (omega arith))

-- the text of a configuration is shorter than 4 MiB
pub conf_len : (k : ℕ) → k ≤ most_targets → length (conf_text k) ≤ most_text_bytes
unfolding conf_text
conf_len k few =
    let tail : length (flat_map target_text (upto k) ++ codes "]}]}]}") ≡ length (flat_map target_text (upto k)) + 6 = length-append (flat_map target_text (upto k)) (codes "]}]}]}") in
    omega (arith, tail, targets_len k few)
