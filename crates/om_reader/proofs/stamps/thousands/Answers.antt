use Rattle.std.proofs.Common.{◌≡◌, ◌≤◌, ◌<◌, ◌^◌, ◌++◌, ◌∙◌, ℕ, List, Option, ap, ap₂, subst, length, arith}
use Rattle.std.specs.Char.{is_ascii_digit}
use Rattle.std.specs.List.{list_all}
use Rattle.std.specs.Option.{SomeIff}
use Rattle.std.specs.Str.Parse.{digits_value}
use Rattle.om_reader.specs.Timestamps.{digits_before, exponent, near_place, part, thousands, whole}
use Rattle.om_reader.proofs.CountLemmas.{near-same}
use Rattle.om_reader.proofs.NumberLemmas.{number-exponent, part-digits, parts-short, whole-digits}
use Rattle.om_reader.proofs.stamps.thousands.Goals as goal

pub place_of-place-requires-clause-count : goal.place_of-place-requires-clause-count
place_of-place-requires-clause-count c =
    let short = (parts-short c.args.number.now 128 c.requires.short).0 in
    omega (arith, short, ap length c.parts_of-parts.ensures.whole)

pub place_of-place-requires-clause-exponent : goal.place_of-place-requires-clause-exponent
place_of-place-requires-clause-exponent c = rw c.parts_of-parts.ensures.exponent (number-exponent c.args.number.now c.requires.number)

pub count_before-requires-clause-whole : goal.count_before-requires-clause-whole
count_before-requires-clause-whole c = ap (list_all is_ascii_digit) c.parts_of-parts.ensures.whole ∙ whole-digits c.args.number.now

pub count_before-requires-clause-part : goal.count_before-requires-clause-part
count_before-requires-clause-part c = ap (list_all is_ascii_digit) c.parts_of-parts.ensures.part ∙ part-digits c.args.number.now

said : (bs w p x : List ℕ) (place : ℕ) (r : Option ℕ) → w ≡ whole bs → p ≡ part bs → x ≡ exponent bs → length bs ≤ 128 → place ≡ near_place (length w) x →
    SomeIff r (digits_value 10 (digits_before place (w ++ p)) < 2 ^ 64) (digits_value 10 (digits_before place (w ++ p))) → SomeIff r (thousands bs < 2 ^ 64) (thousands bs)
unfolding thousands
said bs w p x place r w_is p_is x_is short place_is s =
    let both = parts-short bs 128 short in
    let here : place ≡ near_place (length (whole bs)) (exponent bs) = place_is ∙ ap₂ near_place (ap length w_is) x_is in
    let value : digits_value 10 (digits_before place (w ++ p)) ≡ digits_value 10 (digits_before (near_place (length (whole bs)) (exponent bs)) (whole bs ++ part bs)) =
    ap (digits_value 10) (ap₂ digits_before here (ap₂ (λ a b. a ++ b) w_is p_is)) in
    near-same (whole bs) (part bs) (exponent bs) r both.0 both.1 (subst (λ (t : ℕ). SomeIff r (t < 2 ^ 64) t) value s)

pub returns : goal.returns
returns c =
    said c.args.number.now c.parts_of-parts.result.whole.now c.parts_of-parts.result.part.now c.parts_of-parts.result.exponent.now c.place_of-place.result c.count_before.result
    c.parts_of-parts.ensures.whole c.parts_of-parts.ensures.part c.parts_of-parts.ensures.exponent c.requires.short c.place_of-place.ensures c.count_before.ensures
