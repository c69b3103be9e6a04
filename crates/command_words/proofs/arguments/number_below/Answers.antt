use Rattle.std.proofs.Common.{◌≡◌, ℕ, List, true, take, subst, arith}
use Rattle.std.specs.Str.{all_ascii_digits}
use Rattle.std.proofs.lemmas.List.{take_all}
use Rattle.value_text.specs.Values.{digits}
use Rattle.value_text.proofs.NumberLemmas.{front-ascii}
use Rattle.command_words.proofs.arguments.number_below.Goals as goal

pub number_of-requires-clause-digits : goal.number_of-requires-clause-digits
number_of-requires-clause-digits c =
    let text = c.args.text.now in
    let counted = c.digit_count-count.ensures.value in
    let same = c.if-count-text.false in
    let whole : take (digits text) text ≡ text = take_all (digits text) text (omega (arith, counted, same)) in
    subst (λ (t : List ℕ). all_ascii_digits t ≡ true) whole (front-ascii text)
