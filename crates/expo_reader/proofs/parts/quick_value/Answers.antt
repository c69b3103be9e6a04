use Rattle.std.proofs.Common.{◌≤◌, ◌<◌, arith}
use Rattle.std.proofs.lemmas.Bool.Decides.{nat_tests}
use Rattle.expo_reader.proofs.QuickLemmas.{digit-part}
use Rattle.expo_reader.proofs.parts.quick_value.Goals as goal

pub returns-clause-part : goal.returns-clause-part
returns-clause-part c =
    let some : 0 < c.digit_len-len.result = omega (arith, c.if-len-eq0.false) in
    let few : c.digit_len-len.result ≤ 128 = grind (arith, nat_tests, c.if-len-gt128.false) in
    let found = digit-part c.args.text.now c.bare-text.result.now c.digit_len-len.result c.bare-text.ensures.bytes c.digit_len-len.ensures.value some few
    (c.ends_word.ensures c.if-not-ends_word.false) in
    rw (c.cut.ensures.bytes, c.cut.ensures.rest) found.0

pub returns-clause-value : goal.returns-clause-value
returns-clause-value c =
    let some : 0 < c.digit_len-len.result = omega (arith, c.if-len-eq0.false) in
    let few : c.digit_len-len.result ≤ 128 = grind (arith, nat_tests, c.if-len-gt128.false) in
    let found = digit-part c.args.text.now c.bare-text.result.now c.digit_len-len.result c.bare-text.ensures.bytes c.digit_len-len.ensures.value some few
    (c.ends_word.ensures c.if-not-ends_word.false) in
    rw c.cut.ensures.bytes found.1
