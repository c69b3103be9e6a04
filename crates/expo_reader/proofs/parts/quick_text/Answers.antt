use Rattle.std.proofs.Common.{◌<◌, ◌∙◌, sym, ap, ap₂, arith, length, Some}
use Rattle.std.specs.List.{list_all}
use Rattle.std.proofs.lemmas.Bool.Decides.{nat_tests}
use Rattle.expo_reader.specs.Texts.{is_plain_byte}
use Rattle.expo_reader.proofs.OpenLemmas.{open-part, open-plain-part}
use Rattle.expo_reader.proofs.parts.quick_text.Goals as goal

pub returns-clause-part : goal.returns-clause-part
returns-clause-part c =
    let t = c.bare-text.result.now in
    let inside = c.cut.result.rest.now in
    let n = c.open_len-len.result in
    let some : 0 < length t = grind (arith, nat_tests, c.if-is_empty.false, c.is_empty.ensures) in
    let lt : n < length inside = grind (arith, nat_tests, c.if-len-inside.false, c.open_len-len.ensures.within) in
    open-part c.args.text.now t inside n c.bare-text.ensures.bytes some c.if-text-ne34.false c.cut.ensures.rest c.open_len-len.ensures.value lt c.if-inside-len-ne34.false
    ∙ ap₂ (λ a b. Some (a, b)) (sym c.cut-2.ensures.bytes) (sym c.cut-3.ensures.rest)

pub returns-clause-plain : goal.returns-clause-plain
returns-clause-plain c =
    let t = c.bare-text.result.now in
    let inside = c.cut.result.rest.now in
    let n = c.open_len-len.result in
    let some : 0 < length t = grind (arith, nat_tests, c.if-is_empty.false, c.is_empty.ensures) in
    let lt : n < length inside = grind (arith, nat_tests, c.if-len-inside.false, c.open_len-len.ensures.within) in
    ap (list_all is_plain_byte) c.cut-2.ensures.bytes
    ∙ open-plain-part c.args.text.now t inside n c.bare-text.ensures.bytes some c.if-text-ne34.false c.cut.ensures.rest c.open_len-len.ensures.value lt c.if-inside-len-ne34.false
