use Rattle.std.proofs.lemmas.Grind.{common_steps}
use Rattle.std.proofs.Common.{arith, rules, ◌<◌, ◌+◌, length, vec_len, vec_capacity}
use Rattle.std.proofs.lemmas.List.Folds.{length-flat_map-take}
use Rattle.label_set.specs.SetText.{escaped_byte, escaped}
use Rattle.label_set.proofs.print.push_each_escaped.Goals as goal

pub returns-in_err-push_escaped : goal.returns-in_err-push_escaped
returns-in_err-push_escaped c =
    let room = length-flat_map-take escaped_byte c.args.bytes.now c.loop-byte.byte-index 0 c.loop-byte-test.true in
    let full : vec_capacity c.args.text.now < vec_len c.args.text.now + length (escaped c.args.bytes.now) = omega (arith, c.in_err-push_escaped.ensures.full) in
    record { written = search rules; len = grind (arith, common_steps); full = search (rules, full); capacity = search rules; longer = search rules; front = grind (arith, common_steps) }
