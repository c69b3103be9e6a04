use Rattle.std.proofs.Common.{w64}
use Rattle.std.proofs.lemmas.Int.{to_z-of_z}
use Rattle.value_text.specs.Numbers.{number}
use Rattle.value_text.proofs.ValueLemmas.{seconds3-value, number-small}
use Rattle.value_text.proofs.texts.ValueText.of_millis.Goals as goal

pub invariant_of-result : goal.invariant_of-result
invariant_of-result c = rw (c.from_vec.ensures.items, c.in_ok-seconds_text.ensures, to_z-of_z w64 c.args.ms c.ranges.ms) (seconds3-value (number c.args.ms) (number-small c.args.ms c.ranges.ms))
