use Rattle.value_text.proofs.ValueLemmas.{decimal-value}
use Rattle.value_text.proofs.texts.ValueText.of_count.Goals as goal

pub invariant_of-result : goal.invariant_of-result
invariant_of-result c = rw (c.from_vec.ensures.items, c.into_bytes.ensures.value, c.in_ok-text.ensures.ok) (decimal-value c.args.count c.ranges.count.fits)
