use Rattle.std.proofs.Common.{rules, sym, ◌∙◌}
use Rattle.label_set.proofs.OfLemmas.{goes_on}
use Rattle.label_set.proofs.flat.compared.Goals as goal

pub returns-then-is_empty : goal.returns-then-is_empty
returns-then-is_empty c =
    sym (goes_on c.loop-ours.ours.now c.loop-ours.theirs.now c.loop-ours.invariant.ours (search rules) (search rules)) ∙ c.loop-ours.invariant.order
