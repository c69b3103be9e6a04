use Rattle.std.specs.Bool.{one_answer}
use Rattle.label_set.specs.Same.{sets_decide}
use Rattle.label_set.proofs.sets.LabelSetPartialEq.eq.Goals as goal

pub returns : goal.returns
returns c = one_answer _ _ c.is_same.ensures (sets_decide c.args.self.now c.args.other.now)
