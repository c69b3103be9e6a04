use Rattle.std.proofs.Common.{◌∙◌, sym}
use Rattle.label_set.proofs.SetLemmas.{IsSet-filter}
use Rattle.relabel.specs.Effects.{stays}
use Rattle.relabel.proofs.KeptLemmas.{all_stay}
use Rattle.relabel.proofs.kept.kept.Goals as goal

pub returns-then-branch-clause-labels : goal.returns-then-branch-clause-labels
returns-then-branch-clause-labels c =
    sym (all_stay (stays c.args.keep c.args.matching.now) c.args.set (sym c.in_ok-all_kept.ensures.all ∙ c.if-branch.true))

pub from_labels-requires : goal.from_labels-requires
from_labels-requires c =
    rw (c.as_slice.ensures.value, c.in_ok-labels.ensures.labels) (IsSet-filter (stays c.args.keep c.all_kept.new.matching) c.args.set c.in_ok-labels.ensures.set)
