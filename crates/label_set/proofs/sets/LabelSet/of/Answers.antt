use Rattle.std.proofs.Common.{rules, sym, ◌∙◌}
use Rattle.std.specs.Prelude.{map}
use Rattle.label_set.specs.Borrowed.{pair_of}
use Rattle.label_set.proofs.OfLemmas.{ordered_is_set, set_again}
use Rattle.label_set.proofs.sets.LabelSet.of.Goals as goal

pub from_labels-requires : goal.from_labels-requires
from_labels-requires c = ordered_is_set (map pair_of c.args.labels.now) (sym c.is_ordered.ensures ∙ c.if-is_ordered.true)

pub returns-then-is_ordered : goal.returns-then-is_ordered
returns-then-is_ordered c =
    let again = set_again (map pair_of c.args.labels.now) (ordered_is_set (map pair_of c.args.labels.now) (sym c.is_ordered.ensures ∙ c.if-is_ordered.true)) in
    search (rules, again)
