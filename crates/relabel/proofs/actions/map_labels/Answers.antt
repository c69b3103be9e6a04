use Rattle.relabel.proofs.KeptLemmas.{mapped_is}
use Rattle.relabel.proofs.actions.map_labels.Goals as goal

pub returns-clause-labels : goal.returns-clause-labels
returns-clause-labels c =
    rw (c.as_slice-2.ensures.value, c.in_ok-labels.ensures, c.as_slice.ensures.value, c.in_ok-given.ensures.labels, c.requires.pattern, c.requires.name, mapped_is c.args.conf.now c.args.set c.args.set) at c.with_all.ensures
