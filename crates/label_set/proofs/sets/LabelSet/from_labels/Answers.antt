use Rattle.std.proofs.Common.{rules}
use Rattle.std.specs.Prelude.{map}
use Rattle.label_set.specs.Borrowed.{pair_of}
use Rattle.label_set.proofs.SplitLemmas.{made}
use Rattle.label_set.proofs.sets.LabelSet.from_labels.Goals as goal

pub from_bytes-requires : goal.from_bytes-requires
from_bytes-requires c = (made c.in_ok-bytes.bytes.items (map pair_of c.args.labels.now) c.in_ok-bytes.ensures.bytes c.in_ok-bytes.ensures.labels c.requires).set

pub returns : goal.returns
returns c =
    let labels = (made c.in_ok-bytes.bytes.items (map pair_of c.args.labels.now) c.in_ok-bytes.ensures.bytes c.in_ok-bytes.ensures.labels c.requires).labels in
    search (rules, labels)
