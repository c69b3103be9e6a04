use Rattle.std.proofs.Common.{subst}
use Rattle.std.specs.Prelude.{map, filter, ◌&&◌}
use Rattle.std.specs.List.Sorted.{IsPermutation}
use Rattle.std.proofs.lemmas.List.Sorted.{IsPermutation-map}
use Rattle.label_set.specs.Borrowed.{pair_of}
use Rattle.label_set.specs.declared.texts.Pair.{Pair}
use Rattle.label_conflict.specs.Orders.{by_length}
use Rattle.label_conflict.specs.Merging.{has_value, bears}
use Rattle.label_conflict.proofs.JoinLemmas.{conflicts_sorted, differ_from_names, differ_filter}
use Rattle.label_conflict.proofs.BorrowedLemmas.{sorted_from}
use Rattle.label_conflict.proofs.gather.conflicts.Goals as goal

pub returns : goal.returns
returns c =
    let exposed = map pair_of c.args.exposed.now in
    let shared = λ (p : Pair). has_value p && bears c.args.target.now p.name in
    let sorted = c.sort_by_length.new.labels.items in
    let moved = subst (λ ps. IsPermutation ps (map pair_of sorted)) c.in_ok-found.ensures (IsPermutation-map pair_of c.in_ok-found.found.items sorted c.sort_by_length.ensures.moved) in
    conflicts_sorted (filter shared exposed) (map pair_of sorted) (differ_filter shared exposed (differ_from_names exposed c.requires)) moved (sorted_from by_length sorted c.sort_by_length.ensures.sorted)
