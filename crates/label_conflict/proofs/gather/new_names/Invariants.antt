use Rattle.std.proofs.Common.{◌≡◌, ◌++◌, length, take, drop}
use Rattle.std.specs.Prelude.{map}
use Rattle.label_set.specs.Borrowed.{pair_of}
use Rattle.label_conflict.specs.Merging.{settled}
use Rattle.label_conflict.specs.Names.{under}
use Rattle.label_conflict.proofs.gather.new_names.Given as goal

abbrev pub invariant-loop-place : goal.invariant-loop-place
invariant-loop-place l = record {
  count : length l.names.keys ≡ l.place;
  names : settled (map pair_of (drop l.place l.conflicts)) (l.labels ++ under l.names.keys (map pair_of (take l.place l.conflicts)))
      ≡ settled (map pair_of l.conflicts) l.labels;
}
