use Rattle.std.proofs.Common.{◌≡◌, [], take}
use Rattle.std.specs.Prelude.{flat_map}
use Rattle.indexmap.specs.IndexSet.{insert_all}
use Rattle.target_set.specs.Listed.{is_same, kept_in}
use Rattle.target_set.proofs.kept.identities.Given as goal

abbrev pub invariant-loop-outcome : goal.invariant-loop-outcome
invariant-loop-outcome l = l.seen.keys ≡ insert_all is_same [] (flat_map kept_in (take l.outcome-index l.outcomes))
