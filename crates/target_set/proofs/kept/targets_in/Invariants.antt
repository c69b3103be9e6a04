use Rattle.std.proofs.Common.{◌≡◌, map, take}
use Rattle.target_set.specs.Listed.{target_of}
use Rattle.target_set.proofs.kept.targets_in.Given as goal

abbrev pub invariant-loop-identity : goal.invariant-loop-identity
invariant-loop-identity l = l.out.items ≡ map target_of (take l.identity-index l.identities)
