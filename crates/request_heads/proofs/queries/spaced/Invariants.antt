use Rattle.std.proofs.Common.{◌≡◌, ◌++◌, drop, map}
use Rattle.request_heads.specs.Queries.{plus_to_space}
use Rattle.request_heads.proofs.queries.spaced.Given as goal

abbrev pub invariant-loop-byte : goal.invariant-loop-byte
invariant-loop-byte l = l.bytes.items ++ map plus_to_space (drop l.byte-index l.text) ≡ map plus_to_space l.text
