use Rattle.std.proofs.Common.{◌≡◌, drop}
use Rattle.request_heads.specs.Queries.{are_whole}
use Rattle.request_heads.proofs.queries.are_whole.Given as goal

abbrev pub invariant-loop-index : goal.invariant-loop-index
invariant-loop-index l = are_whole (drop l.index l.text) ≡ are_whole l.text
