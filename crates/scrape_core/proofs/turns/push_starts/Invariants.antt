use Rattle.std.proofs.Common.{◌≡◌, ◌++◌, ◌+◌, length}
use Rattle.std.specs.Prelude.{vec_len, vec_capacity}
use Rattle.scrape_core.proofs.turns.push_starts.Given as goal

abbrev pub invariant-loop-start : goal.invariant-loop-start
invariant-loop-start l = record {
  items : l.started.items ≡ l.fn.started.items ++ l.yielded;
  len : vec_len l.started ≡ vec_len l.fn.started + length l.yielded;
  room : vec_capacity l.started ≡ vec_capacity l.fn.started;
}
