use Rattle.std.proofs.Common.{◌≡◌, ◌++◌, ◌+◌, length}
use Rattle.std.specs.Prelude.{vec_len, vec_capacity}
use Rattle.scrape_core.proofs.changes.push_lives.Given as goal

abbrev pub invariant-loop-life : goal.invariant-loop-life
invariant-loop-life l = record {
  items : l.lives.items ≡ l.fn.lives.items ++ l.yielded;
  len : vec_len l.lives ≡ vec_len l.fn.lives + length l.yielded;
  room : vec_capacity l.lives ≡ vec_capacity l.fn.lives;
}
