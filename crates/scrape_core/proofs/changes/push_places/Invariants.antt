use Rattle.std.proofs.Common.{◌≡◌, ◌++◌, ◌+◌}
use Rattle.std.specs.List.{range_with_len}
use Rattle.std.specs.Prelude.{vec_len, vec_capacity}
use Rattle.scrape_core.proofs.changes.push_places.Given as goal

abbrev pub invariant-loop-more : goal.invariant-loop-more
invariant-loop-more l = record {
  items : l.places.items ≡ l.fn.places.items ++ range_with_len l.first l.more;
  len : vec_len l.places ≡ vec_len l.fn.places + l.more;
  room : vec_capacity l.places ≡ vec_capacity l.fn.places;
}
