use Rattle.std.proofs.Common.{◌≡◌, ◌≤◌, length}
use Rattle.std.specs.Prelude.{Some, ◌==◌}
use Rattle.std.specs.List.{slice_split}
use Rattle.request_heads.specs.Queries.{all_give, joined, texts_of}
use Rattle.request_heads.proofs.queries.selectors_of.Given as goal

abbrev pub invariant-loop-more : goal.invariant-loop-more
invariant-loop-more l = record {
  given : joined (Some (texts_of l.selectors)) (all_give (slice_split (λ b. b == 38) l.left)) ≡ all_give (slice_split (λ b. b == 38) l.fn.query);
  shorter : length l.left ≤ length l.fn.query;
}

abbrev pub decreases-loop-more : goal.decreases-loop-more
decreases-loop-more l = length l.left
