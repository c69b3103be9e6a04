use Rattle.std.proofs.Common.{◌≡◌, [], map, List, ℕ}
use Rattle.std.specs.Prelude.{unwrap_or}
use Rattle.std.specs.Borrow.{Bor}
use Rattle.target_set.specs.Requests.{texts}
use Rattle.target_set.specs.Values.{found, pairs_by}
use Rattle.target_set.proofs.requests.pairs_by.Given as goal

abbrev pub invariant-loop-name : goal.invariant-loop-name
invariant-loop-name l =
    map texts l.pairs.items ≡ pairs_by (λ name. found l.set name) (λ name. unwrap_or (found l.listed name) []) (map (λ (n : Bor (List ℕ)). n.now) l.yielded)
