use Rattle.std.proofs.Common.{◌≡◌, ◌++◌}
use Rattle.instant_view.specs.Views.{kept_among}
use Rattle.instant_view.proofs.view.kept_from.Given as goal

abbrev pub invariant-loop-place : goal.invariant-loop-place
invariant-loop-place l = kept_among l.book.entries l.place ≡ kept_among l.book.entries l.from ++ l.fresh.items
