use Rattle.std.proofs.Common.{◌≡◌, drop}
use Rattle.std.specs.List.{list_all}
use Rattle.instant_view.specs.Selectors.{holds_in}
use Rattle.instant_view.proofs.selector.all_hold.Given as goal

abbrev pub invariant-loop-tester : goal.invariant-loop-tester
invariant-loop-tester l = (l.testers ≡ l.initial.testers) × (list_all (holds_in l.set) (drop l.tester-index l.testers) ≡ list_all (holds_in l.set) l.fn.testers)
