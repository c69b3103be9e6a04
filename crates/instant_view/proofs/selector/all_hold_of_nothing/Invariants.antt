use Rattle.std.proofs.Common.{◌≡◌, drop}
use Rattle.std.specs.List.{list_all}
use Rattle.instant_view.specs.Selectors.{holds_of_nothing}
use Rattle.instant_view.proofs.selector.all_hold_of_nothing.Given as goal

abbrev pub invariant-loop-test : goal.invariant-loop-test
invariant-loop-test l = list_all holds_of_nothing (drop l.test-index l.tests) ≡ list_all holds_of_nothing l.tests
