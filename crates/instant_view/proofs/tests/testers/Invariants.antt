use Rattle.std.proofs.Common.{◌≡◌, take}
use Rattle.instant_view.proofs.tests.testers.Given as goal

abbrev pub invariant-loop-test : goal.invariant-loop-test
invariant-loop-test l = l.testers.items ≡ take l.test-index l.tests
