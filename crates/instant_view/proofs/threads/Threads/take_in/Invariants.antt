use Rattle.std.proofs.Common.{◌≡◌, ◌++◌, length, vec_len, All}
use Rattle.std.specs.Prelude.{reverse}
use Rattle.instant_view.specs.Threads.{HasRoom, HasPlace, IsThreaded}
use Rattle.instant_view.proofs.threads.Threads.take_in.Given as goal

abbrev pub invariant-loop-placed : goal.invariant-loop-placed
invariant-loop-placed l = record {
  joined : l.self.kept.items ++ reverse l.fresh.items ≡ l.fn.self.kept.items ++ l.fn.fresh.items;
  threaded : IsThreaded l.self;
  room : HasRoom (length l.fresh.items) l.self;
  places : All (HasPlace l.self.ends) l.fresh.items;
}

abbrev pub decreases-loop-placed : goal.decreases-loop-placed
decreases-loop-placed l = vec_len l.fresh
