use Rattle.std.proofs.Common.{◌≡◌, length}
use Rattle.std.specs.BTreeMap.{keys}
use Rattle.instant_view.specs.Threads.{IsGatheredTo}
use Rattle.instant_view.proofs.threads.Threads.all_rows.Given as goal

pub record Gathering (l : goal.Live-loop-series) : Type 0 where
  pub same : l.selecting ≡ l.fn.selecting
  pub gathered : IsGatheredTo l.self.kept.items l.fn.selecting l.moment (keys l.self.ends, length l.yielded) l.rows.items

abbrev pub invariant-loop-series : goal.invariant-loop-series
invariant-loop-series l = Gathering l
