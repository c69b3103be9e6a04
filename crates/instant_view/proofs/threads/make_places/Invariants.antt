use Rattle.std.proofs.Common.{◌≡◌, List, All, take}
use Rattle.label_set.specs.declared.texts.Pair.{Pair}
use Rattle.instant_view.specs.Threads.{AreNamed, HasPlace, end_of}
use Rattle.instant_view.proofs.threads.make_places.Given as goal

pub record Making (l : goal.Live-loop-placed) : Type 0 where
  pub places : All (HasPlace l.ends) (take l.placed-index l.fresh)
  pub same : (s : List Pair) → end_of l.ends s ≡ end_of l.fn.ends s
  pub named : AreNamed l.ends l.named

abbrev pub invariant-loop-placed : goal.invariant-loop-placed
invariant-loop-placed l = Making l
