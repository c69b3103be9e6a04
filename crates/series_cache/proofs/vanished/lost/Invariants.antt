use Rattle.std.proofs.Common.{◌≡◌, ◌≤◌, drop, length}
use Rattle.series_cache.specs.Vanished.{lost_sets}
use Rattle.series_cache.specs.Sets.{rising}
use Rattle.series_cache.proofs.vanished.lost.Given as goal

abbrev pub invariant-loop-place : goal.invariant-loop-place
invariant-loop-place l = record {
  within : l.place ≤ length l.texts;
  sets : l.sets ≡ rising (lost_sets (drop l.place l.texts));
}

abbrev pub decreases-loop-place : goal.decreases-loop-place
decreases-loop-place l = l.place
