use Rattle.std.proofs.Common.{◌≡◌, ◌≤◌, drop, length}
use Rattle.series_cache.specs.Caches.{now_sets}
use Rattle.series_cache.specs.Sets.{gone}
use Rattle.series_cache.proofs.vanished.take_all_out.Given as goal

abbrev pub invariant-loop-place : goal.invariant-loop-place
invariant-loop-place l = record {
  within : l.place ≤ length l.texts;
  sets : l.sets ≡ gone l.fn.sets (now_sets (drop l.place l.texts));
}

abbrev pub decreases-loop-place : goal.decreases-loop-place
decreases-loop-place l = l.place
