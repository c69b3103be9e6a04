use Rattle.std.proofs.Common.{◌≡◌, ◌≤◌, drop, take}
use Rattle.series_cache.specs.Caches.{text_sets}
use Rattle.series_cache.specs.Sets.{gone}
use Rattle.series_cache.proofs.added.take_kept_out.Given as goal

abbrev pub invariant-loop-place : goal.invariant-loop-place
invariant-loop-place l = record {
  within : l.place ≤ l.kept;
  sets : l.sets ≡ gone l.fn.sets (text_sets (drop l.place (take l.kept l.texts)));
}

abbrev pub decreases-loop-place : goal.decreases-loop-place
decreases-loop-place l = l.place
