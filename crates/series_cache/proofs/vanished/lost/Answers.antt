use Rattle.std.proofs.Common.{◌≡◌, ◌-◌, suc, drop, sym, ap, ◌∙◌, arith}
use Rattle.series_cache.specs.declared.known.Known.{Known}
use Rattle.series_cache.specs.Caches.{set_if}
use Rattle.series_cache.specs.Sets.{rising}
use Rattle.series_cache.specs.Vanished.{is_lost, lost_sets}
use Rattle.series_cache.proofs.VanishLemmas.{sets_behind}
use Rattle.series_cache.proofs.vanished.lost.Goals as goal

pub loop-place-preserved : goal.loop-place-preserved
loop-place-preserved c =
    let ts = c.args.texts.now in
    let i = c.loop-place.place - 1 in
    let next : c.loop-place.place ≡ suc i = omega (arith, c.loop-place-test.true) in
    record {
      within = omega (arith, c.loop-place.invariant.within);
      sets = c.in_ok-put_lost.ensures (lost_sets (drop c.loop-place.place ts)) c.loop-place.invariant.sets
          ∙ ap rising (sym (sets_behind (λ (k : Known). set_if (is_lost k) k.set) ts i c.loop-place.place c.at.result.now next c.at.ensures));
    }
