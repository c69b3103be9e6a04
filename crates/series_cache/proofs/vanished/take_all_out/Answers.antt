use Rattle.std.proofs.Common.{◌≡◌, ℕ, ◌-◌, suc, List, drop, sym, ap, ◌∙◌, arith}
use Rattle.std.proofs.Math.Seq.{drop-length}
use Rattle.label_set.specs.declared.texts.Pair.{Pair}
use Rattle.series_cache.specs.declared.known.Known.{Known}
use Rattle.series_cache.specs.Caches.{now_sets, set_if}
use Rattle.series_cache.specs.Sets.{gone}
use Rattle.series_cache.proofs.VanishLemmas.{gone_none, gone-twice, sets_behind}
use Rattle.series_cache.proofs.vanished.take_all_out.Goals as goal

pub loop-place-init : goal.loop-place-init
loop-place-init c =
    let ts = c.args.texts.now in
    let sets = c.args.sets.now in
    record {
      within = omega (arith, c.len-place.ensures.len);
      sets = sym (ap (λ (n : ℕ). gone sets (now_sets (drop n ts))) c.len-place.ensures.len ∙ ap (λ (l : List (List ℕ × Known)). gone sets (now_sets l)) (drop-length ts) ∙ gone_none sets);
    }

pub loop-place-preserved : goal.loop-place-preserved
loop-place-preserved c =
    let ts = c.args.texts.now in
    let i = c.loop-place.place - 1 in
    let v = c.at.result.now in
    let next : c.loop-place.place ≡ suc i = omega (arith, c.loop-place-test.true) in
    record {
      within = omega (arith, c.loop-place.invariant.within);
      sets = c.take_out.ensures
          ∙ ap (λ (l : List (List Pair)). gone l (set_if v.tracked v.set)) c.loop-place.invariant.sets
          ∙ gone-twice c.args.sets.now (now_sets (drop c.loop-place.place ts)) (set_if v.tracked v.set)
          ∙ ap (gone c.args.sets.now) (sym (sets_behind (λ (k : Known). set_if k.tracked k.set) ts i c.loop-place.place v next c.at.ensures));
    }
