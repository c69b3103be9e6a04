use Rattle.std.proofs.Common.{◌≡◌, ℕ, ◌-◌, ◌<◌, suc, List, drop, take, sym, ap, ◌∙◌, arith}
use Rattle.std.specs.Option.{option_to_list}
use Rattle.label_set.specs.declared.texts.Pair.{Pair}
use Rattle.series_cache.specs.declared.known.Known.{Known}
use Rattle.series_cache.specs.Caches.{text_sets}
use Rattle.series_cache.specs.Sets.{gone}
use Rattle.series_cache.proofs.AddedLemmas.{front_at, none_behind}
use Rattle.series_cache.proofs.VanishLemmas.{gone_none, gone-twice, sets_behind}
use Rattle.series_cache.proofs.added.take_kept_out.Goals as goal

pub loop-place-init : goal.loop-place-init
loop-place-init c =
    let ts = c.args.texts.now in
    let sets = c.args.sets.now in
    record {
      within = omega arith;
      sets = sym (ap (λ (l : List (List ℕ × Known)). gone sets (text_sets l)) (none_behind c.args.kept ts) ∙ gone_none sets);
    }

pub loop-place-preserved : goal.loop-place-preserved
loop-place-preserved c =
    let ts = c.args.texts.now in
    let kept = c.args.kept in
    let i = c.loop-place.place - 1 in
    let v = c.at.result.now in
    let next : c.loop-place.place ≡ suc i = omega (arith, c.loop-place-test.true) in
    let before : i < kept = omega (arith, next, c.loop-place.invariant.within) in
    record {
      within = omega (arith, c.loop-place.invariant.within);
      sets = c.take_out.ensures
          ∙ ap (λ (l : List (List Pair)). gone l (option_to_list v.set)) c.loop-place.invariant.sets
          ∙ gone-twice c.args.sets.now (text_sets (drop c.loop-place.place (take kept ts))) (option_to_list v.set)
          ∙ ap (gone c.args.sets.now) (sym (sets_behind (λ (k : Known). option_to_list k.set) (take kept ts) i c.loop-place.place v next (front_at kept ts i before ∙ c.at.ensures)));
    }
