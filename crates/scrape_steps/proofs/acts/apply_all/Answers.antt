use Rattle.std.proofs.Common.{◌≡◌, ◌<◌, ◌+◌, ◌++◌, ◌∷◌, [], ◌∙◌, List, length-append, length, take, refl, sym, ap, ap₂, arith}
use Rattle.std.proofs.lemmas.Iterator.Adapters.{YieldsList-from_vec}
use Rattle.std.proofs.lemmas.Iterator.Consumers.{YieldsList-end, YieldsList-turn}
use Rattle.std.proofs.lemmas.List.{take_all}
use Rattle.scrape_machine.specs.declared.lives.Life.{Life}
use Rattle.scrape_machine.specs.Lives.{is_open}
use Rattle.scrape_steps.proofs.ConcernedLemmas.{place_there, places_length}
use Rattle.scrape_steps.proofs.SweptLemmas.{length-met, map_same, met_at, met_more, met_whole}
use Rattle.scrape_steps.proofs.acts.apply_all.Goals as goal

pub loop-transition-init : goal.loop-transition-init
loop-transition-init c = record { index = refl; lives = refl }

pub place_at-place-requires : goal.place_at-place-requires
place_at-place-requires c =
    let gives = c.into_iter-transition-iterator.ensures.into_iter_gives in
    let list = YieldsList-from_vec {s = c.into_iter-transition-iterator.result} c.args.transitions.items gives.0 (gives.1 ∙ c.args.transitions.ok.0) in
    let t = YieldsList-turn list c.loop-transition.yielded c.loop-transition.transition-iterator c.loop-transition.yielded_by c.next.result c.next.new.self c.in-Some.transition c.in-Some.is c.next.ensures.steps in
    omega (arith, t.0, c.loop-transition.invariant.index, c.requires.each)

pub apply_at-requires : goal.apply_at-requires
apply_at-requires c =
    let gives = c.into_iter-transition-iterator.ensures.into_iter_gives in
    let list = YieldsList-from_vec {s = c.into_iter-transition-iterator.result} c.args.transitions.items gives.0 (gives.1 ∙ c.args.transitions.ok.0) in
    let t = YieldsList-turn list c.loop-transition.yielded c.loop-transition.transition-iterator c.loop-transition.yielded_by c.next.result c.next.new.self c.in-Some.transition c.in-Some.is c.next.ensures.steps in
    let lt : c.loop-transition.index < length c.args.places.now = omega (arith, t.0, c.loop-transition.invariant.index, c.requires.each) in
    let here = place_there is_open c.args.lives.now c.args.places.now c.loop-transition.index c.place_at-place.result c.requires.places lt c.place_at-place.ensures in
    let long = ap (λ (ls : List Life). length ls) c.loop-transition.invariant.lives ∙ length-met c.args.moment c.loop-transition.yielded (take c.loop-transition.index c.args.places.now) c.args.lives.now in
    omega (arith, here, long)

pub loop-transition-preserved : goal.loop-transition-preserved
loop-transition-preserved c =
    let gives = c.into_iter-transition-iterator.ensures.into_iter_gives in
    let list = YieldsList-from_vec {s = c.into_iter-transition-iterator.result} c.args.transitions.items gives.0 (gives.1 ∙ c.args.transitions.ok.0) in
    let t = YieldsList-turn list c.loop-transition.yielded c.loop-transition.transition-iterator c.loop-transition.yielded_by c.next.result c.next.new.self c.in-Some.transition c.in-Some.is c.next.ensures.steps in
    let lt : c.loop-transition.index < length c.args.places.now = omega (arith, t.0, c.loop-transition.invariant.index, c.requires.each) in
    let n : length (c.loop-transition.yielded ++ c.in-Some.transition ∷ []) ≡ length c.loop-transition.yielded + 1 = length-append c.loop-transition.yielded (c.in-Some.transition ∷ []) in
    record {
      index = omega (arith, n, c.loop-transition.invariant.index);
      lives = met_more c.args.moment c.loop-transition.yielded c.args.places.now c.args.lives.now c.loop-transition.lives c.apply_at.new.lives c.in-Some.transition c.loop-transition.index c.place_at-place.result
          c.loop-transition.invariant.index lt c.place_at-place.ensures c.loop-transition.invariant.lives c.apply_at.ensures;
    }

pub returns : goal.returns
returns c =
    let m = c.args.moment in
    let ls = c.args.lives.now in
    let ps = c.args.places.now in
    let gives = c.into_iter-transition-iterator.ensures.into_iter_gives in
    let list = YieldsList-from_vec {s = c.into_iter-transition-iterator.result} c.args.transitions.items gives.0 (gives.1 ∙ c.args.transitions.ok.0) in
    let end = YieldsList-end list c.loop-transition.yielded c.loop-transition.transition-iterator c.loop-transition.yielded_by c.next.result c.next.new.self c.in-None.is c.next.ensures.steps in
    let all = sym (map_same c.loop-transition.yielded) ∙ end.0 in
    c.loop-transition.invariant.lives
    ∙ ap₂ (λ fs qs. met_at m fs qs ls) all (take_all c.loop-transition.index ps (omega (arith, end.1, c.requires.each, c.loop-transition.invariant.index)))
    ∙ ap (λ qs. met_at m c.args.transitions.items qs ls) c.requires.places
    ∙ met_whole m is_open c.args.transitions.items ls (c.requires.each ∙ places_length is_open ls ps c.requires.places)
