use Rattle.std.proofs.Common.{rules, ◌≡◌, ◌∙◌, ◌++◌, ◌∷◌, [], ◌+◌, take}
use Rattle.std.proofs.lemmas.List.{take_more}
use Rattle.std.proofs.lemmas.List.Elements.{All-push, All-weaker}
use Rattle.instant_view.specs.declared.rows.Placed.{Placed}
use Rattle.instant_view.specs.Threads.{HasPlace}
use Rattle.instant_view.proofs.threads.make_places.Goals as goal

pub loop-placed-preserved : goal.loop-placed-preserved
loop-placed-preserved c =
    let more : take (c.loop-placed.placed-index + 1) c.args.fresh.now ≡ take c.loop-placed.placed-index c.args.fresh.now ++ c.placed-item.result ∷ [] = search (rules, take_more) in
    record {
      places =
          rw more (All-push (HasPlace c.make_place.new.ends) _ c.placed-item.result
          (All-weaker (HasPlace c.loop-placed.ends) (HasPlace c.make_place.new.ends) (λ (p : Placed) h. c.make_place.ensures.places p.entry.series h) _ c.loop-placed.invariant.places)
          c.in_ok-make_place.ensures.ok);
      same = λ s. c.make_place.ensures.same s ∙ c.loop-placed.invariant.same s;
      named = c.make_place.ensures.named;
    }
