use Rattle.std.proofs.Common.{◌++◌, ◌∙◌, List, ℕ, map, sym, ap, sum_by}
use Rattle.scrape_machine.specs.Lives.{is_open}
use Rattle.scrape_steps.specs.Endings.{life_of}
use Rattle.scrape_steps.proofs.EndingLemmas.{places_rise, swept_are}
use Rattle.scrape_core.proofs.turns.sweep_due.Goals as goal

pub swept_places-requires : goal.swept_places-requires
swept_places-requires c = places_rise is_open c.args.state.now.lives.items c.deref.result.now (c.deref.ensures.value ∙ c.requires.opens)

pub sweep-requires-clause-places : goal.sweep-requires-clause-places
sweep-requires-clause-places c =
    let s = c.args.state.now in
    c.deref-2.ensures.value
    ∙ swept_are c.args.moment s.lives.items c.args.due.now s.open_lives.items c.in_ok-places.places.items c.requires.opens c.requires.due
    (λ f. ap (λ (ps : List ℕ). sum_by f (ps ++ map life_of c.args.due.now)) (sym c.deref.ensures.value) ∙ c.in_ok-places.ensures.same f) c.in_ok-places.ensures.rising
