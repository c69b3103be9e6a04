use Rattle.std.proofs.Common.{◌≡◌, List, Option, length, slice_get, ap, ap₂, ◌∙◌, arith}
use Rattle.std.specs.Prelude.{option_and_then}
use Rattle.std.specs.Vec.{with_items}
use Rattle.std.proofs.lemmas.List.{with_items_is}
use Rattle.life_roll.specs.declared.answers.Flight.{Flight}
use Rattle.life_roll.specs.declared.lives.Life.{Life}
use Rattle.life_roll.specs.declared.lives.Start.{Start}
use Rattle.life_roll.specs.Rolls.{RollView}
use Rattle.life_roll.specs.Flights as flights
use Rattle.life_roll.proofs.FlightLemmas.{landed_flights}
use Rattle.life_roll.proofs.roll.Roll.land.Goals as goal

pub returns-clause-flights : goal.returns-clause-flights
returns-clause-flights c = λ k.
    let old = c.args.self.now in
    let t = c.args.ticket in
    let olds = c.deref_mut.ensures.value ∙ ap (λ (r : RollView). r.lives) c.self.view_is in
    let starts = c.deref_mut-2.ensures.value ∙ ap (λ (r : RollView). r.started) c.self.view_is in
    let lives : (with_items c.self.inside.lives c.free_life_of.new.lives).items ≡ flights.freed (flights.flight_of old t) old.lives =
    with_items_is c.self.inside.lives c.free_life_of.new.lives (omega (arith, ap length c.deref_mut.ensures.value, c.self.inside.lives.ok.0))
    ∙ (c.free_life_of.ensures ∙ ap₂ (λ (f : Option Flight) (ls : List Life). flights.freed f ls) c.flight_of-flight.ensures olds) in
    let started : (with_items c.self.inside.started c.finish.new.started).items ≡ flights.finished t old.started =
    with_items_is c.self.inside.started c.finish.new.started (omega (arith, ap length c.deref_mut-2.ensures.value, c.self.inside.started.ok.0))
    ∙ (c.finish.ensures ∙ ap (λ (ss : List Start). flights.finished t ss) starts) in
    ap₂ (λ (ls : List Life) (ss : List Start). option_and_then (flights.flight_from ls k) (slice_get ss k)) lives started
    ∙ landed_flights old t k
