use Rattle.std.proofs.Common.{List, slice_get, sym, ap, subst, ◌∙◌, Result, Ok, Err, OnOk, option_map}
use Rattle.std.specs.Prelude.{option_and_then}
use Rattle.life_roll.specs.declared.lives.Life.{Life}
use Rattle.life_roll.specs.Wants.{terms_at}
use Rattle.life_roll.specs.Rolls.{RollView}
use Rattle.life_roll.specs.Flights as flights
use Rattle.life_roll.specs.Counts.{HaveOneEach, AreOpen}
use Rattle.life_roll.proofs.CountLemmas.{all_open}
use Rattle.life_roll.proofs.FlightLemmas.{synced_flights}
use Rattle.life_roll.proofs.roll.Roll.sync.Goals as goal

on_ok : {A E : Type 0} {P Q : Type 0} (r : Result A E) → (P → Q) → OnOk r P → OnOk r Q
on_ok (Ok x) f p = f p
on_ok (Err e) f p = tt

pub returns-clause-flights : goal.returns-clause-flights
returns-clause-flights c =
    on_ok c.sync.result
    (λ e k.
    ap (λ (ls : List Life). option_and_then (flights.flight_from ls k) (slice_get c.self.inside.started.items k)) e
    ∙ (synced_flights c.new.result c.args.wanted.now c.self.inside.lives.items k (slice_get c.self.inside.started.items k)
    ∙ ap (λ (r : RollView). option_map (flights.flight_after (terms_at c.args.wanted.now) r.lives) (flights.flight_of r k)) c.self.view_is))
    c.sync.ensures.lives

pub returns-clause-single : goal.returns-clause-single
returns-clause-single c = λ apart single.
    let one = subst (λ (r : RollView). HaveOneEach r.lives) (sym c.self.view_is) single in
    on_ok c.sync.result
    (λ e. subst (λ (ls : List Life). AreOpen c.args.wanted.now ls) (sym e) (all_open c.new.result c.args.wanted.now c.self.inside.lives.items apart one))
    c.sync.ensures.lives
