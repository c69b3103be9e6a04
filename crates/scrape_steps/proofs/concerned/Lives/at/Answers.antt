use Rattle.std.proofs.Common.{◌∙◌, length, get_or, ap, arith}
use Rattle.scrape_steps.specs.Concerned.{LivesView, concerns, concerned}
use Rattle.scrape_steps.proofs.ConcernedLemmas.{places_length, place_there, life_there}
use Rattle.scrape_steps.proofs.concerned.Lives.at.Goals as goal

pub place_at-requires : goal.place_at-requires
place_at-requires c =
    let l = c.self.inside in
    omega (arith, c.requires, places_length (concerns l.moment) l.all.now l.places.now c.self.invariant ∙ ap (λ (v : LivesView). length (concerned v)) c.self.view_is)

pub life_at-requires : goal.life_at-requires
life_at-requires c =
    let l = c.self.inside in
    let n = places_length (concerns l.moment) l.all.now l.places.now c.self.invariant ∙ ap (λ (v : LivesView). length (concerned v)) c.self.view_is in
    place_there (concerns l.moment) l.all.now l.places.now c.args.index c.place_at.result c.self.invariant (omega (arith, c.requires, n)) c.place_at.ensures

pub returns : goal.returns
returns c =
    let l = c.self.inside in
    let n = places_length (concerns l.moment) l.all.now l.places.now c.self.invariant ∙ ap (λ (v : LivesView). length (concerned v)) c.self.view_is in
    life_there (concerns l.moment) l.all.now l.places.now c.args.index c.place_at.result c.life_at.result.now c.self.invariant (omega (arith, c.requires, n)) c.place_at.ensures c.life_at.ensures
    ∙ ap (λ (v : LivesView). get_or (concerned v) c.args.index c.life_at.result.now) c.self.view_is
