use Rattle.std.proofs.Common.{◌∙◌, List, ℕ, length, get_or, ap, arith}
use Rattle.scrape_steps.specs.Concerned.{LivesView, concerns, concerned, places}
use Rattle.scrape_steps.proofs.ConcernedLemmas.{places_length}
use Rattle.scrape_steps.proofs.concerned.Lives.place.Goals as goal

pub place_at-requires : goal.place_at-requires
place_at-requires c =
    let l = c.self.inside in
    omega (arith, c.requires, places_length (concerns l.moment) l.all.now l.places.now c.self.invariant ∙ ap (λ (v : LivesView). length (concerned v)) c.self.view_is)

pub returns : goal.returns
returns c =
    c.place_at.ensures
    ∙ ap (λ (ps : List ℕ). get_or ps c.args.index c.place_at.result) (c.self.invariant ∙ ap places c.self.view_is)
