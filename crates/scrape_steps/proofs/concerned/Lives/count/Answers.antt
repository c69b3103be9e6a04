use Rattle.std.proofs.Common.{◌∙◌, length, ap}
use Rattle.scrape_steps.specs.Concerned.{LivesView, concerns, concerned}
use Rattle.scrape_steps.proofs.ConcernedLemmas.{places_length}
use Rattle.scrape_steps.proofs.concerned.Lives.count.Goals as goal

pub returns : goal.returns
returns c =
    let l = c.self.inside in
    places_length (concerns l.moment) l.all.now l.places.now c.self.invariant ∙ ap (λ (v : LivesView). length (concerned v)) c.self.view_is
