use Rattle.std.proofs.Common.{subst, sym, false}
use Rattle.scrape_loop.specs.Raw.{AreRaw}
use Rattle.scrape_loop.specs.Texts.{AreRight, IsAtRest}
use Rattle.scrape_loop.specs.Tracked.{LifeView}
use Rattle.scrape_loop.proofs.CountLemmas.{force_state}
use Rattle.scrape_loop.proofs.RawLemmas.{forced_raw}
use Rattle.scrape_loop.proofs.RightLemmas.{forced_right}
use Rattle.scrape_loop.proofs.TextLemmas.{turned_rests}
use Rattle.scrape_loop.proofs.life_state.LifeState.force.Goals as goal

pub invariant_of-self : goal.invariant_of-self
invariant_of-self c = (
  subst IsAtRest (sym c.turn.ensures.turned) (turned_rests false c.self.inside.cache),
  subst (AreRaw c.self.inside.form) (sym c.turn.ensures.turned) (forced_raw c.self.inside.form c.self.inside.cache c.self.invariant.0 c.self.invariant.1),
)

pub returns-clause-state : goal.returns-clause-state
returns-clause-state c =
    force_state c.self.inside.past.life c.self.inside.past.target c.self.inside.past.extra c.self.inside.past.scraped c.self.inside.past.up c.self.inside.cache c.turn.new.self c.args.self.now c.self.view_is c.turn.ensures.turned
    c.turn.ensures.was

pub returns-clause-none_tracked : goal.returns-clause-none_tracked
returns-clause-none_tracked c =
    force_state c.self.inside.past.life c.self.inside.past.target c.self.inside.past.extra c.self.inside.past.scraped c.self.inside.past.up c.self.inside.cache c.turn.new.self c.args.self.now c.self.view_is c.turn.ensures.turned
    c.turn.ensures.was

pub returns-clause-right : goal.returns-clause-right
returns-clause-right c = λ honor metric h.
    (subst (λ (v : LifeView). AreRight honor metric v.target v.cache.texts)
    (sym
    (force_state c.self.inside.past.life c.self.inside.past.target c.self.inside.past.extra c.self.inside.past.scraped c.self.inside.past.up c.self.inside.cache c.turn.new.self c.args.self.now c.self.view_is
    c.turn.ensures.turned c.turn.ensures.was))
    (forced_right honor metric c.args.self.now.target c.args.self.now h))
