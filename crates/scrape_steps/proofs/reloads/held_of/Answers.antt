use Rattle.std.proofs.Common.{◌∙◌, ap, ap₂, arith, List, get_or}
use Rattle.std.specs.List.{list_any}
use Rattle.std.proofs.lemmas.List.{take_all}
use Rattle.scrape_steps.specs.declared.acts.Transition.{Transition}
use Rattle.scrape_machine.specs.declared.lives.Life.{Life}
use Rattle.scrape_steps.specs.Plans.{after_each, sits}
use Rattle.scrape_steps.specs.Concerned.{concerns, concerned}
use Rattle.scrape_steps.proofs.HeldLemmas.{held_more}
use Rattle.scrape_steps.proofs.ConcernedLemmas.{apart_closed, held_where}
use Rattle.scrape_steps.proofs.reloads.held_of.Goals as goal

pub loop-transition-preserved : goal.loop-transition-preserved
loop-transition-preserved c =
    let p = c.loop-transition.invariant.place in
    let n = c.requires in
    let ls = concerned c.args.lives.now in
    record {
      place = omega arith;
      held = λ moment place identity.
          held_more moment c.args.names.now place identity c.args.transitions.now ls c.loop-transition.transition-index c.transition-item.result c.at.result.now _ _
          c.loop-transition-test.true (omega (arith, p, n, c.loop-transition-test.true)) c.transition-item.is (c.at.ensures ∙ ap (λ i. get_or ls i c.at.result.now) p) (c.loop-transition.invariant.held moment place identity)
          (c.in_ok-hold.ensures moment place identity);
    }

pub returns : goal.returns
returns c = λ moment place identity.
    c.loop-transition.invariant.held moment place identity
    ∙ ap₂ (λ (fs : List Transition) (ls : List Life). list_any (sits c.args.names.now place identity) (after_each moment fs ls))
    (take_all c.loop-transition.transition-index c.args.transitions.now (omega (arith, c.loop-transition-test.false))) (take_all c.loop-transition.transition-index (concerned c.args.lives.now) (omega (arith, c.loop-transition-test.false, c.requires)))
    ∙ held_where moment c.args.names.now place identity (concerns c.args.lives.now.moment) (apart_closed c.args.lives.now.moment) c.args.transitions.now c.args.lives.now.all c.requires
