use Rattle.std.proofs.Common.{◌++◌, sym, ap, ◌∙◌, arith, append_assoc, append-nil}
use Rattle.std.specs.List.{flat_map}
use Rattle.synth.specs.Scripts.{upto, scrape_events}
use Rattle.synth.proofs.PageLemmas.{upto_none, flat_more}
use Rattle.synth.proofs.scripts.push_scrapes.Goals as goal

pub loop-scrape-init : goal.loop-scrape-init
loop-scrape-init c = record { events = rw upto_none (sym (append-nil c.args.journal.now.events)); now = omega (arith, c.requires.order) }

pub loop-scrape-preserved : goal.loop-scrape-preserved
loop-scrape-preserved c =
    let old = c.args.journal.now.events in
    let f = scrape_events c.args.plan.now in
    let s = c.loop-scrape.scrape in
    record {
      events =
          c.in_ok-push_scrape.ensures.joined
          ∙ ap (λ z. z ++ f s) c.loop-scrape.invariant.events
          ∙ append_assoc old (flat_map f (upto s)) (f s)
          ∙ sym (ap (λ z. old ++ z) (flat_more f s));
      now = omega (arith, c.in_ok-push_scrape.ensures.now);
    }
