use Rattle.std.proofs.Common.{◌++◌, ◌∷◌, [], ◌*◌, pos, map, sym, ap, ◌∙◌, arith, append_assoc}
use Rattle.journal_text.specs.declared.events.Event.TheVariants.{Sweep}
use Rattle.synth.specs.Scripts.{upto, reply_event}
use Rattle.synth.proofs.PageLemmas.{page_len, upto_none, map_more}
use Rattle.synth.proofs.scripts.push_scrape.Goals as goal

pub loop-target-init : goal.loop-target-init
loop-target-init c = record { events = rw upto_none c.in_ok-push_sweep.ensures.joined; now = c.in_ok-push_sweep.ensures.now }

pub push_reply-requires : goal.push_reply-requires
push_reply-requires c = record { short = rw c.in_ok-bytes.ensures.page (page_len _ (omega arith)) }

pub loop-target-preserved : goal.loop-target-preserved
loop-target-preserved c =
    let old = c.args.journal.now.events in
    let f = reply_event c.args.plan.now c.args.scrape in
    let first = Sweep (pos (15000 * c.args.scrape)) in
    let t = c.loop-target.target in
    record {
      events =
          (rw c.in_ok-bytes.ensures.page at c.in_ok-push_reply.ensures.joined)
          ∙ ap (λ z. z ++ f t ∷ []) c.loop-target.invariant.events
          ∙ append_assoc old (first ∷ map f (upto t)) (f t ∷ [])
          ∙ sym (ap (λ z. old ++ first ∷ z) (map_more f t));
      now = c.in_ok-push_reply.ensures.now ∙ c.loop-target.invariant.now;
    }
