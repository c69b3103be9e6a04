use Rattle.std.proofs.Common.{ℕ, ◌∙◌, sym, ap, arith}
use Rattle.std.specs.List.{list_any}
use Rattle.std.proofs.lemmas.List.{take_all}
use Rattle.scrape_steps.specs.Concerned.{concerned}
use Rattle.scrape_core.specs.Readers.{acts}
use Rattle.scrape_core.specs.Wakes.{sooner}
use Rattle.scrape_core.proofs.ReaderLemmas.{more_reached}
use Rattle.scrape_core.proofs.readers.first_wake.Goals as goal

pub loop-index-preserved : goal.loop-index-preserved
loop-index-preserved c = λ (n : ℕ).
    more_reached (concerned c.args.lives.now) c.loop-index.index n c.at.result.now c.loop-index.first c.sooner-first.result (omega (arith, c.loop-index-test.true, c.count-index-end.ensures)) c.at.ensures (c.loop-index.invariant n)
    (c.sooner-first.ensures ∙ ap (sooner c.loop-index.first) c.wake_of.ensures)

pub returns : goal.returns
returns c = λ (n : ℕ).
    sym (ap (list_any (acts n)) (take_all c.loop-index.index (concerned c.args.lives.now) (omega (arith, c.loop-index-test.false, c.count-index-end.ensures))))
    ∙ c.loop-index.invariant n
