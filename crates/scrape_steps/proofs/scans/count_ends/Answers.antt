use Rattle.std.proofs.Common.{◌∙◌, arith, sym, ap}
use Rattle.journal_text.specs.Lines.{number}
use Rattle.scrape_machine.specs.declared.lives.Life.{Life}
use Rattle.scrape_machine.specs.Lives.{ends}
use Rattle.scrape_steps.specs.Concerned.{concerns}
use Rattle.scrape_steps.proofs.ConcernedLemmas.{apart_ends, count_all, filter_few}
use Rattle.scrape_steps.proofs.scans.count_ends.Goals as goal

pub returns-clause-value : goal.returns-clause-value
returns-clause-value c =
    let o = c.args.lives.now.moment in
    let m = c.args.moment in
    count_all (concerns o) (ends (number m)) (λ (l : Life) h. apart_ends m l (sym (ap (λ z. concerns z l) c.requires) ∙ h)) c.args.lives.now.all c.loop-index.index c.loop-index.count
    (omega (arith, c.loop-index-test.false, c.count-index-end.ensures)) c.loop-index.invariant.count

pub returns-clause-few : goal.returns-clause-few
returns-clause-few c =
    let o = c.args.lives.now.moment in
    let m = c.args.moment in
    let e = count_all (concerns o) (ends (number m)) (λ (l : Life) h. apart_ends m l (sym (ap (λ z. concerns z l) c.requires) ∙ h)) c.args.lives.now.all c.loop-index.index c.loop-index.count
    (omega (arith, c.loop-index-test.false, c.count-index-end.ensures)) c.loop-index.invariant.count in
    omega (arith, e, filter_few (ends (number m)) c.args.lives.now.all)
