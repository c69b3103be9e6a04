use Rattle.std.proofs.Common.{arith}
use Rattle.journal_text.specs.Lines.{number}
use Rattle.scrape_machine.specs.Machine.{forces_in}
use Rattle.scrape_steps.specs.Concerned.{concerns}
use Rattle.scrape_steps.proofs.ConcernedLemmas.{apart_closed, count_all, closed_forces, filter_few}
use Rattle.scrape_steps.proofs.scans.count_forced.Goals as goal

pub returns-clause-value : goal.returns-clause-value
returns-clause-value c =
    let o = c.args.lives.now.moment in
    let js = c.args.jobs.now in
    let m = number c.args.moment in
    count_all (concerns o) (forces_in js m) (λ l h. closed_forces js m l (apart_closed o l h)) c.args.lives.now.all c.loop-index.index c.loop-index.count (omega (arith, c.loop-index-test.false, c.count-index-end.ensures))
    c.loop-index.invariant.count

pub returns-clause-few : goal.returns-clause-few
returns-clause-few c =
    let o = c.args.lives.now.moment in
    let js = c.args.jobs.now in
    let m = number c.args.moment in
    let e = count_all (concerns o) (forces_in js m) (λ l h. closed_forces js m l (apart_closed o l h)) c.args.lives.now.all c.loop-index.index c.loop-index.count (omega (arith, c.loop-index-test.false, c.count-index-end.ensures))
    c.loop-index.invariant.count in
    omega (arith, e, filter_few (forces_in js m) c.args.lives.now.all)
