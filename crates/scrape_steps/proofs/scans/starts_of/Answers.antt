use Rattle.std.proofs.Common.{Bool, ◌<◌, ◌++◌, ◌∙◌, List, length, append-nil, sym, ap, ap₂, arith}
use Rattle.std.proofs.lemmas.List.{drop_all}
use Rattle.journal_text.specs.Lines.{number}
use Rattle.scrape_machine.specs.declared.lives.StartedScrape.{StartedScrape}
use Rattle.scrape_machine.specs.Lives.{starts}
use Rattle.scrape_machine.specs.Machine.{started_by, starts_from}
use Rattle.scrape_steps.specs.Concerned.{concerns, concerned, places}
use Rattle.scrape_steps.proofs.ConcernedLemmas.{apart_closed, closed_starts, starts_at, starts_next, starts_where, length-places}
use Rattle.scrape_steps.proofs.scans.starts_of.Goals as goal

pub loop-index-init : goal.loop-index-init
loop-index-init c =
    let v = c.args.lives.now in
    let js = c.args.jobs.now in
    let m = number c.args.moment in
    ap (λ (zs : List StartedScrape). zs ++ starts_at js m (places v) (concerned v)) c.new-begun.ensures.items
    ∙ starts_where js m (concerns v.moment) (λ l h. closed_starts js m l (apart_closed v.moment l h)) 0 v.all

pub loop-index-preserved : goal.loop-index-preserved
loop-index-preserved c =
    let m = number c.args.moment in
    let v = c.args.lives.now in
    let lt : c.loop-index.index < length (concerned v) = omega (arith, c.loop-index-test.true, c.count-index-end.ensures) in
    let there : c.loop-index.index < length (places v) = omega (arith, lt, length-places (concerns v.moment) 0 v.all) in
    starts_next c.args.jobs.now m (places v) (concerned v) c.loop-index.index c.place-place.result c.at-life.result.now (starts_from c.args.jobs.now m 0 v.all) c.loop-index.begun.items c.push_start.new.begun.items
    there lt c.place-place.ensures c.at-life.ensures c.loop-index.invariant
    (c.in_ok-push_start.ensures
    ∙ ap (λ (over : Bool). c.loop-index.begun.items ++ started_by (starts m over c.at-life.result.now) c.place-place.result c.at-life.result.now)
    c.is_over-over.ensures)

pub returns : goal.returns
returns c =
    let m = number c.args.moment in
    let v = c.args.lives.now in
    let le = c.loop-index-test.false in
    let n = c.count-index-end.ensures in
    let p = length-places (concerns v.moment) 0 v.all in
    sym (append-nil c.loop-index.begun.items)
    ∙ ap (λ (zs : List StartedScrape). c.loop-index.begun.items ++ zs)
    (sym (ap₂ (starts_at c.args.jobs.now m) (drop_all c.loop-index.index (places v) (omega (arith, le, n, p))) (drop_all c.loop-index.index (concerned v) (omega (arith, le, n)))))
    ∙ c.loop-index.invariant
