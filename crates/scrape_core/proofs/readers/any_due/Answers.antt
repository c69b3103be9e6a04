use Rattle.std.proofs.Common.{◌+◌, ◌||◌, ◌∙◌, sym, ap, arith, drop}
use Rattle.std.specs.List.{list_any}
use Rattle.std.proofs.lemmas.List.{drop_all}
use Rattle.journal_text.specs.Lines.{number}
use Rattle.scrape_steps.specs.Concerned.{concerned}
use Rattle.scrape_core.specs.Readers.{acts}
use Rattle.scrape_core.proofs.ReaderLemmas.{any_left}
use Rattle.scrape_core.proofs.readers.any_due.Goals as goal

pub loop-index-preserved : goal.loop-index-preserved
loop-index-preserved c =
    let n = number c.args.moment in
    let ls = concerned c.args.lives.now in
    let i = c.loop-index.index in
    let left = any_left n ls i c.at.result.now (omega (arith, c.loop-index-test.true, c.count-index-end.ensures)) c.at.ensures in
    sym (ap (λ b. b || list_any (acts n) (drop (i + 1) ls)) (sym c.acts.ensures ∙ c.if-acts.false)) ∙ sym left ∙ c.loop-index.invariant

pub returns-then-acts : goal.returns-then-acts
returns-then-acts c =
    let n = number c.args.moment in
    let ls = concerned c.args.lives.now in
    let i = c.loop-index.index in
    let left = any_left n ls i c.at.result.now (omega (arith, c.loop-index-test.true, c.count-index-end.ensures)) c.at.ensures in
    sym (ap (λ b. b || list_any (acts n) (drop (i + 1) ls)) (sym c.acts.ensures ∙ c.if-acts.true)) ∙ sym left ∙ c.loop-index.invariant

pub returns : goal.returns
returns c =
    sym (ap (list_any (acts (number c.args.moment))) (drop_all c.loop-index.index (concerned c.args.lives.now) (omega (arith, c.loop-index-test.false, c.count-index-end.ensures)))) ∙ c.loop-index.invariant
