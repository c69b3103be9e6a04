use Rattle.std.proofs.Common.{◌∙◌, sym, ap, arith}
use Rattle.std.specs.List.{flat_map}
use Rattle.std.proofs.lemmas.List.{take_all}
use Rattle.scrape_machine.specs.declared.lives.Life.{Life}
use Rattle.scrape_machine.specs.Machine.{is_over}
use Rattle.scrape_steps.specs.Scans.{swept_entries}
use Rattle.scrape_steps.specs.Concerned.{concerns, concerned}
use Rattle.scrape_steps.proofs.ConcernedLemmas.{flat_where, apart_gives}
use Rattle.scrape_steps.proofs.scans.entries_of.Goals as goal

pub returns : goal.returns
returns c =
    let o = c.args.lives.now.moment in
    let m = c.args.moment in
    let js = c.args.jobs.now in
    c.loop-index.invariant
    ∙ ap (flat_map (swept_entries js m)) (take_all c.loop-index.index (concerned c.args.lives.now) (omega (arith, c.loop-index-test.false, c.count-index-end.ensures)))
    ∙ flat_where (concerns o) (swept_entries js m) (λ (l : Life) h. apart_gives m (is_over js l) l (sym (ap (λ z. concerns z l) c.requires.moment) ∙ h)) c.args.lives.now.all
