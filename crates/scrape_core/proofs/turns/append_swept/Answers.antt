use Rattle.std.proofs.Common.{◌≡◌, ◌++◌, ◌∙◌, List, sym, ap₂, subst}
use Rattle.std.specs.Prelude.{OnOk}
use Rattle.std.specs.List.{flat_map}
use Rattle.report_samples.specs.declared.entries.Entry.{Entry}
use Rattle.scrape_steps.specs.Scans.{swept_entries}
use Rattle.scrape_steps.proofs.SweepLemmas.{sweep_entries}
use Rattle.scrape_core.proofs.turns.append_swept.Goals as goal

pub returns-clause-book : goal.returns-clause-book
returns-clause-book c =
    let s = c.args.state.now in
    let m = c.args.moment in
    subst (λ (es : List Entry). OnOk c.append_all.result (c.append_all.new.self.entries ≡ c.args.book.now.entries ++ es))
    (c.in_ok-items.ensures ∙ ap₂ (λ js ls. flat_map (swept_entries js m) ls) c.deref-2.ensures.value (c.swept-lives.ensures.all ∙ c.deref.ensures.value)
    ∙ sym (sweep_entries s.jobs.items s.lives.items s.started.items m))
    c.append_all.ensures.ok
