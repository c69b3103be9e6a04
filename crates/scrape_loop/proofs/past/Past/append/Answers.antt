use Rattle.std.proofs.Common.{◌≡◌, ◌++◌, List, subst}
use Rattle.std.specs.Prelude.{OnOk}
use Rattle.report_samples.specs.declared.entries.Entry.{Entry}
use Rattle.scrape_loop.proofs.past.Past.append.Goals as goal

pub returns-clause-entries : goal.returns-clause-entries
returns-clause-entries c =
    subst (λ (es : List Entry). OnOk c.append_all.result (c.append_all.new.self.entries ≡ c.args.book.now.entries ++ es)) c.in_ok-entries.ensures
    c.append_all.ensures.ok
