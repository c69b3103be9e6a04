use Rattle.std.proofs.Common.{sym, ap, ◌∙◌, Option, subst}
use Rattle.report_samples.specs.declared.entries.Entry.{Entry}
use Rattle.appender_book.specs.declared.index.Found.{Found}
use Rattle.appender_book.specs.Index.{IsFound}
use Rattle.appender_book.specs.Verdicts.{verdict_after}
use Rattle.appender_book.proofs.IndexLemmas.{known_last, new_kept}
use Rattle.appender_book.proofs.index.Index.verdict_of.Goals as goal

pub returns-in-Known : goal.returns-in-Known
returns-in-Known c =
    let found = subst (λ (f : Found). IsFound c.args.entries.now c.args.self.now c.args.entry.now.series f) c.in-Known.is c.requires.found in
    c.verdict_after.ensures
    ∙ ap (λ (o : Option Entry). verdict_after o c.args.entry.now)
    (c.entry_at.ensures ∙ known_last c.args.entries.now c.args.self.now c.args.entry.now.series c.in-Known.place c.requires.index found)

pub returns-in-New : goal.returns-in-New
returns-in-New c =
    let found = subst (λ (f : Found). IsFound c.args.entries.now c.args.self.now c.args.entry.now.series f) c.in-New.is c.requires.found in
    sym (new_kept c.args.entries.now c.args.self.now c.args.entry.now c.requires.index found.0)
