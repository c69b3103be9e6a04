use Rattle.std.proofs.Common.{◌≡◌, ◌∙◌, List, ℕ, ap, subst, inl, inr, refl}
use Rattle.journal_text.specs.declared.versions.Version.TheVariants.{Two}
use Rattle.journal_text.specs.Events.{journal_text}
use Rattle.outside.specs.Objects.{Cut, Took, used}
use Rattle.book_text.specs.Texts.{printed}
use Rattle.report_samples.specs.declared.entries.Entry.{Entry}
use Rattle.scrape_machine.specs.Machine.{book_of}
use Rattle.live_run.proofs.written.write_run.Goals as goal

pub returns-in-Err-clause-cut : goal.returns-in-Err-clause-cut
returns-in-Err-clause-cut g c = λ _.
    let text : c.as_slice.result.now ≡ journal_text Two c.args.core.now = c.as_slice.ensures ∙ c.in_ok-text.ensures ∙ ap (journal_text Two) c.journal.ensures in
    inl (subst (λ (t : List ℕ). Cut t (used (g.R.Sink.seen c.args.trail.now) (g.R.Sink.seen c.put.new.self))) text c.in-Err.ensures.cut, refl)

pub returns-clause-cut : goal.returns-clause-cut
returns-clause-cut g c = λ _.
    let text : c.as_slice.result.now ≡ journal_text Two c.args.core.now = c.as_slice.ensures ∙ c.in_ok-text.ensures ∙ ap (journal_text Two) c.journal.ensures in
    let entries : c.in_ok-printer.printer ≡ book_of c.args.core.now = c.in_ok-printer.ensures ∙ c.book.ensures in
    inr (
      subst (λ (t : List ℕ). Took t (used (g.R.Sink.seen c.args.trail.now) (g.R.Sink.seen c.put.new.self))) text c.in-Ok.ensures.whole,
      subst (λ (es : List Entry). Cut (printed c.args.kept es) (used (g.O.Sink.seen c.args.out.now) (g.O.Sink.seen c.print.new.out))) entries c.in-Err-print.ensures.cut,
    )
