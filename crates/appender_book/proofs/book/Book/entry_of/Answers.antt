use Rattle.std.proofs.Common.{◌≡◌, ap, ◌∙◌, List, subst, slice_get, option_map}
use Rattle.std.specs.Option.{option_copied}
use Rattle.report_samples.specs.declared.entries.Entry.{Entry}
use Rattle.appender_book.specs.Books.{BookView}
use Rattle.appender_book.specs.Index.{entry_at}
use Rattle.appender_book.specs.Series.{series_of}
use Rattle.appender_book.proofs.NumberLemmas.{entry_set, series_in}
use Rattle.appender_book.proofs.book.Book.entry_of.Goals as goal

pub returns : goal.returns
returns c =
    let ends = c.self.inside.index.ends.items in
    subst (λ (v : BookView). option_map series_in (option_copied c.entry_at.result) ≡ slice_get (series_of v.entries) c.args.number) c.self.view_is
    (ap (option_map series_in) (c.entry_at.ensures ∙ ap (λ (es : List Entry). entry_at es ends c.args.number) c.deref.ensures.value)
    ∙ entry_set c.self.inside.entries.items c.self.inside.index c.args.number c.self.invariant.0)
