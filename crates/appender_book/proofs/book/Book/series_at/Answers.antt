use Rattle.std.proofs.Common.{◌≡◌, subst, slice_get, option_map}
use Rattle.std.specs.Prelude.{IfSome}
use Rattle.appender_book.specs.Books.{BookView}
use Rattle.appender_book.specs.Series.{series_of}
use Rattle.appender_book.proofs.NumberLemmas.{number_read, series_in}
use Rattle.appender_book.proofs.book.Book.series_at.Goals as goal

pub returns-clause-set : goal.returns-clause-set
returns-clause-set c =
    subst (λ (v : BookView). IfSome c.series_at.result (λ n. slice_get (series_of v.entries) n ≡ option_map series_in (slice_get v.entries c.args.place))) c.self.view_is
    (number_read c.self.inside.entries.items c.self.inside.index c.args.place c.series_at.result c.self.invariant.0 c.series_at.ensures)
