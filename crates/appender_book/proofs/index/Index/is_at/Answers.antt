use Rattle.std.proofs.Common.{sym, ap, ◌∙◌}
use Rattle.appender_book.specs.Index.{is_of_set, is_series}
use Rattle.appender_book.proofs.SeriesLemmas.{passes_as}
use Rattle.appender_book.proofs.index.Index.is_at.Goals as goal

pub returns-in-None : goal.returns-in-None
returns-in-None c =
    ap (is_of_set (is_series c.args.series.now)) c.in-None.ensures ∙ sym (passes_as c.args.entries.now c.args.self.now.ends.items c.args.series.now c.args.place)

pub returns-in-Some : goal.returns-in-Some
returns-in-Some c =
    c.eq.ensures ∙ ap (is_of_set (is_series c.args.series.now)) c.in-Some.ensures
    ∙ sym (passes_as c.args.entries.now c.args.self.now.ends.items c.args.series.now c.args.place)
