use Rattle.named_series.proofs.BookLemmas.{book-named}
use Rattle.named_series.proofs.laws.series_have_names.Goals as goal

pub returns : goal.returns
returns c = book-named
