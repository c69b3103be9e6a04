use Rattle.named_series.proofs.BookLabels.{book-labels}
use Rattle.named_series.proofs.laws.labels_have_names.Goals as goal

pub returns : goal.returns
returns c = book-labels
