use Rattle.label_set.proofs.TableLemmas.{metric_at}
use Rattle.label_set.proofs.names.is_metric_byte.Goals as goal

pub returns : goal.returns
returns c = metric_at c.args.byte c.ranges.byte.fits
