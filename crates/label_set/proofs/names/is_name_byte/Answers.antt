use Rattle.label_set.proofs.TableLemmas.{name_at}
use Rattle.label_set.proofs.names.is_name_byte.Goals as goal

pub returns : goal.returns
returns c = name_at c.args.byte c.ranges.byte.fits
