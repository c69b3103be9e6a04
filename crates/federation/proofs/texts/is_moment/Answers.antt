use Rattle.federation.proofs.NumberLemmas.{fits_in_range}
use Rattle.federation.proofs.texts.is_moment.Goals as goal

pub returns : goal.returns
returns c = fits_in_range c.args.moment c.ranges.moment
