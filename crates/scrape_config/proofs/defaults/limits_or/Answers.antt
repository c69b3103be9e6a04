use Rattle.std.proofs.Common.{refl}
use Rattle.scrape_config.specs.Defaults.{limits_or}
use Rattle.scrape_config.proofs.defaults.limits_or.Goals as goal

pub returns : goal.returns
unfolding limits_or
returns c = rw (c.limit_or.ensures, c.limit_or-2.ensures, c.limit_or-3.ensures, c.limit_or-4.ensures, c.limit_or-5.ensures, c.limit_or-6.ensures) refl
