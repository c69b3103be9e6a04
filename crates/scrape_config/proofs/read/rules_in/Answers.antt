use Rattle.scrape_config.specs.Reading.{rules_place}
use Rattle.scrape_config.proofs.PatternLemmas.{rules_none}
use Rattle.scrape_config.proofs.read.rules_in.Goals as goal

pub returns-in-Ok-clause-none : goal.returns-in-Ok-clause-none
returns-in-Ok-clause-none c = rules_none (rules_place c.args.job c.args.key.now) c.args.rules.now c.in-Ok.ensures.fine
