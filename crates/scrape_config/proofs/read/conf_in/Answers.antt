use Rattle.std.proofs.Common.{refl}
use Rattle.serde_json.specs.View.{view}
use Rattle.scrape_config.specs.Values.{conf_of}
use Rattle.scrape_config.proofs.JobLemmas.{jobs_clean}
use Rattle.scrape_config.proofs.read.conf_in.Goals as goal

pub jobs_in-requires : goal.jobs_in-requires
jobs_in-requires c = record { clean = rw (c.base_of.ensures, c.list_under.ensures) (jobs_clean (view c.args.value.now) c.requires.clean) }

pub returns-in-Ok-clause-conf : goal.returns-in-Ok-clause-conf
unfolding conf_of
returns-in-Ok-clause-conf c = rw (c.in-Ok.ensures.jobs, c.base_of.ensures, c.list_under.ensures) refl

pub returns-in-Ok-clause-none : goal.returns-in-Ok-clause-none
unfolding conf_of
returns-in-Ok-clause-none c = rw (c.base_of.ensures, c.list_under.ensures) at c.in-Ok.ensures.none

pub returns-in-Err-clause-first : goal.returns-in-Err-clause-first
unfolding conf_of
returns-in-Err-clause-first c = rw (c.base_of.ensures, c.list_under.ensures) at c.in-Err.ensures.first
