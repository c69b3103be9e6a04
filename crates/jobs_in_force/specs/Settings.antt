-- The settings of a job: what a load that keeps a life may change ("Configuration" of the Prometheus documentation, scrape_config).
use Rattle.std.specs.Prelude.{[]}
use Rattle.scrape_config.specs.declared.conf.Job.{Job}

-- the job without its static groups and its files, which are no settings
abbrev pub settings_of : Job → Job
settings_of j = record j { conf = record j.conf { groups = []; files = [] } }
