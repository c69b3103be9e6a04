use Rattle.std.proofs.lemmas.Bool.Decides.{same_from_decides}
use Rattle.scrape_config.specs.Settings.{is_compatible}
use Rattle.scrape_config.proofs.SettingLemmas.{compatible_is_decided}
use Rattle.scrape_config.proofs.conf.JobConf.compatible.Goals as goal

pub returns-clause-compared : goal.returns-clause-compared
returns-clause-compared c =
    same_from_decides c.are_compatible.result (is_compatible c.args.self.now c.args.other.now) c.are_compatible.ensures (compatible_is_decided c.args.self.now c.args.other.now)
