use Rattle.std.proofs.lemmas.Bool.Decides.{same_from_decides}
use Rattle.scrape_config.specs.Settings.{is_same}
use Rattle.scrape_config.proofs.SettingLemmas.{same_is_decided}
use Rattle.scrape_config.proofs.conf.JobConf.same.Goals as goal

pub returns-clause-compared : goal.returns-clause-compared
returns-clause-compared c =
    same_from_decides c.are_same.result (is_same c.args.self.now c.args.other.now) c.are_same.ensures (same_is_decided c.args.self.now c.args.other.now)
