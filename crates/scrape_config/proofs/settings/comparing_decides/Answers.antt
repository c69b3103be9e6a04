use Rattle.scrape_config.proofs.SettingLemmas.{compatible_is_decided, same_is_decided, same_is_compatible}
use Rattle.scrape_config.proofs.settings.comparing_decides.Goals as goal

pub returns : goal.returns
returns c = record { compatible = compatible_is_decided; same = same_is_decided; within = same_is_compatible }
