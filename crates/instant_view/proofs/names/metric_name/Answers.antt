use Rattle.expo_reader.proofs.NameLemmas.{metric_name-utf8}
use Rattle.instant_view.proofs.names.metric_name.Goals as goal

pub utf8_text-requires : goal.utf8_text-requires
utf8_text-requires c = metric_name-utf8 c.args.bytes.now c.requires
