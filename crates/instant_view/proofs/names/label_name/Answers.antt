use Rattle.instant_view.proofs.NameLemmas.{label_name-utf8}
use Rattle.instant_view.proofs.names.label_name.Goals as goal

pub utf8_text-requires : goal.utf8_text-requires
utf8_text-requires c = label_name-utf8 c.args.bytes.now c.requires
