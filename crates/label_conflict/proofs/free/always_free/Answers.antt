use Rattle.label_conflict.proofs.FreeLemmas.{free_name_found}
use Rattle.label_conflict.proofs.free.always_free.Goals as goal

pub returns : goal.returns
returns c = free_name_found
