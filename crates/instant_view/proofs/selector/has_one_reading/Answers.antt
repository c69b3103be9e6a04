use Rattle.instant_view.proofs.CompleteLemmas.{one-reading}
use Rattle.instant_view.proofs.SoundLemmas.{selector-sound}
use Rattle.instant_view.proofs.selector.has_one_reading.Goals as goal

pub returns : goal.returns
returns c = let s = selector-sound in one-reading
