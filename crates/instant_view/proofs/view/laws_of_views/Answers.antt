use Rattle.instant_view.proofs.ViewLemmas.{views_stand}
use Rattle.instant_view.proofs.view.laws_of_views.Goals as goal

pub returns : goal.returns
returns c = views_stand c.laws_of_verdicts.ensures.stand
