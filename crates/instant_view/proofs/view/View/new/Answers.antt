use Rattle.std.proofs.Common.{◌∙◌, ◌≤◌, length, arith}
use Rattle.instant_view.proofs.ViewLemmas.{none_among}
use Rattle.instant_view.proofs.view.View.new.Goals as goal

pub returns-clause-stands : goal.returns-clause-stands
returns-clause-stands c = λ entries. (let none : 0 ≤ length entries = omega arith in record { within = none; kept = c.new.ensures.kept ∙ none_among entries })
