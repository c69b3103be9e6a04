use Rattle.std.proofs.Common.{◌≡◌, ◌∙◌, List, map, subst}
use Rattle.std.specs.Prelude.{IfOk}
use Rattle.scrape_machine.specs.declared.lives.Difference.{Difference}
use Rattle.scrape_steps.specs.Plans.{transition_of}
use Rattle.scrape_steps.specs.Concerned.{concerned}
use Rattle.scrape_core.proofs.changes.transitions_to.Goals as goal

pub returns : goal.returns
returns c =
    subst (λ (vs : List Difference). IfOk c.transitions_of.result (λ v. v.items ≡ map (transition_of c.args.names.now c.args.news.now vs) (concerned c.args.lives.now)))
    (c.deref.ensures.value ∙ c.in_ok-differences.ensures) c.transitions_of.ensures
