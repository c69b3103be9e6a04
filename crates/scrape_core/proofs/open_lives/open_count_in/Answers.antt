use Rattle.std.proofs.Common.{◌∙◌, List, ap₂, length}
use Rattle.std.specs.Prelude.{filter}
use Rattle.scrape_machine.specs.declared.lives.Life.{Life}
use Rattle.scrape_steps.specs.Concerned.{concerns}
use Rattle.scrape_core.proofs.open_lives.open_count_in.Goals as goal

pub returns : goal.returns
returns c = c.count.ensures ∙ ap₂ (λ o (ls : List Life). length (filter (concerns o) ls)) c.open-lives.ensures.moment (c.open-lives.ensures.all ∙ c.deref.ensures.value)
