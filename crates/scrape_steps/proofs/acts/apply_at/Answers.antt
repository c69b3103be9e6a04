use Rattle.std.proofs.Common.{◌∙◌, ap, sym, arith}
use Rattle.scrape_machine.specs.declared.lives.Life.{Life}
use Rattle.scrape_machine.specs.Lives.{life_after}
use Rattle.scrape_steps.specs.Plans.{local_of}
use Rattle.scrape_steps.proofs.SweptLemmas.{set_changed}
use Rattle.scrape_steps.proofs.acts.apply_at.Goals as goal

pub returns : goal.returns
returns c =
    let g = λ (l : Life). life_after (local_of c.args.moment c.args.transition) l in
    set_changed c.args.lives.now c.args.place g c.index-lives-place.result c.apply.new.life (omega (arith, c.requires)) c.index-lives-place.is
    (c.apply.ensures ∙ ap g (sym c.index-lives-place.is))
