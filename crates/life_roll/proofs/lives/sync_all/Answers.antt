use Rattle.std.proofs.Common.{ap, ◌∙◌, refl, set, get_or, arith}
use Rattle.std.proofs.lemmas.List.Edits.{map_over_more}
use Rattle.life_roll.specs.declared.lives.Life.{Life}
use Rattle.life_roll.specs.Wants.{found}
use Rattle.life_roll.specs.Rolls as spec
use Rattle.life_roll.proofs.RollLemmas.{same_life}
use Rattle.life_roll.proofs.lives.sync_all.Goals as goal

pub loop-life-preserved : goal.loop-life-preserved
loop-life-preserved c =
    let ls = c.loop-life.lives in
    let i = c.loop-life.life-index in
    let l : Life = get_or ls i c.life-item.result in
    ap (λ (k : Life). set ls i k) (same_life refl c.schedule_after-life.ensures)
    ∙ map_over_more (spec.life_after c.args.moment (found c.args.wishes.now)) c.args.lives.now ls i l (omega arith) c.loop-life.invariant (ap (get_or ls i) c.life-item.is)
