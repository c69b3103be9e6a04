use Rattle.std.proofs.Common.{◌++◌, ◌∷◌, [], ◌∙◌, ap, sym, not, get_or, arith, List, length, ◌+◌, ◌<◌}
use Rattle.journal_text.specs.Lines.{number}
use Rattle.target_set.specs.declared.targets.Target.{Target}
use Rattle.scrape_steps.specs.Plans.{is_seated}
use Rattle.jobs_in_force.specs.Settings.{settings_of}
use Rattle.scrape_machine.specs.Lives.{born}
use Rattle.scrape_steps.proofs.BirthLemmas.{born_one, born_none}
use Rattle.scrape_steps.proofs.reloads.push_born.Goals.{then-not-branch+in_ok-life+in_ok-reserve, else-not-branch}
use Rattle.scrape_steps.proofs.reloads.push_born.Goals as goal

pub loop-target-preserved : goal.loop-target-preserved
loop-target-preserved c =
    let m = number c.args.moment in
    let j = c.args.job.now in
    let t = c.target-item.result in
    let i = c.loop-target.target-index in
    let p = λ (x : Target). not (is_seated c.args.held.now.seats.now x.identity c.args.held.now.place) in
    let list = c.as_slice-target-items.ensures.targets in
    let lt : i < length j.kept = omega (arith, c.loop-target-test.true, ap (λ (ts : List Target). length ts) list) in
    let at = c.target-item.is ∙ ap (λ (ts : List Target). get_or ts i t) list in
    elim c.if-not-branch.branch [
      | then-not-branch+in_ok-life+in_ok-reserve w ↦
          born_one m c.args.first j p j.kept i t lt at c.args.lives.now.items c.loop-target.lives.items c.if-not-branch.lives.items w.in_ok-life.life
          (ap not (sym c.in_ok-is_held.ensures) ∙ ap not w.if-not-branch.true) c.loop-target.invariant
          (w.in_ok-life.ensures ∙ ap (λ k. born m (c.args.first + k) (settings_of j.job) t) (w.len.ensures ∙ c.loop-target.lives.ok.0))
          (ap (λ v. v.items) w.lives-is ∙ w.push_reserved.ensures.items ∙ ap (λ xs. xs ++ w.in_ok-life.life ∷ []) w.in_ok-reserve.ensures.items)
      | else-not-branch w ↦
          ap (λ v. v.items) w.lives-is
          ∙ born_none m c.args.first j p j.kept i t lt at c.args.lives.now.items c.loop-target.lives.items
          (ap not (sym c.in_ok-is_held.ensures) ∙ ap not w.if-not-branch.false) c.loop-target.invariant
    ]
