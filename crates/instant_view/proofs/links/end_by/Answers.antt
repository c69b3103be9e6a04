use Rattle.std.proofs.Common.{◌≡◌, true, false, sym, ◌∙◌, subst, ◌<◌, w64, to_z, of_z}
use Rattle.std.proofs.lemmas.Int.{to_z-of_z}
use Rattle.instant_view.specs.Threads.{IsBackTo, is_later}
use Rattle.instant_view.proofs.LinkLemmas.{from_last, steps_back, steps_fewer}
use Rattle.instant_view.proofs.links.end_by.Goals as goal

pub loop-end-init : goal.loop-end-init
loop-end-init c = λ series last. from_last c.args.kept.now series (to_z w64 (of_z w64 c.args.moment)) c.args.end last

pub loop-end-preserved : goal.loop-end-preserved
loop-end-preserved c =
    let t = to_z w64 (of_z w64 c.args.moment) in
    let late : is_later c.args.kept.now c.loop-end.end t ≡ true = sym c.is_later.ensures ∙ c.loop-end-test.true in
    λ series last. subst (IsBackTo c.args.kept.now series t) (sym c.step_back-end.ensures)
    (steps_back c.args.kept.now c.args.links.now c.requires.linked c.requires.rise series t c.loop-end.end (c.loop-end.invariant series last) late)

pub loop-end-smaller : goal.loop-end-smaller
loop-end-smaller c =
    let t = to_z w64 (of_z w64 c.args.moment) in
    let late : is_later c.args.kept.now c.loop-end.end t ≡ true = sym c.is_later.ensures ∙ c.loop-end-test.true in
    subst (λ n. n < c.loop-end.end) (sym c.step_back-end.ensures) (steps_fewer c.args.kept.now c.args.links.now c.requires.linked c.requires.rise t c.loop-end.end late)

pub returns-clause-early : goal.returns-clause-early
returns-clause-early c =
    subst (λ t. is_later c.args.kept.now c.loop-end.end t ≡ false) (to_z-of_z w64 c.args.moment c.ranges.moment) (sym c.is_later.ensures ∙ c.loop-end-test.false)

pub returns-clause-back : goal.returns-clause-back
returns-clause-back c =
    λ series last. subst (λ t. IsBackTo c.args.kept.now series t c.loop-end.end) (to_z-of_z w64 c.args.moment c.ranges.moment) (c.loop-end.invariant series last)
