use Rattle.std.proofs.Common.{◌≡◌, ◌∙◌, ◌≤◌, ap, sym, subst, length, take, min, length-take, arith, w64}
use Rattle.std.proofs.lemmas.Int.{to_z-of_z}
use Rattle.instant_view.specs.Threads.{IsGathered}
use Rattle.instant_view.specs.Views.{ViewOf, kept_among}
use Rattle.instant_view.proofs.ViewLemmas.{kept_front, kept_rise, seen_all}
use Rattle.instant_view.proofs.view.View.instant.Goals as goal

pub returns-clause-rows : goal.returns-clause-rows
returns-clause-rows c = λ entries stands.
    (let n = c.args.self.now.count in
    let rows = c.in_ok-items.items.items in
    let kept : c.self.inside.threads.kept.items ≡ kept_among (take n entries) n =
    ap (λ (v : ViewOf). v.kept) c.self.view_is ∙ stands.kept ∙ sym (kept_front c.laws_of_verdicts.ensures.stand entries n stands.within) in
    let gathered : IsGathered c.self.inside.threads.kept.items c.args.selector.now c.args.moment rows =
    subst (λ s. IsGathered c.self.inside.threads.kept.items s c.args.moment rows) c.in_ok-selecting.ensures
    (subst (λ t. IsGathered c.self.inside.threads.kept.items c.in_ok-selecting.selecting t rows) (to_z-of_z w64 c.args.moment c.ranges.moment) c.in_ok-items.ensures) in
    let few : length (take n entries) ≤ n = (let e : length (take n entries) ≡ min n (length entries) = length-take n entries in omega (arith, e)) in
    seen_all (take n entries) n few (kept_rise (take n entries) c.laws_of_verdicts.ensures.rise n) c.args.moment c.args.selector.now rows
    (subst (λ ks. IsGathered ks c.args.selector.now c.args.moment rows) kept gathered))
