use Rattle.std.proofs.Common.{◌+◌, map, string_bytes, subst, sym, take, [], ◌∷◌, ◌++◌}
use Rattle.status_server.specs.Federates.{AreSelectors, IsRead, IsTaken}
use Rattle.status_server.proofs.FederateLemmas.{selectors-more, text-more}
use Rattle.status_server.proofs.federates.read_all.Goals as goal

pub loop-text-preserved : goal.loop-text-preserved
loop-text-preserved c =
    let texts = take c.loop-text.text-index (map string_bytes c.args.texts.now) in
    let text = string_bytes c.text-item.result in
    let parts = c.loop-text.selectors.items in
    let one : IsTaken text c.in-Some.selector =
    subst (λ t. IsTaken t c.in-Some.selector) c.deref.ensures (subst (IsRead c.deref.result.now) c.in-Some.is c.in_ok-read_one.ensures) in
    subst (λ ps. AreSelectors (take (c.loop-text.text-index + 1) (map string_bytes c.args.texts.now)) ps) (sym c.in_ok-push-in-Some.ensures.items)
    (subst (λ ts. AreSelectors ts (parts ++ c.in-Some.selector ∷ [])) (sym (text-more string_bytes c.args.texts.now c.loop-text.text-index c.text-item.result c.loop-text-test.true (sym c.text-item.is)))
    (selectors-more texts text parts c.in-Some.selector c.loop-text.invariant one))
