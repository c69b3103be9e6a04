use Rattle.std.proofs.Common.{◌≡◌, ◌∙◌, ◌+◌, ap, ◌++◌, List, [], ◌∷◌, take, refl, sym, subst, w64, to_z, of_z}
use Rattle.std.proofs.lemmas.Int.{to_z-of_z}
use Rattle.std.proofs.lemmas.List.{take_all, take_more}
use Rattle.instant_view.specs.Views.{IsViewOf, ViewOf}
use Rattle.instant_view.specs.declared.matchers.SelectorParts.{SelectorParts}
use Rattle.federation.specs.Federations.{IsFederationOf}
use Rattle.federation.proofs.FederationLemmas.{federation_more, federation_none}
use Rattle.federation.proofs.federations.federated.Goals as goal

pub loop-selector-init : goal.loop-selector-init
loop-selector-init c = record {
  same = refl;
  seen = federation_none c.args.view.now (to_z w64 (of_z w64 c.args.moment)) c.new-rows.result.items c.new-rows.ensures.items;
}

pub loop-selector-preserved : goal.loop-selector-preserved
loop-selector-preserved c =
    let view = c.args.view.now in
    let selectors = c.args.selectors.now in
    let i = c.loop-selector.selector-index in
    let selector = c.selector-item.result in
    let t = to_z w64 (of_z w64 c.args.moment) in
    let left = c.loop-selector.rows.items in
    let right = c.more.inside.items.items in
    let rows = c.in_ok-rows.rows.items in
    let seen : IsViewOf view selector t right =
    subst (λ (v : ViewOf). IsViewOf v selector t right) c.loop-selector.invariant.same
    (subst (IsViewOf c.loop-selector.view selector t) (sym c.more.view_is) c.in_ok-more.ensures.rows) in
    let one_more : take (i + 1) selectors ≡ take i selectors ++ selector ∷ [] =
    take_more selectors i selector c.loop-selector-test.true ∙ ap (λ (s : SelectorParts). take i selectors ++ s ∷ []) (sym c.selector-item.is) in
    record {
      same = c.instant.ensures.same ∙ c.loop-selector.invariant.same;
      seen =
          subst (λ (s : List SelectorParts). IsFederationOf view s t rows) (sym one_more)
          (federation_more view (take i selectors) selector t left right rows c.loop-selector.invariant.seen seen c.in_ok-rows.ensures);
    }

pub returns-clause-rows : goal.returns-clause-rows
returns-clause-rows c =
    let i = c.loop-selector.selector-index in
    let all : take i c.args.selectors.now ≡ c.args.selectors.now = take_all i c.args.selectors.now c.loop-selector-test.false in
    subst (λ t. IsFederationOf c.args.view.now c.args.selectors.now t c.loop-selector.rows.items) (to_z-of_z w64 c.args.moment c.ranges.moment)
    (subst (λ (s : List SelectorParts). IsFederationOf c.args.view.now s (to_z w64 (of_z w64 c.args.moment)) c.loop-selector.rows.items) all
    c.loop-selector.invariant.seen)
