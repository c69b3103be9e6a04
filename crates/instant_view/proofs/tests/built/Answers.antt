use Rattle.std.proofs.Common.{rules, ◌≡◌, ◌++◌, ◌∷◌, [], ◌+◌, take}
use Rattle.std.proofs.lemmas.List.{take_more}
use Rattle.std.proofs.lemmas.List.Elements.{All-push}
use Rattle.instant_view.specs.Selectors.{IsBuilt}
use Rattle.instant_view.proofs.tests.built.Goals as goal

pub loop-matcher-preserved : goal.loop-matcher-preserved
loop-matcher-preserved c =
    let more : take (c.loop-matcher.matcher-index + 1) c.args.matchers.now ≡ take c.loop-matcher.matcher-index c.args.matchers.now ++ c.matcher-item.result ∷ [] = search (rules, take_more) in
    record {
      built = search rules;
      read = rw more (All-push IsBuilt _ c.matcher-item.result c.loop-matcher.invariant.read c.in_ok-build.ensures.built);
    }
