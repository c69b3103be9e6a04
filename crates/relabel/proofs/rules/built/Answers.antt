use Rattle.std.proofs.lemmas.Grind.{common_steps}
use Rattle.std.proofs.Common.{arith, rules, ◌≡◌, ◌++◌, ◌∷◌, [], ◌+◌, take}
use Rattle.std.proofs.lemmas.List.{take_more}
use Rattle.std.proofs.lemmas.List.Elements.{All-push}
use Rattle.relabel.specs.Refusals.{HasPattern}
use Rattle.relabel.proofs.rules.built.Goals as goal

pub loop-conf-preserved : goal.loop-conf-preserved
loop-conf-preserved c =
    let more : take (c.loop-conf.conf-index + 1) c.args.rules.now ≡ take c.loop-conf.conf-index c.args.rules.now ++ c.conf-item.result ∷ [] = search (rules, take_more) in
    record {
      number = search rules;
      built = search rules;
      read = rw more (All-push HasPattern _ c.conf-item.result c.loop-conf.invariant.read c.in-Ok.ensures.read);
      patterns = first_of (search rules, grind (arith, common_steps));
    }
