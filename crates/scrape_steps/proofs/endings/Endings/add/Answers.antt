use Rattle.std.proofs.Common.{arith}
use Rattle.scrape_steps.proofs.WaitingLemmas.{granted, waits_shuffled}
use Rattle.scrape_steps.proofs.endings.Endings.add.Goals as goal

pub returns-clause-added : goal.returns-clause-added
returns-clause-added c = waits_shuffled _ _ (granted c.push.result _ (c.push.ensures.succeeds (omega (arith, c.requires))) c.push.ensures.permutation)
