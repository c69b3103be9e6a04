use Rattle.std.proofs.Common.{subst}
use Rattle.instant_view.specs.Tests.{IsFaultAmong}
use Rattle.instant_view.proofs.RefusalLemmas.{among-refused}
use Rattle.instant_view.proofs.selector.Selector.ready.Goals as goal

pub returns-in-Err-clause-refused : goal.returns-in-Err-clause-refused
returns-in-Err-clause-refused c = among-refused c.in-Err.fault c.args.parts (subst (λ ms. IsFaultAmong c.in-Err.fault ms) c.as_slice.ensures c.in-Err.ensures.refused)
