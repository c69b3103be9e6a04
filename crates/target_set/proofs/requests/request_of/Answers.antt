use Rattle.std.proofs.Common.{sym, ap, ◌∙◌}
use Rattle.std.specs.Prelude.{is_none}
use Rattle.target_set.proofs.RequestLemmas.{none_by_cause}
use Rattle.target_set.proofs.requests.request_of.Goals as goal

pub returns-in-None-clause-none : goal.returns-in-None-clause-none
returns-in-None-clause-none c = ap is_none (sym c.in-None.is ∙ c.in_ok-base_in.ensures) ∙ none_by_cause c.args.identity.now

pub returns-in_ok-request_for-in-Some-clause-none : goal.returns-in_ok-request_for-in-Some-clause-none
returns-in_ok-request_for-in-Some-clause-none c = ap is_none (sym c.in-Some.is ∙ c.in_ok-base_in.ensures) ∙ none_by_cause c.args.identity.now
