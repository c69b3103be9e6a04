use Rattle.std.proofs.Common.{◌≡◌, drop}
use Rattle.rule_conf.specs.Refusals.{first_bad_rule}
use Rattle.relabel.proofs.rules.first_bad.Given as goal

abbrev pub invariant-loop-rule : goal.invariant-loop-rule
invariant-loop-rule l = (l.number ≡ l.rule-index) × (first_bad_rule l.rule-index (drop l.rule-index l.rules) ≡ first_bad_rule 0 l.rules)
