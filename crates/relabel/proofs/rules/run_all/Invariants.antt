use Rattle.std.proofs.Common.{◌≡◌, drop}
use Rattle.relabel.specs.Relabelling.{relabelled}
use Rattle.relabel.proofs.rules.run_all.Given as goal

abbrev pub invariant-loop-rule : goal.invariant-loop-rule
invariant-loop-rule l = relabelled (drop l.rule-index l.rules) l.left ≡ relabelled l.rules l.set
