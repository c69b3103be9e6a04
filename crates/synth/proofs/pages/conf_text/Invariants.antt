use Rattle.std.proofs.Common.{◌≡◌, ◌++◌}
use Rattle.std.specs.List.{flat_map}
use Rattle.synth.specs.Scripts.{upto, target_text}
use Rattle.synth.specs.declared.pages.TheConstants.{CONF_HEAD}
use Rattle.synth.proofs.pages.conf_text.Given as goal

abbrev pub invariant-loop-target : goal.invariant-loop-target
invariant-loop-target l = l.bytes.items ≡ CONF_HEAD.now ++ flat_map target_text (upto l.target)
