use Rattle.std.proofs.Common.{◌≡◌, [], take, drop}
use Rattle.expo_reader.specs.Forms.{names_differ_from}
use Rattle.om_reader.proofs.repeats.few_differ.Given as goal

abbrev pub invariant-loop-i : goal.invariant-loop-i
invariant-loop-i l = names_differ_from (take l.i l.names) (drop l.i l.names) ≡ names_differ_from [] l.names
