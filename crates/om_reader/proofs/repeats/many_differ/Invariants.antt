use Rattle.std.proofs.Common.{◌≡◌, [], drop}
use Rattle.expo_reader.specs.Forms.{names_differ_from}
use Rattle.om_reader.proofs.LabelLemmas.{names_seen}
use Rattle.om_reader.proofs.repeats.many_differ.Given as goal

abbrev pub invariant-loop-name : goal.invariant-loop-name
invariant-loop-name l = names_differ_from (names_seen l.seen.keys) (drop l.name-index l.names) ≡ names_differ_from [] l.names
