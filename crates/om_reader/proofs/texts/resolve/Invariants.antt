use Rattle.std.proofs.Common.{◌≡◌, ◌++◌, drop}
use Rattle.expo_reader.specs.Texts.{resolved, resolved_from}
use Rattle.om_reader.proofs.texts.resolve.Given as goal

abbrev pub invariant-loop-byte : goal.invariant-loop-byte
invariant-loop-byte l = l.room.items ++ resolved_from l.escaped (drop l.byte-index l.text) ≡ resolved l.text
