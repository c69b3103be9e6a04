use Rattle.std.proofs.Common.{map, string_bytes, take}
use Rattle.status_server.specs.Federates.{AreSelectors}
use Rattle.status_server.proofs.federates.read_all.Given as goal

abbrev pub invariant-loop-text : goal.invariant-loop-text
invariant-loop-text l = AreSelectors (take l.text-index (map string_bytes l.texts)) l.selectors.items
