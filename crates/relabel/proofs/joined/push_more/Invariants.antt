use Rattle.std.proofs.Common.{◌≡◌, ◌++◌, take, map, string_bytes}
use Rattle.std.specs.Prelude.{flat_map}
use Rattle.relabel.specs.Relabelling.{value_or_empty}
use Rattle.relabel.proofs.joined.push_more.Given as goal

abbrev pub invariant-loop-source : goal.invariant-loop-source
invariant-loop-source l =
    string_bytes l.out ≡ string_bytes l.fn.out ++ flat_map (λ w. l.separator ++ w) (map (value_or_empty l.set) (take l.source-index l.sources))
