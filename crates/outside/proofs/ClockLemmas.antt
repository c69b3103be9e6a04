-- Lists of readings of which one is taken.
use Rattle.std.specs.Prelude.{ℤ, List, [], ◌∷◌, All}
use Rattle.std.proofs.lemmas.List.Elements.{All-tail}
use Rattle.outside.specs.Clocks.{IsReading, later_readings}

pub later_keeps : (rs : List ℤ) → All IsReading rs → All IsReading (later_readings rs)
later_keeps [] all = all
later_keeps (r ∷ []) all = all
later_keeps (r ∷ s ∷ rs) all = All-tail IsReading r (s ∷ rs) all
