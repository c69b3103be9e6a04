-- Labels that are borrowed.
use Rattle.label_set.specs.declared.texts.Pair.{Pair}
use Rattle.label_set.specs.declared.labels.Label.{Label}

abbrev pub pair_of : Label → Pair
pair_of l = record { name = l.name.now; value = l.value.now }
