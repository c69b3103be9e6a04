-- Series that have a metric name ("Data model" of the Prometheus documentation: it is the value of the label `__name__`),
-- and whose labels have names.
use Rattle.std.specs.Prelude.{◌≡◌, ◌≢◌, true, All, List, [], ◌∷◌}
use Rattle.label_conflict.specs.Merging.{bears}
use Rattle.label_set.specs.SetText.{metric_label}
use Rattle.label_set.specs.declared.texts.Pair.{Pair}
use Rattle.report_samples.specs.declared.entries.Entry.{Entry}

-- a label of the set is called `__name__`
abbrev pub HasName : List Pair → Type 0
HasName set = bears set metric_label ≡ true

-- so has each series of some entries
abbrev pub AreNamed : List Entry → Type 0
AreNamed [] = Unit {0}
AreNamed (e ∷ es) = HasName e.series × AreNamed es

-- no label of the set has an empty name
abbrev pub HasLabels : List Pair → Type 0
HasLabels set = All (λ (p : Pair). p.name ≢ []) set

-- so in each series of some entries
abbrev pub AreLabelled : List Entry → Type 0
AreLabelled [] = Unit {0}
AreLabelled (e ∷ es) = HasLabels e.series × AreLabelled es
