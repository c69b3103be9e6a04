use Rattle.std.proofs.Common.{◌≡◌, drop}
use Rattle.serde_json.specs.View.{items_view}
use Rattle.config_fields.specs.Walks as spec
use Rattle.config_fields.proofs.walks.are_texts_of.Given as goal

abbrev pub invariant-loop-value : goal.invariant-loop-value
invariant-loop-value l = spec.are_texts_of l.form (items_view (drop l.value-index l.values)) ≡ spec.are_texts_of l.form (items_view l.values)
