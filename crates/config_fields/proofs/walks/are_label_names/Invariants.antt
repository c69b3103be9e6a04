use Rattle.std.proofs.Common.{◌≡◌}
use Rattle.serde_json.specs.View.{members_view}
use Rattle.config_fields.specs.Walks as spec
use Rattle.config_fields.proofs.walks.are_label_names.Given as goal

abbrev pub invariant-loop-name : goal.invariant-loop-name
invariant-loop-name l = spec.are_label_names (members_view l.name-iterator) ≡ spec.are_label_names (members_view l.object.entries)
