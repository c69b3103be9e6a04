use Rattle.std.proofs.Common.{◌≡◌}
use Rattle.serde_json.specs.View.{members_view}
use Rattle.config_fields.specs.Faults.{best}
use Rattle.config_fields.specs.Walks.{value_faults}
use Rattle.config_fields.proofs.walks.values.Given as goal

abbrev pub invariant-loop-name : goal.invariant-loop-name
invariant-loop-name l = best l.found (value_faults l.place (members_view l.name-iterator)) ≡ best l.fn.found (value_faults l.place (members_view l.object.entries))
