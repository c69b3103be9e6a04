use Rattle.std.proofs.Common.{◌≡◌}
use Rattle.serde_json.specs.View.{members_view}
use Rattle.config_fields.specs.Faults.{best}
use Rattle.config_fields.specs.Walks.{lists_faults}
use Rattle.config_fields.proofs.walks.lists.Given as goal

abbrev pub invariant-loop-name : goal.invariant-loop-name
invariant-loop-name l = best l.found (lists_faults l.place (members_view l.name-iterator)) ≡ best l.fn.found (lists_faults l.place (members_view l.object.entries))
