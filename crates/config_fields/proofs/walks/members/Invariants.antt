use Rattle.std.proofs.Common.{◌≡◌}
use Rattle.serde_json.specs.View.{members_view}
use Rattle.config_fields.specs.Faults.{best}
use Rattle.config_fields.specs.Tables.{owed_by}
use Rattle.config_fields.specs.Walks.{members_faults}
use Rattle.config_fields.proofs.walks.members.Given as goal

abbrev pub invariant-loop-key : goal.invariant-loop-key
invariant-loop-key l = best l.found (members_faults l.kind l.place l.owed (members_view l.key-iterator)) ≡ best l.fn.found (members_faults l.kind l.place (owed_by l.kind) (members_view l.object.entries))
