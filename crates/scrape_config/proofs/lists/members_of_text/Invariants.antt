use Rattle.std.proofs.Common.{◌≡◌}
use Rattle.serde_json.specs.View.{members_view}
use Rattle.config_fields.specs.Faults.{best}
use Rattle.scrape_config.specs.Lists.{top_members_faults}
use Rattle.scrape_config.proofs.lists.members_of_text.Given as goal

abbrev pub invariant-loop-key : goal.invariant-loop-key
invariant-loop-key l = best l.found (top_members_faults l.base (members_view l.key-iterator)) ≡ best l.fn.found (top_members_faults l.base (members_view l.object.entries))
