use Rattle.std.proofs.Common.{◌≡◌}
use Rattle.serde_json.specs.View.{members_view}
use Rattle.config_fields.specs.Faults.{best}
use Rattle.scrape_config.specs.Lists.{owed_by_job, job_members_faults}
use Rattle.scrape_config.proofs.lists.members_of_job.Given as goal

abbrev pub invariant-loop-key : goal.invariant-loop-key
invariant-loop-key l = best l.found (job_members_faults l.most l.place l.owed (members_view l.key-iterator)) ≡ best l.fn.found (job_members_faults l.most l.place owed_by_job (members_view l.object.entries))
