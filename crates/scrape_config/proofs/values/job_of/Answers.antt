use Rattle.std.proofs.Common.{SFits, w64, rules, ◌∙◌}
use Rattle.std.proofs.lemmas.Int.{to_z-of_z}
use Rattle.serde_json.specs.View.{view}
use Rattle.scrape_config.proofs.ValueLemmas.{job_built}
use Rattle.scrape_config.proofs.values.job_of.Goals as goal

pub returns : goal.returns
returns c =
    let interval : SFits w64 c.interval_in.result = search rules in
    let timeout : SFits w64 c.timeout_in.result = search rules in
    rw (c.unwrap_or.ensures, c.unwrap_or-2.ensures, c.unwrap_or-3.ensures, c.unwrap_or-4.ensures)
    (job_built c.args.base (view c.args.value.now) _ _ _ _ _ _ _ _ _ _ _ _ _ _ _ _ _ _ _ c.in_ok-text_or.ensures c.in_ok-text_or-2.ensures
    (to_z-of_z w64 c.interval_in.result interval ∙ c.interval_in.ensures) (to_z-of_z w64 c.timeout_in.result timeout ∙ c.timeout_in.ensures)
    c.scheme_in.ensures c.truth_under.ensures c.truth_under-2.ensures c.truth_under-3.ensures c.truth_under-4.ensures c.in_ok-params_in.ensures
    c.list_under.ensures c.list_under-2.ensures c.list_under-3.ensures c.list_under-4.ensures
    c.in_ok-rules_of.ensures c.in_ok-rules_of-2.ensures c.limits_or.ensures c.in_ok-groups_of.ensures c.in_ok-files_in.ensures)
