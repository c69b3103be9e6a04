use Rattle.std.specs.Option.{option_or}
use Rattle.scrape_config.proofs.PatternLemmas.{cause_first}
use Rattle.std.proofs.Common.{ℕ, List, Option, None, subst, rules, ◌≡◌, ◌++◌, ◌∷◌, ◌+◌, [], length, drop, sym, ap, ◌∙◌, append_assoc}
use Rattle.std.proofs.lemmas.List.{length_push}
use Rattle.serde_json.specs.View.{view, items_view}
use Rattle.scrape_config.specs.Lists.{jobs_walk}
use Rattle.scrape_config.specs.Values.{built, job_of, jobs_of}
use Rattle.scrape_config.specs.Reading.{jobs_place, job_pattern, jobs_pattern, IsPatternCause}
use Rattle.scrape_config.proofs.ListLemmas.{next_item}
use Rattle.scrape_config.proofs.JobLemmas.{job_first}
use Rattle.scrape_config.proofs.read.jobs_in.Goals as goal

pub job_in-requires : goal.job_in-requires
job_in-requires c =
    let vs = c.args.values.now in
    let i = c.loop-value.value-index in
    let v = c.value-item.result in
    let n = length c.loop-value.items.items in
    let walk = jobs_walk c.args.base jobs_place n in
    let walked = sym (ap (λ xs. walk (items_view xs)) (next_item vs i v c.value-item.is c.loop-value-test.true)) ∙ c.loop-value.invariant.clean in
    let counted : c.len.result ≡ n = search rules in
    record { clean = rw counted (job_first c.args.base jobs_place n (view v) (items_view (drop (i + 1) vs)) walked).0 }

pub returns-in-Err-clause-first : goal.returns-in-Err-clause-first
returns-in-Err-clause-first c =
    let vs = c.args.values.now in
    let i = c.loop-value.value-index in
    let v = c.value-item.result in
    let n = length c.loop-value.items.items in
    let base = c.args.base in
    let job = built (job_of base (view v)) in
    let later = jobs_of base (items_view (drop (i + 1) vs)) in
    let onward : jobs_pattern n (job ∷ later) ≡ jobs_pattern 0 (jobs_of base (items_view vs)) =
    sym (ap (λ xs. jobs_pattern n (jobs_of base (items_view xs))) (next_item vs i v c.value-item.is c.loop-value-test.true)) ∙ c.loop-value.invariant.first in
    let counted : c.len.result ≡ n = search rules in
    subst (λ (o : Option (List ℕ)). IsPatternCause o c.in-Err.error) onward
    (cause_first (job_pattern n job) (jobs_pattern (n + 1) later) c.in-Err.error (rw counted at c.in-Err.ensures.first))

pub loop-value-preserved : goal.loop-value-preserved
loop-value-preserved c =
    let vs = c.args.values.now in
    let i = c.loop-value.value-index in
    let v = c.value-item.result in
    let items = c.loop-value.items.items in
    let n = length items in
    let base = c.args.base in
    let job = built (job_of base (view v)) in
    let rest = items_view (drop (i + 1) vs) in
    let next = next_item vs i v c.value-item.is c.loop-value-test.true in
    let walked = sym (ap (λ xs. jobs_walk base jobs_place n (items_view xs)) next) ∙ c.loop-value.invariant.clean in
    let listed : items ++ job ∷ jobs_of base rest ≡ jobs_of base (items_view vs) =
    sym (ap (λ xs. items ++ jobs_of base (items_view xs)) next) ∙ c.loop-value.invariant.jobs in
    let counted : c.len.result ≡ n = search rules in
    let none : job_pattern n job ≡ None = rw counted at c.in-Ok.ensures.none in
    let onward : jobs_pattern n (job ∷ jobs_of base rest) ≡ jobs_pattern 0 (jobs_of base (items_view vs)) =
    sym (ap (λ xs. jobs_pattern n (jobs_of base (items_view xs))) next) ∙ c.loop-value.invariant.first in
    let pushed : c.push_job.new.jobs.items ≡ items ++ c.in-Ok.job ∷ [] = search rules in
    record {
      clean = rw (pushed, length_push items c.in-Ok.job) (job_first base jobs_place n (view v) rest walked).1;
      jobs = rw (pushed, c.in-Ok.ensures.job) (append_assoc items (job ∷ []) (jobs_of base rest) ∙ listed);
      first = rw (pushed, length_push items c.in-Ok.job) (ap (λ o. option_or o (jobs_pattern (n + 1) (jobs_of base rest))) (sym none) ∙ onward);
    }
