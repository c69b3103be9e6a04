use Rattle.std.proofs.Common.{◌∙◌, ◌+◌, arith, refl, sym, ap, ap₂, subst}
use Rattle.jobs_in_force.specs.Jobs.{updated, IsUpdateCause, UnknownJob, UnknownFile, Faulty}
use Rattle.scrape_machine.specs.declared.answers.Answer.TheVariants.{Updated, Refused}
use Rattle.scrape_machine.specs.Machine.{after_update}
use Rattle.scrape_steps.specs.Reloads.{closed_by, begun_by, reloaded}
use Rattle.scrape_steps.proofs.EventLemmas.{update_taken, update_refused, update_answer_taken, update_answer_refused}
use Rattle.jobs_in_force.specs.Listed.{listed_by_named}
use Rattle.scrape_machine.proofs.RunLemmas.{update_taken_runs, update_refused_runs}
use Rattle.scrape_core.specs.Kept.{live}
use Rattle.scrape_core.proofs.StateLemmas.{same_update, few_update}
use Rattle.scrape_core.proofs.changes.take_update.Goals as goal

pub jobs_updated-requires : goal.jobs_updated-requires
jobs_updated-requires g c =
    few_update c.deref-in-Ok.result.now c.deref-in-Ok.result.now c.args.update.now.job.now _ c.args.update.now.file.now _ c.in-Ok.taken.groups refl c.in-Ok.ensures.job c.in-Ok.ensures.file
    c.as_slice-text.result.now (ap (λ z. updated z c.args.update.now.job.now c.args.update.now.file.now c.as_slice-text.result.now) (c.deref-in-Ok.ensures.value ∙ sym c.deref.ensures.value) ∙ c.in-Ok.ensures.taken)

pub returns-in_ok-synced-in-Ok-clause-answer : goal.returns-in_ok-synced-in-Ok-clause-answer
returns-in_ok-synced-in-Ok-clause-answer g c =
    let s = c.args.state.now in
    let h = ap₂ (λ z t. updated z c.args.update.now.job.now c.args.update.now.file.now t) (sym c.deref.ensures.value) (sym c.as_slice-text.ensures) ∙ c.in-Ok.ensures.taken in
    let j = c.in_ok-jobs-in-Ok.ensures.jobs
    ∙ same_update c.deref-in-Ok.result.now s.jobs.items c.args.update.now.job.now _ c.args.update.now.file.now _ c.in-Ok.taken.groups c.deref-in-Ok.ensures.value c.in-Ok.ensures.job c.in-Ok.ensures.file in
    ap₂ Updated (c.in_ok-synced-in-Ok.ensures.closed ∙ ap (λ js. closed_by c.args.moment js (live s)) j)
    (c.in_ok-synced-in-Ok.ensures.begun ∙ ap (λ js. begun_by c.args.moment js (live s)) j)
    ∙ sym (update_answer_taken s.jobs.items s.lives.items s.started.items c.args.moment c.args.update.now.job.now c.args.update.now.file.now c.args.update.now.text.now c.in-Ok.taken.groups h)

pub returns-in_ok-synced-in-Ok-clause-state : goal.returns-in_ok-synced-in-Ok-clause-state
returns-in_ok-synced-in-Ok-clause-state g c =
    let s = c.args.state.now in
    let h = ap₂ (λ z t. updated z c.args.update.now.job.now c.args.update.now.file.now t) (sym c.deref.ensures.value) (sym c.as_slice-text.ensures) ∙ c.in-Ok.ensures.taken in
    let j = c.in_ok-jobs-in-Ok.ensures.jobs
    ∙ same_update c.deref-in-Ok.result.now s.jobs.items c.args.update.now.job.now _ c.args.update.now.file.now _ c.in-Ok.taken.groups c.deref-in-Ok.ensures.value c.in-Ok.ensures.job c.in-Ok.ensures.file in
    c.in_ok-synced-in-Ok.ensures.state ∙ ap (λ js. reloaded c.args.moment js (live s)) j
    ∙ sym (update_taken s.jobs.items s.lives.items s.started.items c.args.moment c.args.update.now.job.now c.args.update.now.file.now c.args.update.now.text.now _ (ap (after_update s.jobs.items c.args.update.now.job.now c.args.update.now.file.now) h))

pub returns-in-Err-NoJob-clause-answer : goal.returns-in-Err-NoJob-clause-answer
returns-in-Err-NoJob-clause-answer g c =
    let s = c.args.state.now in
    let h = ap₂ (λ z t. updated z c.args.update.now.job.now c.args.update.now.file.now t) (sym c.deref.ensures.value) (sym c.as_slice-text.ensures)
    ∙ subst (IsUpdateCause (updated c.deref.result.now c.args.update.now.job.now c.args.update.now.file.now c.as_slice-text.result.now)) c.in-Err-NoJob.field-0-is c.in-Err-NoJob.ensures.refused in
    c.without_runs.ensures.answer ∙ sym (update_answer_refused s.jobs.items s.lives.items s.started.items c.args.moment c.args.update.now.job.now c.args.update.now.file.now c.args.update.now.text.now UnknownJob h)

pub returns-in-Err-NoJob-clause-state : goal.returns-in-Err-NoJob-clause-state
returns-in-Err-NoJob-clause-state g c =
    let s = c.args.state.now in
    let h = ap₂ (λ z t. updated z c.args.update.now.job.now c.args.update.now.file.now t) (sym c.deref.ensures.value) (sym c.as_slice-text.ensures)
    ∙ subst (IsUpdateCause (updated c.deref.result.now c.args.update.now.job.now c.args.update.now.file.now c.as_slice-text.result.now)) c.in-Err-NoJob.field-0-is c.in-Err-NoJob.ensures.refused in
    sym (update_refused s.jobs.items s.lives.items s.started.items c.args.moment c.args.update.now.job.now c.args.update.now.file.now c.args.update.now.text.now (ap (after_update s.jobs.items c.args.update.now.job.now c.args.update.now.file.now) h))

pub returns-in-Err-NoFile-clause-answer : goal.returns-in-Err-NoFile-clause-answer
returns-in-Err-NoFile-clause-answer g c =
    let s = c.args.state.now in
    let h = ap₂ (λ z t. updated z c.args.update.now.job.now c.args.update.now.file.now t) (sym c.deref.ensures.value) (sym c.as_slice-text.ensures)
    ∙ subst (IsUpdateCause (updated c.deref.result.now c.args.update.now.job.now c.args.update.now.file.now c.as_slice-text.result.now)) c.in-Err-NoFile.field-0-is c.in-Err-NoFile.ensures.refused in
    c.without_runs-in-Err-NoFile.ensures.answer ∙ sym (update_answer_refused s.jobs.items s.lives.items s.started.items c.args.moment c.args.update.now.job.now c.args.update.now.file.now c.args.update.now.text.now UnknownFile h)

pub returns-in-Err-NoFile-clause-state : goal.returns-in-Err-NoFile-clause-state
returns-in-Err-NoFile-clause-state g c =
    let s = c.args.state.now in
    let h = ap₂ (λ z t. updated z c.args.update.now.job.now c.args.update.now.file.now t) (sym c.deref.ensures.value) (sym c.as_slice-text.ensures)
    ∙ subst (IsUpdateCause (updated c.deref.result.now c.args.update.now.job.now c.args.update.now.file.now c.as_slice-text.result.now)) c.in-Err-NoFile.field-0-is c.in-Err-NoFile.ensures.refused in
    sym (update_refused s.jobs.items s.lives.items s.started.items c.args.moment c.args.update.now.job.now c.args.update.now.file.now c.args.update.now.text.now (ap (after_update s.jobs.items c.args.update.now.job.now c.args.update.now.file.now) h))

pub returns-in-Err-Bad-clause-answer : goal.returns-in-Err-Bad-clause-answer
returns-in-Err-Bad-clause-answer g c =
    let s = c.args.state.now in
    let h = ap₂ (λ z t. updated z c.args.update.now.job.now c.args.update.now.file.now t) (sym c.deref.ensures.value) (sym c.as_slice-text.ensures)
    ∙ subst (IsUpdateCause (updated c.deref.result.now c.args.update.now.job.now c.args.update.now.file.now c.as_slice-text.result.now)) c.in-Err-Bad.field-0-is c.in-Err-Bad.ensures.refused in
    c.without_runs-in-Err-Bad.ensures.answer ∙ ap Refused c.in-Err-Bad.fault-is ∙ sym (update_answer_refused s.jobs.items s.lives.items s.started.items c.args.moment c.args.update.now.job.now c.args.update.now.file.now c.args.update.now.text.now (Faulty _) h)

pub returns-in-Err-Bad-clause-state : goal.returns-in-Err-Bad-clause-state
returns-in-Err-Bad-clause-state g c =
    let s = c.args.state.now in
    let h = ap₂ (λ z t. updated z c.args.update.now.job.now c.args.update.now.file.now t) (sym c.deref.ensures.value) (sym c.as_slice-text.ensures)
    ∙ subst (IsUpdateCause (updated c.deref.result.now c.args.update.now.job.now c.args.update.now.file.now c.as_slice-text.result.now)) c.in-Err-Bad.field-0-is c.in-Err-Bad.ensures.refused in
    sym (update_refused s.jobs.items s.lives.items s.started.items c.args.moment c.args.update.now.job.now c.args.update.now.file.now c.args.update.now.text.now (ap (after_update s.jobs.items c.args.update.now.job.now c.args.update.now.file.now) h))

pub returns-in_ok-synced-in-Ok-clause-runs : goal.returns-in_ok-synced-in-Ok-clause-runs
returns-in_ok-synced-in-Ok-clause-runs g c =
    let s = c.args.state.now in
    let h = ap₂ (λ z t. updated z c.args.update.now.job.now c.args.update.now.file.now t) (sym c.deref.ensures.value) (sym c.as_slice-text.ensures) ∙ c.in-Ok.ensures.taken in
    let j = c.in_ok-jobs-in-Ok.ensures.jobs
    ∙ same_update c.deref-in-Ok.result.now s.jobs.items c.args.update.now.job.now _ c.args.update.now.file.now _ c.in-Ok.taken.groups c.deref-in-Ok.ensures.value c.in-Ok.ensures.job c.in-Ok.ensures.file in
    c.in_ok-runs-in-Ok.ensures ∙ ap (listed_by_named c.args.update.now.job.now) (c.deref-in-Ok-2.ensures.value ∙ j)
    ∙ sym (update_taken_runs s.jobs.items s.lives.items s.started.items c.args.moment c.args.update.now.job.now c.args.update.now.file.now c.args.update.now.text.now _ (ap (after_update s.jobs.items c.args.update.now.job.now c.args.update.now.file.now) h))

pub returns-in_ok-synced-in-Ok-clause-steps : goal.returns-in_ok-synced-in-Ok-clause-steps
returns-in_ok-synced-in-Ok-clause-steps g c =
    let s = c.args.state.now in
    let h = ap₂ (λ z t. updated z c.args.update.now.job.now c.args.update.now.file.now t) (sym c.deref.ensures.value) (sym c.as_slice-text.ensures) ∙ c.in-Ok.ensures.taken in
    let j = c.in_ok-jobs-in-Ok.ensures.jobs
    ∙ same_update c.deref-in-Ok.result.now s.jobs.items c.args.update.now.job.now _ c.args.update.now.file.now _ c.in-Ok.taken.groups c.deref-in-Ok.ensures.value c.in-Ok.ensures.job c.in-Ok.ensures.file in
    c.in_ok-jobs-in-Ok.ensures.steps
    ∙ ap (λ n. c.args.steps.now + n)
    (ap₂ listed_by_named c.in-Ok.ensures.job j ∙ sym (update_taken_runs s.jobs.items s.lives.items s.started.items c.args.moment c.args.update.now.job.now c.args.update.now.file.now c.args.update.now.text.now _ (ap (after_update s.jobs.items c.args.update.now.job.now c.args.update.now.file.now) h)))

pub returns-in-Err-NoJob-clause-runs : goal.returns-in-Err-NoJob-clause-runs
returns-in-Err-NoJob-clause-runs g c =
    let s = c.args.state.now in
    let h = ap₂ (λ z t. updated z c.args.update.now.job.now c.args.update.now.file.now t) (sym c.deref.ensures.value) (sym c.as_slice-text.ensures)
    ∙ subst (IsUpdateCause (updated c.deref.result.now c.args.update.now.job.now c.args.update.now.file.now c.as_slice-text.result.now)) c.in-Err-NoJob.field-0-is c.in-Err-NoJob.ensures.refused in
    c.without_runs.ensures.runs ∙ sym (update_refused_runs s.jobs.items s.lives.items s.started.items c.args.moment c.args.update.now.job.now c.args.update.now.file.now c.args.update.now.text.now (ap (after_update s.jobs.items c.args.update.now.job.now c.args.update.now.file.now) h))

pub returns-in-Err-NoJob-clause-steps : goal.returns-in-Err-NoJob-clause-steps
returns-in-Err-NoJob-clause-steps g c =
    let s = c.args.state.now in
    let h = ap₂ (λ z t. updated z c.args.update.now.job.now c.args.update.now.file.now t) (sym c.deref.ensures.value) (sym c.as_slice-text.ensures)
    ∙ subst (IsUpdateCause (updated c.deref.result.now c.args.update.now.job.now c.args.update.now.file.now c.as_slice-text.result.now)) c.in-Err-NoJob.field-0-is c.in-Err-NoJob.ensures.refused in
    omega (arith, update_refused_runs s.jobs.items s.lives.items s.started.items c.args.moment c.args.update.now.job.now c.args.update.now.file.now c.args.update.now.text.now (ap (after_update s.jobs.items c.args.update.now.job.now c.args.update.now.file.now) h))

pub returns-in-Err-NoFile-clause-runs : goal.returns-in-Err-NoFile-clause-runs
returns-in-Err-NoFile-clause-runs g c =
    let s = c.args.state.now in
    let h = ap₂ (λ z t. updated z c.args.update.now.job.now c.args.update.now.file.now t) (sym c.deref.ensures.value) (sym c.as_slice-text.ensures)
    ∙ subst (IsUpdateCause (updated c.deref.result.now c.args.update.now.job.now c.args.update.now.file.now c.as_slice-text.result.now)) c.in-Err-NoFile.field-0-is c.in-Err-NoFile.ensures.refused in
    c.without_runs-in-Err-NoFile.ensures.runs ∙ sym (update_refused_runs s.jobs.items s.lives.items s.started.items c.args.moment c.args.update.now.job.now c.args.update.now.file.now c.args.update.now.text.now (ap (after_update s.jobs.items c.args.update.now.job.now c.args.update.now.file.now) h))

pub returns-in-Err-NoFile-clause-steps : goal.returns-in-Err-NoFile-clause-steps
returns-in-Err-NoFile-clause-steps g c =
    let s = c.args.state.now in
    let h = ap₂ (λ z t. updated z c.args.update.now.job.now c.args.update.now.file.now t) (sym c.deref.ensures.value) (sym c.as_slice-text.ensures)
    ∙ subst (IsUpdateCause (updated c.deref.result.now c.args.update.now.job.now c.args.update.now.file.now c.as_slice-text.result.now)) c.in-Err-NoFile.field-0-is c.in-Err-NoFile.ensures.refused in
    omega (arith, update_refused_runs s.jobs.items s.lives.items s.started.items c.args.moment c.args.update.now.job.now c.args.update.now.file.now c.args.update.now.text.now (ap (after_update s.jobs.items c.args.update.now.job.now c.args.update.now.file.now) h))

pub returns-in-Err-Bad-clause-runs : goal.returns-in-Err-Bad-clause-runs
returns-in-Err-Bad-clause-runs g c =
    let s = c.args.state.now in
    let h = ap₂ (λ z t. updated z c.args.update.now.job.now c.args.update.now.file.now t) (sym c.deref.ensures.value) (sym c.as_slice-text.ensures)
    ∙ subst (IsUpdateCause (updated c.deref.result.now c.args.update.now.job.now c.args.update.now.file.now c.as_slice-text.result.now)) c.in-Err-Bad.field-0-is c.in-Err-Bad.ensures.refused in
    c.without_runs-in-Err-Bad.ensures.runs ∙ sym (update_refused_runs s.jobs.items s.lives.items s.started.items c.args.moment c.args.update.now.job.now c.args.update.now.file.now c.args.update.now.text.now (ap (after_update s.jobs.items c.args.update.now.job.now c.args.update.now.file.now) h))

pub returns-in-Err-Bad-clause-steps : goal.returns-in-Err-Bad-clause-steps
returns-in-Err-Bad-clause-steps g c =
    let s = c.args.state.now in
    let h = ap₂ (λ z t. updated z c.args.update.now.job.now c.args.update.now.file.now t) (sym c.deref.ensures.value) (sym c.as_slice-text.ensures)
    ∙ subst (IsUpdateCause (updated c.deref.result.now c.args.update.now.job.now c.args.update.now.file.now c.as_slice-text.result.now)) c.in-Err-Bad.field-0-is c.in-Err-Bad.ensures.refused in
    omega (arith, update_refused_runs s.jobs.items s.lives.items s.started.items c.args.moment c.args.update.now.job.now c.args.update.now.file.now c.args.update.now.text.now (ap (after_update s.jobs.items c.args.update.now.job.now c.args.update.now.file.now) h))

pub returns-in_err-jobs-in-Ok-clause-at_most : goal.returns-in_err-jobs-in-Ok-clause-at_most
returns-in_err-jobs-in-Ok-clause-at_most g c =
    let s = c.args.state.now in
    let h = ap₂ (λ z t. updated z c.args.update.now.job.now c.args.update.now.file.now t) (sym c.deref.ensures.value) (sym c.as_slice-text.ensures) ∙ c.in-Ok.ensures.taken in
    let same = same_update c.deref-in-Ok.result.now s.jobs.items c.args.update.now.job.now _ c.args.update.now.file.now _ c.in-Ok.taken.groups c.deref-in-Ok.ensures.value c.in-Ok.ensures.job c.in-Ok.ensures.file in
    let runs =
    ap₂ listed_by_named c.in-Ok.ensures.job same
    ∙ sym (update_taken_runs s.jobs.items s.lives.items s.started.items c.args.moment c.args.update.now.job.now c.args.update.now.file.now c.args.update.now.text.now _ (ap (after_update s.jobs.items c.args.update.now.job.now c.args.update.now.file.now) h))
    in
    omega (arith, c.jobs_updated.ensures.at_most, runs)

pub returns-in_err-runs-in-Ok-clause-at_most : goal.returns-in_err-runs-in-Ok-clause-at_most
returns-in_err-runs-in-Ok-clause-at_most g c =
    let s = c.args.state.now in
    let h = ap₂ (λ z t. updated z c.args.update.now.job.now c.args.update.now.file.now t) (sym c.deref.ensures.value) (sym c.as_slice-text.ensures) ∙ c.in-Ok.ensures.taken in
    let same = same_update c.deref-in-Ok.result.now s.jobs.items c.args.update.now.job.now _ c.args.update.now.file.now _ c.in-Ok.taken.groups c.deref-in-Ok.ensures.value c.in-Ok.ensures.job c.in-Ok.ensures.file in
    let runs =
    ap₂ listed_by_named c.in-Ok.ensures.job same
    ∙ sym (update_taken_runs s.jobs.items s.lives.items s.started.items c.args.moment c.args.update.now.job.now c.args.update.now.file.now c.args.update.now.text.now _ (ap (after_update s.jobs.items c.args.update.now.job.now c.args.update.now.file.now) h))
    in
    omega (arith, c.jobs_updated.ensures.at_most, runs)

pub returns-in_err-synced-in-Ok-clause-at_most : goal.returns-in_err-synced-in-Ok-clause-at_most
returns-in_err-synced-in-Ok-clause-at_most g c =
    let s = c.args.state.now in
    let h = ap₂ (λ z t. updated z c.args.update.now.job.now c.args.update.now.file.now t) (sym c.deref.ensures.value) (sym c.as_slice-text.ensures) ∙ c.in-Ok.ensures.taken in
    let same = same_update c.deref-in-Ok.result.now s.jobs.items c.args.update.now.job.now _ c.args.update.now.file.now _ c.in-Ok.taken.groups c.deref-in-Ok.ensures.value c.in-Ok.ensures.job c.in-Ok.ensures.file in
    let runs =
    ap₂ listed_by_named c.in-Ok.ensures.job same
    ∙ sym (update_taken_runs s.jobs.items s.lives.items s.started.items c.args.moment c.args.update.now.job.now c.args.update.now.file.now c.args.update.now.text.now _ (ap (after_update s.jobs.items c.args.update.now.job.now c.args.update.now.file.now) h))
    in
    omega (arith, c.jobs_updated.ensures.at_most, runs)

pub returns-in_ok-synced-in-Ok-clause-at_most : goal.returns-in_ok-synced-in-Ok-clause-at_most
returns-in_ok-synced-in-Ok-clause-at_most g c =
    let s = c.args.state.now in
    let h = ap₂ (λ z t. updated z c.args.update.now.job.now c.args.update.now.file.now t) (sym c.deref.ensures.value) (sym c.as_slice-text.ensures) ∙ c.in-Ok.ensures.taken in
    let same = same_update c.deref-in-Ok.result.now s.jobs.items c.args.update.now.job.now _ c.args.update.now.file.now _ c.in-Ok.taken.groups c.deref-in-Ok.ensures.value c.in-Ok.ensures.job c.in-Ok.ensures.file in
    let runs =
    ap₂ listed_by_named c.in-Ok.ensures.job same
    ∙ sym (update_taken_runs s.jobs.items s.lives.items s.started.items c.args.moment c.args.update.now.job.now c.args.update.now.file.now c.args.update.now.text.now _ (ap (after_update s.jobs.items c.args.update.now.job.now c.args.update.now.file.now) h))
    in
    omega (arith, c.jobs_updated.ensures.at_most, runs)
