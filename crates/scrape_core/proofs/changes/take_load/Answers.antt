use Rattle.std.proofs.Common.{◌∙◌, ◌+◌, arith, map, sym, ap, ap₂, subst}
use Rattle.jobs_in_force.specs.Jobs.{loaded, in_force, IsLoadCause}
use Rattle.jobs_in_force.proofs.FewLemmas.{loaded_few}
use Rattle.scrape_machine.specs.declared.answers.Answer.TheVariants.{Loaded, Refused}
use Rattle.scrape_machine.specs.Machine.{after_load}
use Rattle.scrape_steps.specs.Reloads.{closed_by, begun_by, reloaded}
use Rattle.scrape_steps.proofs.EventLemmas.{load_taken, load_refused, load_answer_taken, load_answer_refused}
use Rattle.jobs_in_force.specs.Listed.{listed_by}
use Rattle.scrape_machine.proofs.RunLemmas.{load_taken_runs, load_refused_runs}
use Rattle.scrape_core.specs.Kept.{live}
use Rattle.scrape_core.proofs.changes.take_load.Goals as goal

pub in_force_all-requires : goal.in_force_all-requires
in_force_all-requires g c = loaded_few _ _ c.in-Ok.filed.items c.in-Ok.ensures.taken

pub returns-in_ok-synced-in-Ok-clause-answer : goal.returns-in_ok-synced-in-Ok-clause-answer
returns-in_ok-synced-in-Ok-clause-answer g c =
    let s = c.args.state.now in
    let h = ap₂ loaded (sym c.deref.ensures.value) (sym c.as_slice.ensures) ∙ c.in-Ok.ensures.taken in
    ap₂ Loaded (c.in_ok-synced-in-Ok.ensures.closed ∙ ap (λ js. closed_by c.args.moment js (live s)) c.in_ok-jobs-in-Ok.ensures.jobs)
    (c.in_ok-synced-in-Ok.ensures.begun ∙ ap (λ js. begun_by c.args.moment js (live s)) c.in_ok-jobs-in-Ok.ensures.jobs)
    ∙ sym (load_answer_taken s.jobs.items s.lives.items s.started.items c.args.moment c.args.text.now c.in-Ok.filed.items h)

pub returns-in_ok-synced-in-Ok-clause-state : goal.returns-in_ok-synced-in-Ok-clause-state
returns-in_ok-synced-in-Ok-clause-state g c =
    let s = c.args.state.now in
    let h = ap₂ loaded (sym c.deref.ensures.value) (sym c.as_slice.ensures) ∙ c.in-Ok.ensures.taken in
    c.in_ok-synced-in-Ok.ensures.state ∙ ap (λ js. reloaded c.args.moment js (live s)) c.in_ok-jobs-in-Ok.ensures.jobs
    ∙ sym (load_taken s.jobs.items s.lives.items s.started.items c.args.moment c.args.text.now (map in_force c.in-Ok.filed.items) (ap after_load h))

pub returns-in-Err-Bad-clause-answer : goal.returns-in-Err-Bad-clause-answer
returns-in-Err-Bad-clause-answer g c =
    let s = c.args.state.now in
    let h = ap₂ loaded (sym c.deref.ensures.value) (sym c.as_slice.ensures)
    ∙ subst (IsLoadCause (loaded c.deref.result.now c.as_slice.result.now)) c.in-Err-Bad.field-0-is c.in-Err-Bad.ensures.refused in
    c.without_runs.ensures.answer ∙ ap Refused c.in-Err-Bad.fault-is ∙ sym (load_answer_refused s.jobs.items s.lives.items s.started.items c.args.moment c.args.text.now _ h)

pub returns-in-Err-Bad-clause-state : goal.returns-in-Err-Bad-clause-state
returns-in-Err-Bad-clause-state g c =
    let s = c.args.state.now in
    let h = ap₂ loaded (sym c.deref.ensures.value) (sym c.as_slice.ensures)
    ∙ subst (IsLoadCause (loaded c.deref.result.now c.as_slice.result.now)) c.in-Err-Bad.field-0-is c.in-Err-Bad.ensures.refused in
    sym (load_refused s.jobs.items s.lives.items s.started.items c.args.moment c.args.text.now (ap after_load h))

pub returns-in_ok-synced-in-Ok-clause-runs : goal.returns-in_ok-synced-in-Ok-clause-runs
returns-in_ok-synced-in-Ok-clause-runs g c =
    let s = c.args.state.now in
    let h = ap₂ loaded (sym c.deref.ensures.value) (sym c.as_slice.ensures) ∙ c.in-Ok.ensures.taken in
    c.in_ok-runs-in-Ok.ensures ∙ ap listed_by (c.deref-in-Ok.ensures.value ∙ c.in_ok-jobs-in-Ok.ensures.jobs)
    ∙ sym (load_taken_runs s.jobs.items s.lives.items s.started.items c.args.moment c.args.text.now (map in_force c.in-Ok.filed.items) (ap after_load h))

pub returns-in_ok-synced-in-Ok-clause-steps : goal.returns-in_ok-synced-in-Ok-clause-steps
returns-in_ok-synced-in-Ok-clause-steps g c =
    let s = c.args.state.now in
    let h = ap₂ loaded (sym c.deref.ensures.value) (sym c.as_slice.ensures) ∙ c.in-Ok.ensures.taken in
    c.in_ok-jobs-in-Ok.ensures.steps
    ∙ ap (λ n. c.args.steps.now + n)
    (ap listed_by c.in_ok-jobs-in-Ok.ensures.jobs
    ∙ sym (load_taken_runs s.jobs.items s.lives.items s.started.items c.args.moment c.args.text.now (map in_force c.in-Ok.filed.items) (ap after_load h)))

pub returns-in-Err-Bad-clause-runs : goal.returns-in-Err-Bad-clause-runs
returns-in-Err-Bad-clause-runs g c =
    let s = c.args.state.now in
    let h = ap₂ loaded (sym c.deref.ensures.value) (sym c.as_slice.ensures)
    ∙ subst (IsLoadCause (loaded c.deref.result.now c.as_slice.result.now)) c.in-Err-Bad.field-0-is c.in-Err-Bad.ensures.refused in
    c.without_runs.ensures.runs ∙ sym (load_refused_runs s.jobs.items s.lives.items s.started.items c.args.moment c.args.text.now (ap after_load h))

pub returns-in-Err-Bad-clause-steps : goal.returns-in-Err-Bad-clause-steps
returns-in-Err-Bad-clause-steps g c =
    let s = c.args.state.now in
    let h = ap₂ loaded (sym c.deref.ensures.value) (sym c.as_slice.ensures)
    ∙ subst (IsLoadCause (loaded c.deref.result.now c.as_slice.result.now)) c.in-Err-Bad.field-0-is c.in-Err-Bad.ensures.refused in
    omega (arith, load_refused_runs s.jobs.items s.lives.items s.started.items c.args.moment c.args.text.now (ap after_load h))

pub returns-in_err-jobs-in-Ok-clause-at_most : goal.returns-in_err-jobs-in-Ok-clause-at_most
returns-in_err-jobs-in-Ok-clause-at_most g c =
    let s = c.args.state.now in
    let h = ap₂ loaded (sym c.deref.ensures.value) (sym c.as_slice.ensures) ∙ c.in-Ok.ensures.taken in
    let runs = load_taken_runs s.jobs.items s.lives.items s.started.items c.args.moment c.args.text.now (map in_force c.in-Ok.filed.items) (ap after_load h) in
    omega (arith, c.in_force_all.ensures.at_most, runs)

pub returns-in_err-runs-in-Ok-clause-at_most : goal.returns-in_err-runs-in-Ok-clause-at_most
returns-in_err-runs-in-Ok-clause-at_most g c =
    let s = c.args.state.now in
    let h = ap₂ loaded (sym c.deref.ensures.value) (sym c.as_slice.ensures) ∙ c.in-Ok.ensures.taken in
    let runs = load_taken_runs s.jobs.items s.lives.items s.started.items c.args.moment c.args.text.now (map in_force c.in-Ok.filed.items) (ap after_load h) in
    omega (arith, c.in_force_all.ensures.at_most, runs)

pub returns-in_err-synced-in-Ok-clause-at_most : goal.returns-in_err-synced-in-Ok-clause-at_most
returns-in_err-synced-in-Ok-clause-at_most g c =
    let s = c.args.state.now in
    let h = ap₂ loaded (sym c.deref.ensures.value) (sym c.as_slice.ensures) ∙ c.in-Ok.ensures.taken in
    let runs = load_taken_runs s.jobs.items s.lives.items s.started.items c.args.moment c.args.text.now (map in_force c.in-Ok.filed.items) (ap after_load h) in
    omega (arith, c.in_force_all.ensures.at_most, runs)

pub returns-in_ok-synced-in-Ok-clause-at_most : goal.returns-in_ok-synced-in-Ok-clause-at_most
returns-in_ok-synced-in-Ok-clause-at_most g c =
    let s = c.args.state.now in
    let h = ap₂ loaded (sym c.deref.ensures.value) (sym c.as_slice.ensures) ∙ c.in-Ok.ensures.taken in
    let runs = load_taken_runs s.jobs.items s.lives.items s.started.items c.args.moment c.args.text.now (map in_force c.in-Ok.filed.items) (ap after_load h) in
    omega (arith, c.in_force_all.ensures.at_most, runs)
