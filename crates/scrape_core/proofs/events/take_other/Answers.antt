use Rattle.std.proofs.Common.{◌∙◌, sym, ap, arith}
use Rattle.scrape_machine.specs.Runs.{runs}
use Rattle.scrape_machine.proofs.RunLemmas.{tick_runs, sweep_runs, halt_runs}
use Rattle.scrape_core.specs.Kept.{live}
use Rattle.scrape_core.proofs.StateLemmas.{appends_none, on_ok, load_gives, update_gives, halt_gives, halt_said, halt_left}
use Rattle.scrape_core.proofs.events.take_other.Goals as goal

pub returns-in-Load-clause-book : goal.returns-in-Load-clause-book
returns-in-Load-clause-book g c =
    let s = c.args.state.now in
    on_ok _ _ (appends_none (live s) c.args.event.now c.args.book.now.entries (load_gives s.jobs.items s.lives.items s.started.items c.args.event.now _ _ c.in-Load.is))

pub returns-in-Targets-clause-book : goal.returns-in-Targets-clause-book
returns-in-Targets-clause-book g c =
    let s = c.args.state.now in
    on_ok _ _ (appends_none (live s) c.args.event.now c.args.book.now.entries (update_gives s.jobs.items s.lives.items s.started.items c.args.event.now _ _ _ _ c.in-Targets.is))

pub returns-in-Halt-clause-answer : goal.returns-in-Halt-clause-answer
returns-in-Halt-clause-answer g c = let s = c.args.state.now in c.without_runs-in-Halt.ensures.answer ∙ halt_said s.jobs.items s.lives.items s.started.items c.args.event.now _ c.in-Halt.is

pub returns-in-Halt-clause-state : goal.returns-in-Halt-clause-state
returns-in-Halt-clause-state g c = let s = c.args.state.now in halt_left s.jobs.items s.lives.items s.started.items c.args.event.now _ c.in-Halt.is

pub returns-in-Halt-clause-book : goal.returns-in-Halt-clause-book
returns-in-Halt-clause-book g c =
    let s = c.args.state.now in
    appends_none (live s) c.args.event.now c.args.book.now.entries (halt_gives s.jobs.items s.lives.items s.started.items c.args.event.now _ c.in-Halt.is)

pub returns-in_ok-answer-in-Tick-clause-runs : goal.returns-in_ok-answer-in-Tick-clause-runs
returns-in_ok-answer-in-Tick-clause-runs g c =
    let s = c.args.state.now in c.without_runs.ensures.runs ∙ sym (ap (runs (live s)) c.in-Tick.is ∙ tick_runs s.jobs.items s.lives.items s.started.items _ _)

pub returns-in_ok-answer-in-Tick-clause-steps : goal.returns-in_ok-answer-in-Tick-clause-steps
returns-in_ok-answer-in-Tick-clause-steps g c = let s = c.args.state.now in omega (arith, ap (runs (live s)) c.in-Tick.is ∙ tick_runs s.jobs.items s.lives.items s.started.items _ _)

pub returns-in_ok-answer-in-Sweep-clause-runs : goal.returns-in_ok-answer-in-Sweep-clause-runs
returns-in_ok-answer-in-Sweep-clause-runs g c =
    let s = c.args.state.now in c.without_runs-in-Sweep.ensures.runs ∙ sym (ap (runs (live s)) c.in-Sweep.is ∙ sweep_runs s.jobs.items s.lives.items s.started.items _)

pub returns-in_ok-answer-in-Sweep-clause-steps : goal.returns-in_ok-answer-in-Sweep-clause-steps
returns-in_ok-answer-in-Sweep-clause-steps g c = let s = c.args.state.now in omega (arith, ap (runs (live s)) c.in-Sweep.is ∙ sweep_runs s.jobs.items s.lives.items s.started.items _)

pub returns-in-Halt-clause-runs : goal.returns-in-Halt-clause-runs
returns-in-Halt-clause-runs g c =
    let s = c.args.state.now in c.without_runs-in-Halt.ensures.runs ∙ sym (ap (runs (live s)) c.in-Halt.is ∙ halt_runs (live s) _)

pub returns-in-Halt-clause-steps : goal.returns-in-Halt-clause-steps
returns-in-Halt-clause-steps g c = let s = c.args.state.now in omega (arith, ap (runs (live s)) c.in-Halt.is ∙ halt_runs (live s) _)
