use Rattle.std.proofs.Common.{◌≡◌, ◌++◌, ◌∙◌, List, length, refl, sym, ap, ap₂, subst, append-nil, arith}
use Rattle.std.proofs.lemmas.List.{with_items_is}
use Rattle.std.specs.Prelude.{slice_get}
use Rattle.report_samples.specs.declared.entries.Entry.{Entry}
use Rattle.scrape_machine.specs.declared.answers.Answer.TheVariants.{NoTicket, Late}
use Rattle.scrape_machine.specs.declared.lives.Life.{Life}
use Rattle.scrape_machine.specs.declared.lives.StartedScrape.{StartedScrape}
use Rattle.scrape_machine.specs.Machine.{world, finished, found, found_start}
use Rattle.scrape_steps.specs.Scans.{IsMissed}
use Rattle.scrape_steps.proofs.FinishLemmas.{missed_said, missed_step, missed_silent, missed_runs}
use Rattle.scrape_core.specs.Kept.{live}
use Rattle.scrape_core.proofs.StateLemmas.{length-finished}
use Rattle.scrape_core.proofs.finishes.take_finish.Goals as goal

-- no scrape with the ticket has started, or it had its finish
none : (g : _) (c : goal.After-without_runs g) → IsMissed NoTicket (found (live c.args.state.now) c.args.fetch.now.ticket)
none g c =
    subst (IsMissed NoTicket)
    (c.in-NotStarted.ensures.value ∙ ap₂ (λ (ls : List Life) (ss : List StartedScrape). found_start ls c.args.fetch.now.ticket (slice_get ss c.args.fetch.now.ticket)) c.deref.ensures.value c.deref-2.ensures.value) refl

pub returns-in-NotStarted-clause-answer : goal.returns-in-NotStarted-clause-answer
returns-in-NotStarted-clause-answer g c =
    let s = c.args.state.now in
    c.without_runs.ensures.answer ∙ missed_said s.jobs.items s.lives.items s.started.items c.args.fetch.now.ticket c.args.fetch.now.took c.args.fetch.now.reply.now NoTicket (none g c)

pub returns-in-NotStarted-clause-state : goal.returns-in-NotStarted-clause-state
returns-in-NotStarted-clause-state g c =
    let s = c.args.state.now in
    let done : c.finish.new.started ≡ finished (slice_get s.started.items c.args.fetch.now.ticket) s.started.items c.args.fetch.now.ticket =
    c.finish.ensures ∙ ap (λ (ss : List StartedScrape). finished (slice_get ss c.args.fetch.now.ticket) ss c.args.fetch.now.ticket) c.deref_mut.ensures.value in
    let long = ap (λ (ss : List StartedScrape). length ss) done ∙ length-finished s.started.items c.args.fetch.now.ticket _ ∙ sym s.started.ok.0 in
    ap (λ ss. world s.jobs.items s.lives.items ss) (with_items_is s.started c.finish.new.started long ∙ done)
    ∙ sym (missed_step s.jobs.items s.lives.items s.started.items c.args.fetch.now.ticket c.args.fetch.now.took c.args.fetch.now.reply.now NoTicket (none g c))

pub returns-in-NotStarted-clause-book : goal.returns-in-NotStarted-clause-book
returns-in-NotStarted-clause-book g c =
    let s = c.args.state.now in
    sym (append-nil _)
    ∙ ap (λ (es : List Entry). c.args.book.now.entries ++ es) (sym (missed_silent s.jobs.items s.lives.items s.started.items c.args.fetch.now.ticket c.args.fetch.now.took c.args.fetch.now.reply.now NoTicket (none g c)))

-- the scrape was cancelled
late : (g : _) (c : goal.After-without_runs-in-Cancelled g) → IsMissed Late (found (live c.args.state.now) c.args.fetch.now.ticket)
late g c =
    subst (IsMissed Late)
    (c.in-Cancelled.ensures.value ∙ ap₂ (λ (ls : List Life) (ss : List StartedScrape). found_start ls c.args.fetch.now.ticket (slice_get ss c.args.fetch.now.ticket)) c.deref.ensures.value c.deref-2.ensures.value) refl

pub returns-in-Cancelled-clause-answer : goal.returns-in-Cancelled-clause-answer
returns-in-Cancelled-clause-answer g c =
    let s = c.args.state.now in
    c.without_runs-in-Cancelled.ensures.answer ∙ missed_said s.jobs.items s.lives.items s.started.items c.args.fetch.now.ticket c.args.fetch.now.took c.args.fetch.now.reply.now Late (late g c)

pub returns-in-Cancelled-clause-state : goal.returns-in-Cancelled-clause-state
returns-in-Cancelled-clause-state g c =
    let s = c.args.state.now in
    let done : c.finish-in-Cancelled.new.started ≡ finished (slice_get s.started.items c.args.fetch.now.ticket) s.started.items c.args.fetch.now.ticket =
    c.finish-in-Cancelled.ensures ∙ ap (λ (ss : List StartedScrape). finished (slice_get ss c.args.fetch.now.ticket) ss c.args.fetch.now.ticket) c.deref_mut-in-Cancelled.ensures.value in
    let long = ap (λ (ss : List StartedScrape). length ss) done ∙ length-finished s.started.items c.args.fetch.now.ticket _ ∙ sym s.started.ok.0 in
    ap (λ ss. world s.jobs.items s.lives.items ss) (with_items_is s.started c.finish-in-Cancelled.new.started long ∙ done)
    ∙ sym (missed_step s.jobs.items s.lives.items s.started.items c.args.fetch.now.ticket c.args.fetch.now.took c.args.fetch.now.reply.now Late (late g c))

pub returns-in-Cancelled-clause-book : goal.returns-in-Cancelled-clause-book
returns-in-Cancelled-clause-book g c =
    let s = c.args.state.now in
    sym (append-nil _)
    ∙ ap (λ (es : List Entry). c.args.book.now.entries ++ es) (sym (missed_silent s.jobs.items s.lives.items s.started.items c.args.fetch.now.ticket c.args.fetch.now.took c.args.fetch.now.reply.now Late (late g c)))

pub returns-in-NotStarted-clause-runs : goal.returns-in-NotStarted-clause-runs
returns-in-NotStarted-clause-runs g c =
    let s = c.args.state.now in
    c.without_runs.ensures.runs ∙ sym (missed_runs s.jobs.items s.lives.items s.started.items c.args.fetch.now.ticket c.args.fetch.now.took c.args.fetch.now.reply.now NoTicket (none g c))

pub returns-in-NotStarted-clause-steps : goal.returns-in-NotStarted-clause-steps
returns-in-NotStarted-clause-steps g c =
    let s = c.args.state.now in
    omega (arith, missed_runs s.jobs.items s.lives.items s.started.items c.args.fetch.now.ticket c.args.fetch.now.took c.args.fetch.now.reply.now NoTicket (none g c))

pub returns-in-Cancelled-clause-runs : goal.returns-in-Cancelled-clause-runs
returns-in-Cancelled-clause-runs g c =
    let s = c.args.state.now in
    c.without_runs-in-Cancelled.ensures.runs ∙ sym (missed_runs s.jobs.items s.lives.items s.started.items c.args.fetch.now.ticket c.args.fetch.now.took c.args.fetch.now.reply.now Late (late g c))

pub returns-in-Cancelled-clause-steps : goal.returns-in-Cancelled-clause-steps
returns-in-Cancelled-clause-steps g c =
    let s = c.args.state.now in
    omega (arith, missed_runs s.jobs.items s.lives.items s.started.items c.args.fetch.now.ticket c.args.fetch.now.took c.args.fetch.now.reply.now Late (late g c))
