use Rattle.std.proofs.Common.{◌≡◌, ◌≤◌, arith, ◌+◌, ◌++◌, ◌∙◌, List, length, get_or, set, sym, sum_by, ap, ap₂, subst, rules, SFits, w64, to_z, of_z}
use Rattle.std.proofs.lemmas.Int.{to_z-of_z}
use Rattle.std.proofs.lemmas.List.{with_items_is}
use Rattle.std.proofs.lemmas.List.Elements.{All-get_or}
use Rattle.std.specs.Prelude.{slice_get}
use Rattle.report_samples.specs.declared.entries.Entry.{Entry}
use Rattle.scrape_loop.specs.Tracked.{fault_of}
use Rattle.scrape_machine.specs.declared.answers.Answer.TheVariants.{Counted}
use Rattle.scrape_machine.specs.declared.lives.Life.{Life}
use Rattle.scrape_machine.specs.declared.lives.StartedScrape.{StartedScrape}
use Rattle.scrape_machine.specs.Lives.{is_open, counted, counted_entries, outcome_for, IsRightLife}
use Rattle.scrape_machine.specs.Machine.{world, finished}
use Rattle.scrape_machine.specs.Runs.{scrape_runs}
use Rattle.scrape_steps.proofs.FinishLemmas.{counted_answer, counted_world, counted_book, counted_runs}
use Rattle.scrape_steps.specs.Endings.{due_of}
use Rattle.scrape_steps.proofs.EndingLemmas.{counted_due, endings_set}
use Rattle.scrape_steps.proofs.ListedLemmas.{places_set}
use Rattle.scrape_core.proofs.StateLemmas.{length-finished, get_or_at}
use Rattle.scrape_core.proofs.finishes.finish_counted.Goals as goal

pub count-requires-clause-right : goal.count-requires-clause-right
count-requires-clause-right g c =
    let lives = c.args.state.now.lives.items in
    let d = c.index_mut-one.result.now in
    subst IsRightLife (sym c.index_mut-one.ensures.value) (All-get_or IsRightLife lives c.args.flight.life d c.requires.within c.requires.right)

pub returns-clause-answer : goal.returns-clause-answer
returns-clause-answer g c =
    let s = c.args.state.now in
    let d = c.index_mut-one.result.now in
    let t = to_z-of_z w64 c.args.fetch.now.took (search rules) in
    ap Counted (c.in_ok-counted.ensures.fault ∙ ap₂ (λ (y : Life) z. fault_of (outcome_for y z c.args.fetch.now.reply.now)) c.index_mut-one.ensures.value t)
    ∙ sym (counted_answer s.jobs.items s.lives.items s.started.items c.args.fetch.now.ticket c.args.fetch.now.took c.args.fetch.now.reply.now c.args.flight.life c.args.flight.moment c.requires.found d)

pub returns-clause-state : goal.returns-clause-state
returns-clause-state g c =
    let s = c.args.state.now in
    let d = c.index_mut-one.result.now in
    let t = to_z-of_z w64 c.args.fetch.now.took (search rules) in
    let done : c.finish.new.started ≡ finished (slice_get s.started.items c.args.fetch.now.ticket) s.started.items c.args.fetch.now.ticket =
    c.finish.ensures ∙ ap (λ (ss : List StartedScrape). finished (slice_get ss c.args.fetch.now.ticket) ss c.args.fetch.now.ticket) c.deref_mut.ensures.value in
    let long = ap (λ (ss : List StartedScrape). length ss) done ∙ length-finished s.started.items c.args.fetch.now.ticket _ ∙ sym s.started.ok.0 in
    ap (λ ss. world s.jobs.items (set s.lives.items c.args.flight.life c.count.new.life) ss) (with_items_is s.started c.finish.new.started long)
    ∙ counted_world s.jobs.items s.lives.items s.started.items c.args.fetch.now.ticket c.args.fetch.now.took c.args.fetch.now.reply.now c.args.flight.life c.args.flight.moment c.requires.found
    c.finish.new.started d c.count.new.life c.requires.within
    (c.in_ok-counted.ensures.life ∙ ap₂ (λ (y : Life) z. counted y z c.args.fetch.now.reply.now) c.index_mut-one.ensures.value t) done

pub returns-clause-book : goal.returns-clause-book
returns-clause-book g c =
    let s = c.args.state.now in
    let d = c.index_mut-one.result.now in
    let t = to_z-of_z w64 c.args.fetch.now.took (search rules) in
    let life = get_or s.lives.items c.args.flight.life d in
    let fits : SFits w64 c.ms.result = search rules in
    c.in_ok-counted.ensures.book ∙ ap (λ (es : List Entry). c.args.book.now.entries ++ es)
    (ap₂ (λ (y : Life) z. counted_entries y z c.args.fetch.now.reply.now (to_z w64 (of_z w64 c.ms.result))) c.index_mut-one.ensures.value t
    ∙ ap (λ m. counted_entries life c.args.fetch.now.took c.args.fetch.now.reply.now m) (to_z-of_z w64 c.ms.result fits ∙ c.ms.ensures.value)
    ∙ sym (counted_book s.jobs.items s.lives.items s.started.items c.args.fetch.now.ticket c.args.fetch.now.took c.args.fetch.now.reply.now c.args.flight.life c.args.flight.moment c.requires.found d c.requires.within))

pub returns-clause-runs : goal.returns-clause-runs
returns-clause-runs g c =
    let s = c.args.state.now in
    let d = c.index_mut-one.result.now in
    let t = to_z-of_z w64 c.args.fetch.now.took (search rules) in
    c.in_ok-counted.ensures.runs
    ∙ (ap₂ (λ (y : Life) z. scrape_runs z c.args.fetch.now.reply.now y) c.index_mut-one.ensures.value t
    ∙ sym (counted_runs s.jobs.items s.lives.items s.started.items c.args.fetch.now.ticket c.args.fetch.now.took c.args.fetch.now.reply.now c.args.flight.life c.args.flight.moment c.requires.found d))

pub returns-clause-steps : goal.returns-clause-steps
returns-clause-steps g c =
    let s = c.args.state.now in
    let d = c.index_mut-one.result.now in
    let t = to_z-of_z w64 c.args.fetch.now.took (search rules) in
    c.in_ok-counted.ensures.steps
    ∙ ap (λ n. c.args.steps.now + n)
    (ap₂ (λ (y : Life) z. scrape_runs z c.args.fetch.now.reply.now y) c.index_mut-one.ensures.value t
    ∙ sym (counted_runs s.jobs.items s.lives.items s.started.items c.args.fetch.now.ticket c.args.fetch.now.took c.args.fetch.now.reply.now c.args.flight.life c.args.flight.moment c.requires.found d))

pub returns-clause-listed : goal.returns-clause-listed
returns-clause-listed g c =
    let s = c.args.state.now in
    let d = c.index_mut-one.result.now in
    let x = get_or s.lives.items c.args.flight.life d in
    let at = get_or_at s.lives.items c.args.flight.life d x c.requires.within in
    let new : c.count.new.life ≡ counted x (to_z w64 (of_z w64 c.args.fetch.now.took)) c.args.fetch.now.reply.now = c.in_ok-counted.ensures.life ∙ ap (λ (y : Life). counted y (to_z w64 (of_z w64 c.args.fetch.now.took)) c.args.fetch.now.reply.now) c.index_mut-one.ensures.value in
    let due = ap due_of new ∙ counted_due x (to_z w64 (of_z w64 c.args.fetch.now.took)) c.args.fetch.now.reply.now in (
      c.requires.listed.0 ∙ sym (places_set is_open 0 s.lives.items c.args.flight.life x c.count.new.life c.requires.within at (ap is_open new)),
      λ f. ap (sum_by f) (endings_set 0 s.lives.items c.args.flight.life x c.count.new.life c.requires.within at due) ∙ c.requires.listed.1 f,
    )

pub returns-in_err-counted-clause-listed : goal.returns-in_err-counted-clause-listed
returns-in_err-counted-clause-listed g c =
    let s = c.args.state.now in
    let d = c.index_mut-one.result.now in
    let x = get_or s.lives.items c.args.flight.life d in
    let at = get_or_at s.lives.items c.args.flight.life d x c.requires.within in
    let same = c.in_err-counted.ensures.err_life ∙ c.index_mut-one.ensures.value in (
      c.requires.listed.0 ∙ sym (places_set is_open 0 s.lives.items c.args.flight.life x c.count.new.life c.requires.within at (ap is_open same)),
      λ f. ap (sum_by f) (endings_set 0 s.lives.items c.args.flight.life x c.count.new.life c.requires.within at (ap due_of same)) ∙ c.requires.listed.1 f,
    )

pub returns-clause-at_most : goal.returns-clause-at_most
returns-clause-at_most g c =
    let s = c.args.state.now in
    let d = c.index_mut-one.result.now in
    let t = to_z-of_z w64 c.args.fetch.now.took (search rules) in
    let runs =
    ap₂ (λ (y : Life) z. scrape_runs z c.args.fetch.now.reply.now y) c.index_mut-one.ensures.value t
    ∙ sym (counted_runs s.jobs.items s.lives.items s.started.items c.args.fetch.now.ticket c.args.fetch.now.took c.args.fetch.now.reply.now c.args.flight.life c.args.flight.moment c.requires.found d)
    in
    omega (arith, c.count.ensures.at_most, runs)

pub returns-in_err-counted-clause-at_most : goal.returns-in_err-counted-clause-at_most
returns-in_err-counted-clause-at_most g c =
    let s = c.args.state.now in
    let d = c.index_mut-one.result.now in
    let t = to_z-of_z w64 c.args.fetch.now.took (search rules) in
    let runs =
    ap₂ (λ (y : Life) z. scrape_runs z c.args.fetch.now.reply.now y) c.index_mut-one.ensures.value t
    ∙ sym (counted_runs s.jobs.items s.lives.items s.started.items c.args.fetch.now.ticket c.args.fetch.now.took c.args.fetch.now.reply.now c.args.flight.life c.args.flight.moment c.requires.found d)
    in
    omega (arith, c.count.ensures.at_most, runs)
