use Rattle.std.proofs.Common.{List, length, sym, ap, ◌∙◌, subst, pos}
use Rattle.journal_text.specs.declared.events.Event.{Event}
use Rattle.journal_text.specs.Events.{IsJournal, now_of}
use Rattle.run_lock.specs.declared.marks.Mark.{Mark}
use Rattle.run_lock.specs.Entries.{entries_of}
use Rattle.run_lock.specs.Running.{Known}
use Rattle.run_lock.proofs.RunLemmas.{run_whole, halted_log, halted_seats, halted_other, halted_caller}
use Rattle.scrape_core.specs.Records.{IsWhole}
use Rattle.run_lock.specs.Entries.{seats_in, own_by}
use Rattle.run_lock.specs.Held.{events_of}
use Rattle.run_lock.specs.Callers.{IsOfCaller}
use Rattle.run_lock.proofs.state.RunState.close.Goals as goal

pub returns-clause-done : goal.returns-clause-done
returns-clause-done g c =
    let old = c.args.self in
    let k : Known = record { events = old.core; marks = old.marks.items; next = old.next; started = old.started; slots = old.slots.items; out = old.out; sweeps_left = old.sweeps_left; ended = old.ended } in
    let m = pos (now_of old.core) in
    subst IsWhole (sym c.halt.ensures.halted) (run_whole g.B.Asked.workers g.B.Asked.turns g.B.Asked.start k m old.run (old.run.shown c.requires.ended)
    (subst IsJournal c.halt.ensures.halted c.halt.ensures.journal))

pub returns-clause-seats : goal.returns-clause-seats
returns-clause-seats g c =
    let old = c.args.self in
    let k : Known = record { events = old.core; marks = old.marks.items; next = old.next; started = old.started; slots = old.slots.items; out = old.out; sweeps_left = old.sweeps_left; ended = old.ended } in
    let m = pos (now_of old.core) in
    (λ i. length (seats_in (c.push_reserved.ensures.items i))) ∙ (halted_seats g.B.Asked.workers g.B.Asked.turns g.B.Asked.start k m old.run ∙ ap (λ (es : List Event). length es) (sym c.halt.ensures.halted))

pub returns-clause-entries : goal.returns-clause-entries
returns-clause-entries g c =
    let old = c.args.self in
    let k : Known = record { events = old.core; marks = old.marks.items; next = old.next; started = old.started; slots = old.slots.items; out = old.out; sweeps_left = old.sweeps_left; ended = old.ended } in
    let m = pos (now_of old.core) in
    (λ i. entries_of (c.halt.ensures.halted i) (c.push_reserved.ensures.items i)) ∙ halted_log g.B.Asked.workers g.B.Asked.turns g.B.Asked.start k m old.run

pub returns-clause-others : goal.returns-clause-others
returns-clause-others g c =
    let old = c.args.self in
    let k : Known = record { events = old.core; marks = old.marks.items; next = old.next; started = old.started; slots = old.slots.items; out = old.out; sweeps_left = old.sweeps_left; ended = old.ended } in
    let m = pos (now_of old.core) in
    λ q some. (λ i. events_of q (c.halt.ensures.halted i) (seats_in (c.push_reserved.ensures.items i))) ∙ halted_other g.B.Asked.workers g.B.Asked.turns g.B.Asked.start k m q old.run some

pub returns-clause-caller : goal.returns-clause-caller
returns-clause-caller g c =
    let old = c.args.self in
    let k : Known = record { events = old.core; marks = old.marks.items; next = old.next; started = old.started; slots = old.slots.items; out = old.out; sweeps_left = old.sweeps_left; ended = old.ended } in
    let m = pos (now_of old.core) in
    subst (λ (t : List Event × List Mark). IsOfCaller g.B.Asked.start t.0 (seats_in t.1) (own_by 0 (entries_of old.core old.marks.items))) (λ i. (sym c.halt.ensures.halted i, sym c.push_reserved.ensures.items i))
    (halted_caller g.B.Asked.workers g.B.Asked.turns g.B.Asked.start k m old.run)
