use Rattle.std.proofs.Common.{◌≡◌, ◌∙◌, ◌+◌, List, length, rules, sym, ap, subst, arith}
use Rattle.std.specs.Prelude.{vec_len}
use Rattle.journal_text.specs.Events.{now_of}
use Rattle.run_lock.specs.Entries.{entries_of}
use Rattle.turn_lock.specs.Passes.{AreAll, own_of}
use Rattle.station.proofs.CloseLemmas.{all_order, ended_log, parted, told_all, ticker_recorded}
use Rattle.station.proofs.RecordLemmas.{caller_recorded, seats_known}
use Rattle.station.proofs.run.close_run.Goals as goal

pub close-state-requires-clause-all : goal.close-state-requires-clause-all
close-state-requires-clause-all g c =
    subst (AreAll c.args.lock) (sym c.all_passes-passes.ensures) (
      all_order c.args.lock c.args.caller c.args.ticker c.args.workers.items c.requires.caller c.requires.ticker c.requires.workers,
      omega (arith, c.requires.all, c.args.workers.ok.0),
    )

pub close-core-requires-clause-ended : goal.close-core-requires-clause-ended
close-core-requires-clause-ended g c =
    let state = c.close-state.result in
    let p = parted (entries_of state.core state.marks.items) c.args.caller c.args.ticker c.args.workers.items c.all_passes-passes.result.items c.all_passes-passes.ensures c.close-state.ensures.gathers in
    ended_log (entries_of state.core state.marks.items) c.args.workers.items p.others (c.requires.came (search rules))

pub returns-clause-caller : goal.returns-clause-caller
returns-clause-caller g c =
    let state = c.close-state.result in
    let log = entries_of state.core state.marks.items in
    let p = parted log c.args.caller c.args.ticker c.args.workers.items c.all_passes-passes.result.items c.all_passes-passes.ensures c.close-state.ensures.gathers in
    λ h. caller_recorded c.close-core.result.0 c.close-core.result.1.items log (own_of c.args.caller) (now_of state.core) c.close-core.ensures.seats c.close-core.ensures.entries p.callers

pub returns-clause-known : goal.returns-clause-known
returns-clause-known g c =
    let state = c.close-state.result in
    let log = entries_of state.core state.marks.items in
    let many : length c.all_passes-passes.result.items ≡ 2 + vec_len c.args.workers = ap (λ (ps : List _). length ps) c.all_passes-passes.ensures ∙ omega (arith, c.args.workers.ok.0) in
    λ h. seats_known (2 + vec_len c.args.workers) c.close-core.result.0 c.close-core.result.1.items log _ (omega arith) c.close-core.ensures.seats c.close-core.ensures.entries (λ n le. c.close-state.ensures.others n (omega (arith, many, le)))

pub returns-clause-ticker : goal.returns-clause-ticker
returns-clause-ticker g c =
    let state = c.close-state.result in
    let log = entries_of state.core state.marks.items in
    let p = parted log c.args.caller c.args.ticker c.args.workers.items c.all_passes-passes.result.items c.all_passes-passes.ensures c.close-state.ensures.gathers in
    λ h. ticker_recorded c.close-core.result.0 c.close-core.result.1.items log _ c.args.ticker c.close-core.ensures.seats c.close-core.ensures.entries p.tickers

pub returns-clause-own : goal.returns-clause-own
returns-clause-own g c =
    let state = c.close-state.result in
    let log = entries_of state.core state.marks.items in
    let p = parted log c.args.caller c.args.ticker c.args.workers.items c.all_passes-passes.result.items c.all_passes-passes.ensures c.close-state.ensures.gathers in
    λ h. told_all c.close-core.result.0 c.close-core.result.1.items log _ 2 c.args.workers.items (omega arith) c.close-core.ensures.seats c.close-core.ensures.entries c.close-core.ensures.others p.others
