use Rattle.std.proofs.Common.{◌≡◌, ◌∙◌, ◌+◌, List, sym, ap, subst}
use Rattle.std.specs.Prelude.{All}
use Rattle.run_lock.specs.declared.marks.Entry.{Entry}
use Rattle.run_lock.specs.Entries.{begun_with}
use Rattle.run_lock.proofs.EntryLemmas.{begun_seats}
use Rattle.turn_lock.specs.Passes.{fresh_parts}
use Rattle.station.proofs.CloseLemmas.{opened}
use Rattle.station.proofs.run.open_run.Goals as goal

pub new-requires-2-clause-own : goal.new-requires-2-clause-own
new-requires-2-clause-own g c = subst (All (λ (e : Entry). e.seat ≡ 0)) (sym c.in-Ok.ensures.begun) (begun_seats c.args.core)

pub returns-clause-ticker : goal.returns-clause-ticker
returns-clause-ticker g c =
    let o = opened c.in-Ok-new.made.0 (begun_with c.args.core) c.args.count c.in-Ok-new.made.1.items c.remove-caller.new.self.items c.remove-ticker.new.self.items c.remove-caller.result c.remove-ticker.result
    c.in-Ok-new.ensures.all.0 c.in-Ok-new.ensures.count (c.in-Ok-new.ensures.seen ∙ ap (λ (l : List Entry). fresh_parts l (2 + c.args.count)) c.in-Ok.ensures.begun)
    c.remove-caller.ensures.value c.remove-caller.ensures.items c.remove-ticker.ensures.value c.remove-ticker.ensures.items in
    (o.ticker_own, o.ticker_has)

pub returns-clause-workers : goal.returns-clause-workers
returns-clause-workers g c =
    let o = opened c.in-Ok-new.made.0 (begun_with c.args.core) c.args.count c.in-Ok-new.made.1.items c.remove-caller.new.self.items c.remove-ticker.new.self.items c.remove-caller.result c.remove-ticker.result
    c.in-Ok-new.ensures.all.0 c.in-Ok-new.ensures.count (c.in-Ok-new.ensures.seen ∙ ap (λ (l : List Entry). fresh_parts l (2 + c.args.count)) c.in-Ok.ensures.begun)
    c.remove-caller.ensures.value c.remove-caller.ensures.items c.remove-ticker.ensures.value c.remove-ticker.ensures.items in
    o.workers_own
