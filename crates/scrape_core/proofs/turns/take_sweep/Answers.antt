use Rattle.std.proofs.Common.{◌≡◌, ◌++◌, ◌∙◌, List, sym, ap, subst, sum_by, vec_len}
use Rattle.std.specs.Prelude.{filter}
use Rattle.journal_text.specs.Lines.{number}
use Rattle.scrape_machine.specs.Lives.{is_open}
use Rattle.scrape_machine.specs.Machine.{World}
use Rattle.scrape_machine.specs.declared.lives.Life.{Life}
use Rattle.scrape_steps.specs.Concerned.{places_where}
use Rattle.scrape_steps.specs.Endings.{endings_from, is_due, is_early, waiting, HasRoom, HoldSame}
use Rattle.scrape_steps.specs.declared.endings.Endings.{Endings}
use Rattle.scrape_steps.proofs.EndingLemmas.{back_again, due_are, sweep_endings}
use Rattle.scrape_steps.proofs.ListedLemmas.{sweep_places}
use Rattle.scrape_core.proofs.turns.take_sweep.Goals as goal

pub sweep_due-requires-clause-due : goal.sweep_due-requires-clause-due
sweep_due-requires-clause-due c = λ f.
    let s = c.args.state.now in
    due_are c.number.result (number c.args.moment) (endings_from 0 s.lives.items) (waiting s.endings) c.in_ok-due.due.items c.number.ensures.value c.requires.listed.1 c.in_ok-due.ensures.due f
    ∙ ap (sum_by f) (sym c.deref.ensures.value)

pub put_back-requires : goal.put_back-requires
put_back-requires c = subst (λ (e : Endings). HasRoom e (vec_len c.in_ok-due.due)) (sym c.in-Err.ensures.endings) c.in_ok-due.ensures.room

pub returns-in-Ok-clause-listed : goal.returns-in-Ok-clause-listed
returns-in-Ok-clause-listed c =
    let s = c.args.state.now in
    let m = c.args.moment in
    let left : HoldSame (filter (is_early (number m)) (waiting s.endings)) (waiting c.take_due.new.self) =
    λ f. ap (λ k. sum_by f (filter (is_early k) (waiting s.endings))) (sym c.number.ensures.value) ∙ c.in_ok-due.ensures.left f in (
      ap (λ v. v.items) c.in-Ok.ensures.opens ∙ c.requires.listed.0
          ∙ sym (ap (places_where is_open 0) c.in-Ok.ensures.lives ∙ sweep_places s.jobs.items s.lives.items s.started.items m 0 s.lives.items),
      λ f.
          ap (λ (ls : List Life). sum_by f (endings_from 0 ls)) c.in-Ok.ensures.lives
          ∙ sweep_endings s.jobs.items s.lives.items s.started.items m (waiting s.endings) (waiting c.take_due.new.self) c.requires.listed.1 left f
          ∙ ap (λ (e : Endings). sum_by f (waiting e)) (sym c.in-Ok.ensures.endings),
    )

pub returns-in-Err-clause-listed : goal.returns-in-Err-clause-listed
returns-in-Err-clause-listed c =
    let s = c.args.state.now in
    let n = c.number.result in
    let lives = ap (λ (w : World). w.lives) c.in-Err.ensures.err in
    let back = subst (λ (e : Endings). HoldSame (c.in_ok-due.due.items ++ waiting e) (waiting c.put_back.new.self)) c.in-Err.ensures.endings c.put_back.ensures in (
      ap (λ v. v.items) c.in-Err.ensures.opens ∙ c.requires.listed.0 ∙ ap (places_where is_open 0) (sym lives),
      λ f.
          ap (λ (ls : List Life). sum_by f (endings_from 0 ls)) lives
          ∙ back_again n (endings_from 0 s.lives.items) (waiting s.endings) c.in_ok-due.due.items (waiting c.take_due.new.self) (waiting c.put_back.new.self) c.requires.listed.1 c.in_ok-due.ensures.due
          c.in_ok-due.ensures.left back f,
    )
