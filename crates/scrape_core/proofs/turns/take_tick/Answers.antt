use Rattle.std.proofs.Common.{◌++◌, ◌∙◌, List, sym, ap, append-nil}
use Rattle.std.specs.Prelude.{slice_get}
use Rattle.journal_text.specs.Lines.{number}
use Rattle.report_samples.specs.declared.entries.Entry.{Entry}
use Rattle.appender_book.specs.Books.{BookView}
use Rattle.scrape_machine.specs.declared.lives.Life.{Life}
use Rattle.scrape_machine.specs.Machine.{answer}
use Rattle.scrape_steps.specs.Scans.{is_open_life}
use Rattle.scrape_steps.proofs.ScanLemmas as scans
use Rattle.scrape_core.specs.Kept.{live}
use Rattle.scrape_core.proofs.StateLemmas.{same_tick}
use Rattle.scrape_core.proofs.turns.take_tick.Goals.{then-is_open_at+in_ok-tick_open, else-is_open_at}
use Rattle.scrape_core.proofs.turns.take_tick.Goals as goal

pub returns-clause-answer : goal.returns-clause-answer
unfolding answer
returns-clause-answer c =
    let s = c.args.state.now in
    let n = number c.args.moment in
    let js = c.deref.ensures.value in
    let t = c.len-ticket.ensures ∙ s.started.ok.0 in
    let o = c.life_at.ensures ∙ ap (λ (ls : List Life). slice_get ls c.args.life) c.deref-2.ensures.value in
    c.tick_answer-answer.ensures ∙ same_tick n _ _ _ _ _ _ js t o

pub returns-clause-state : goal.returns-clause-state
returns-clause-state c =
    let s = c.args.state.now in
    elim c.if-is_open_at.branch [
      | then-is_open_at+in_ok-tick_open w ↦ ap live w.state-is ∙ w.in_ok-tick_open.ensures.state
      | else-is_open_at w ↦
          let h = ap (λ (ls : List Life). is_open_life (slice_get ls c.args.life)) (sym c.deref-3.ensures.value) ∙ sym c.is_open_at.ensures ∙ w.if-is_open_at.false in
          ap live w.state-is ∙ sym (scans.tick_closed s.jobs.items s.lives.items s.started.items c.args.moment c.args.life h)
    ]

pub returns-clause-book : goal.returns-clause-book
returns-clause-book c =
    let s = c.args.state.now in
    elim c.if-is_open_at.branch [
      | then-is_open_at+in_ok-tick_open w ↦ ap (λ (b : BookView). b.entries) w.book-is ∙ w.in_ok-tick_open.ensures.book
      | else-is_open_at w ↦
          let h = ap (λ (ls : List Life). is_open_life (slice_get ls c.args.life)) (sym c.deref-3.ensures.value) ∙ sym c.is_open_at.ensures ∙ w.if-is_open_at.false in
          ap (λ (b : BookView). b.entries) w.book-is ∙ sym (append-nil _)
          ∙ ap (λ (es : List Entry). c.args.book.now.entries ++ es) (sym (scans.tick_closed_gives s.jobs.items s.lives.items s.started.items c.args.moment c.args.life h))
    ]
