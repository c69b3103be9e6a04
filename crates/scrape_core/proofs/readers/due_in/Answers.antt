use Rattle.std.proofs.Common.{◌≡◌, ◌∙◌, ◌||◌, List, sym, ap, ap₂}
use Rattle.std.specs.Prelude.{filter}
use Rattle.std.specs.List.{list_any}
use Rattle.journal_text.specs.Lines.{number}
use Rattle.scrape_machine.specs.declared.lives.Life.{Life}
use Rattle.scrape_steps.specs.Concerned.{concerns}
use Rattle.scrape_steps.specs.Endings.{is_due, waiting}
use Rattle.scrape_core.specs.Readers.{acts}
use Rattle.scrape_core.proofs.ReaderLemmas.{due_parts, or_first, or_second}
use Rattle.scrape_core.proofs.readers.due_in.Goals as goal

pub returns-then-any_due : goal.returns-then-any_due
returns-then-any_due c =
    let s = c.args.state.now in
    let m = number c.args.moment in
    let opens = c.any_due.ensures ∙ ap₂ (λ o (ls : List Life). list_any (acts m) (filter (concerns o) ls)) c.open-lives.ensures.moment (c.open-lives.ensures.all ∙ c.deref.ensures.value) in
    or_first c.any_due.result (list_any (is_due m) (waiting s.endings)) c.if-any_due.true
    ∙ ap (λ b. b || list_any (is_due m) (waiting s.endings)) opens ∙ sym (due_parts s m c.if-not-state.true c.requires)

pub returns-else-any_due : goal.returns-else-any_due
returns-else-any_due c =
    let s = c.args.state.now in
    let m = number c.args.moment in
    let opens = c.any_due.ensures ∙ ap₂ (λ o (ls : List Life). list_any (acts m) (filter (concerns o) ls)) c.open-lives.ensures.moment (c.open-lives.ensures.all ∙ c.deref.ensures.value) in
    or_second c.any_due.result c.is_due.result c.if-any_due.false
    ∙ ap₂ (λ a b. a || b) opens (c.is_due.ensures ∙ ap (λ n. list_any (is_due n) (waiting s.endings)) c.number.ensures.value) ∙ sym (due_parts s m c.if-not-state.true c.requires)
