use Rattle.std.proofs.Common.{◌≡◌, ◌++◌, ◌∙◌, List, length, sym, ap, ap₂}
use Rattle.std.specs.Prelude.{Some}
use Rattle.std.proofs.lemmas.List.{with_items_is}
use Rattle.journal_text.specs.declared.events.Event.TheVariants.{Sweep}
use Rattle.journal_text.specs.Lines.{number}
use Rattle.scrape_machine.specs.declared.lives.Life.{Life}
use Rattle.scrape_machine.specs.declared.lives.StartedScrape.{StartedScrape}
use Rattle.scrape_machine.specs.Machine.{world, lives_from, starts_from, gives, answer}
use Rattle.scrape_steps.proofs.ScanLemmas.{sweep_step}
use Rattle.scrape_machine.proofs.StepLemmas.{length-lives}
use Rattle.scrape_steps.specs.Concerned.{concerns, places_where}
use Rattle.scrape_core.specs.Kept.{live}
use Rattle.scrape_core.proofs.StateLemmas.{same_world}
use Rattle.scrape_core.proofs.turns.sweep.Goals as goal

pub returns-clause-answer : goal.returns-clause-answer
unfolding answer
returns-clause-answer c = c.sweep_answer-answer.ensures

pub sweep_lives-requires-clause-places : goal.sweep_lives-requires-clause-places
sweep_lives-requires-clause-places c = c.requires.places ∙ ap (places_where (concerns (Some c.args.moment)) 0) (sym c.deref_mut.ensures.value)

pub returns-clause-lives : goal.returns-clause-lives
returns-clause-lives c =
    let s = c.args.state.now in
    let m = c.args.moment in
    let swept : c.sweep_lives.new.lives ≡ lives_from (live s) (Sweep m) 0 s.lives.items =
    c.sweep_lives.ensures
    ∙ same_world (λ js ls ss. lives_from (world js ls ss) (Sweep m) 0 ls) _ _ _ _ _ _ c.deref-4.ensures.value c.deref_mut.ensures.value (c.deref-5.ensures.value ∙ c.in_ok-reserve.ensures.items) in
    let long : length c.sweep_lives.new.lives ≡ s.lives.len =
    ap (λ (ls : List Life). length ls) swept ∙ length-lives (live s) (Sweep m) 0 s.lives.items ∙ sym s.lives.ok.0 in
    with_items_is s.lives c.sweep_lives.new.lives long ∙ swept

pub returns-clause-state : goal.returns-clause-state
returns-clause-state c =
    let s = c.args.state.now in
    let m = c.args.moment in
    let swept : c.sweep_lives.new.lives ≡ lives_from (live s) (Sweep m) 0 s.lives.items =
    c.sweep_lives.ensures
    ∙ same_world (λ js ls ss. lives_from (world js ls ss) (Sweep m) 0 ls) _ _ _ _ _ _ c.deref-4.ensures.value c.deref_mut.ensures.value (c.deref-5.ensures.value ∙ c.in_ok-reserve.ensures.items) in
    let long : length c.sweep_lives.new.lives ≡ s.lives.len =
    ap (λ (ls : List Life). length ls) swept ∙ length-lives (live s) (Sweep m) 0 s.lives.items ∙ sym s.lives.ok.0 in
    let begun = c.in_ok-begun.ensures ∙ ap₂ (λ js ls. starts_from js (number m) 0 ls) c.deref-3.ensures.value (c.swept-lives.ensures.all ∙ c.deref-2.ensures.value) in
    ap₂ (λ ls ss. world s.jobs.items ls ss) (with_items_is s.lives c.sweep_lives.new.lives long ∙ swept) (c.push_starts.ensures ∙ ap₂ (λ (xs ys : List StartedScrape). xs ++ ys) c.in_ok-reserve.ensures.items begun)
    ∙ sym (sweep_step s.jobs.items s.lives.items s.started.items m)

pub returns-clause-book : goal.returns-clause-book
returns-clause-book c =
    let s = c.args.state.now in
    c.in_ok-append_swept.ensures.book
    ∙ ap (λ (ss : List StartedScrape). c.args.book.now.entries ++ gives (world s.jobs.items s.lives.items ss) (Sweep c.args.moment)) c.in_ok-reserve.ensures.items
