-- What a core keeps beside its journal, after one more event.
use Rattle.std.proofs.Common.{◌≡◌, ℕ, ◌+◌, List, [], ◌∷◌, ◌++◌, sym, ap, ap₂, ◌∙◌}
use Rattle.journal_text.specs.declared.events.Event.{Event}
use Rattle.report_samples.specs.declared.entries.Entry.{Entry}
use Rattle.scrape_machine.specs.Machine.{step, gives, world_of, book_of}
use Rattle.scrape_machine.specs.Runs.{runs, runs_of}
use Rattle.scrape_machine.proofs.RunLemmas.{runs_of_push}
use Rattle.scrape_machine.proofs.StepLemmas.{world_push, book_of_push}
use Rattle.scrape_core.specs.declared.state.State.{State}
use Rattle.scrape_core.specs.Kept.{seen, Appends, HasFew, IsListed, IsKept}

-- where the event joins the journal, and the state, the book and the number of runs are those after it
pub kept_push : (es joined : List Event) (e : Event) (before after : State) (old new : List Entry) (ran more : ℕ) → IsKept es old before ran → joined ≡ es ++ e ∷ [] →
    seen after ≡ step (seen before) e → Appends (seen before) e old new → HasFew after → IsListed after → more ≡ runs (seen before) e → IsKept joined new after (ran + more)
kept_push es joined e before after old new ran more kept is state book few listed count = record {
  state = state ∙ ap (λ w. step w e) kept.state ∙ sym (world_push es e) ∙ ap world_of (sym is);
  book_is = book ∙ ap₂ (λ (b : List Entry) w. b ++ gives w e) kept.book_is kept.state ∙ sym (book_of_push es e) ∙ ap book_of (sym is);
  few = few;
  listed = listed;
  runs_are = ap₂ (λ m n. m + n) kept.runs_are (count ∙ ap (λ w. runs w e) kept.state) ∙ sym (runs_of_push es e) ∙ ap runs_of (sym is);
}
