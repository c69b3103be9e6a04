-- A view that stands for the book of a journal.
use Rattle.std.proofs.Common.{◌≡◌, List, [], ◌∷◌, ◌++◌, subst, sym, ap, ◌∙◌}
use Rattle.std.specs.Prelude.{Result, Ok, Err, OnOk, OnErr}
use Rattle.instant_view.specs.Views.{StandsFor, ViewOf, ViewsStand}
use Rattle.journal_text.specs.declared.events.Event.{Event}
use Rattle.scrape_machine.specs.Machine.{book_of, gives, world_of}
use Rattle.scrape_machine.proofs.StepLemmas.{book_of_push}

-- it stands for the one after an event, where that was taken, and else for the same one
pub stands-taken : {A E : Type 0} (r : Result A E) (law : ViewsStand) (v : ViewOf) (es fs : List Event) (e : Event) → OnOk r (fs ≡ es ++ e ∷ []) → OnErr r (fs ≡ es) →
    StandsFor v (book_of es) → StandsFor v (book_of fs)
stands-taken (Ok x) law v es fs e o n s = subst (StandsFor v) (sym (ap book_of o ∙ book_of_push es e)) (law v (book_of es) (gives (world_of es) e) s)
stands-taken (Err x) law v es fs e o n s = subst (λ (js : List Event). StandsFor v (book_of js)) (sym n) s
