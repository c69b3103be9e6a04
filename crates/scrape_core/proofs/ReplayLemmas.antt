-- A journal event by event.
use Rattle.std.proofs.Common.{◌≡◌, List, [], ◌∷◌, ◌++◌, reverse, sym, ap, subst, ◌∙◌, append_assoc}
use Rattle.std.proofs.lemmas.List.{reverse-append}
use Rattle.journal_text.specs.declared.events.Event.{Event}
use Rattle.journal_text.specs.Events.{IsJournal}
use Rattle.journal_text.proofs.JournalLemmas.{Next, next_of}

-- an event that stands next in a journal, behind those that were taken
pub next_event : (js core : List Event) (e : Event) (xs ys : List Event) → core ++ reverse xs ≡ js → xs ≡ ys ++ e ∷ [] → core ++ e ∷ reverse ys ≡ js
next_event js core e xs ys h p =
    ap (λ z. core ++ z) (sym (reverse-append ys (e ∷ []))) ∙ (ap (λ z. core ++ reverse z) (sym p) ∙ h)

pub after_next : (js core : List Event) (e : Event) (ys : List Event) → core ++ e ∷ reverse ys ≡ js → (core ++ e ∷ []) ++ reverse ys ≡ js
after_next js core e ys h = append_assoc core (e ∷ []) (reverse ys) ∙ h

pub next_fits : (js core : List Event) (e : Event) (ys : List Event) → IsJournal js → core ++ e ∷ reverse ys ≡ js → Next core e
next_fits js core e ys j h = next_of core e (reverse ys) (subst IsJournal (sym h) j)
