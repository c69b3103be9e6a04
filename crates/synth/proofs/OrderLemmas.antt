-- The last moment of events, one more at a time.
use Rattle.std.proofs.Common.{◌≡◌, ℕ, List, [], ◌∷◌, ◌++◌, refl}
use Rattle.journal_text.specs.declared.events.Event.{Event}
use Rattle.journal_text.specs.Events.{now_from, now_of, now_after}

now_more : (now : ℕ) (es : List Event) (e : Event) → now_from now (es ++ e ∷ []) ≡ now_after (now_from now es) e
now_more now [] e = refl
now_more now (x ∷ es) e = now_more (now_after now x) es e

pub now_of-more : (es : List Event) (e : Event) → now_of (es ++ e ∷ []) ≡ now_after (now_of es) e
now_of-more es e = now_more 0 es e
