-- The last moment of a journal keeps its limit.
use Rattle.std.proofs.Common.{ℕ, ℤ, ◌<◌, ◌^◌, List, [], ◌∷◌, pos, negsuc, lit<}
use Rattle.std.specs.Prelude.{All}
use Rattle.std.proofs.lemmas.List.Elements.{All-head, All-tail}
use Rattle.journal_text.specs.declared.events.Event.{Event}
use Rattle.journal_text.specs.declared.events.Event.TheVariants.{Load, Targets, Tick, Sweep, Finish, Halt}
use Rattle.journal_text.specs.Events.{IsInLimits, IsJournal, now_after, now_from, now_of}
use Rattle.journal_text.specs.Lines.{IsMoment, number}

number_small : (m : ℤ) → IsMoment m → number m < 2 ^ 52
number_small (pos n) h = h
number_small (negsuc n) h = absurd h

after_small : (now : ℕ) (e : Event) → now < 2 ^ 52 → IsInLimits e → now_after now e < 2 ^ 52
after_small now (Load m text) h l = number_small m l.0
after_small now (Targets m job file text) h l = number_small m l.0
after_small now (Tick m k) h l = number_small m l.0
after_small now (Sweep m) h l = number_small m l
after_small now (Finish k took r) h l = h
after_small now (Halt m) h l = number_small m l

from_small : (now : ℕ) (es : List Event) → now < 2 ^ 52 → All IsInLimits es → now_from now es < 2 ^ 52
from_small now [] h all = h
from_small now (e ∷ es) h all = from_small (now_after now e) es (after_small now e h (All-head IsInLimits e es all)) (All-tail IsInLimits e es all)

pub now_small : (es : List Event) → IsJournal es → IsMoment (pos (now_of es))
now_small es j = from_small 0 es (lit< tt) j.limits
