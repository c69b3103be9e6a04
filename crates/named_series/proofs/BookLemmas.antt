-- The book of a journal.
use Rattle.std.proofs.Common.{ℕ, ◌+◌, Bool, true, false, List, [], ◌∷◌, ◌++◌, length}
use Rattle.std.specs.Prelude.{Option, Some, None, if◌then◌else◌}
use Rattle.journal_text.specs.declared.events.Event.{Event}
use Rattle.journal_text.specs.declared.events.Event.TheVariants.{Load, Targets, Tick, Sweep, Finish, Halt}
use Rattle.jobs_in_force.specs.declared.jobs.InForce.{InForce}
use Rattle.target_set.specs.declared.targets.Target.{Target}
use Rattle.scrape_machine.specs.Lives.{born, life_gives}
use Rattle.scrape_machine.specs.Machine.{World, beginning, begun, begun_with, births, book_from, book_of, born_all, gives, gives_from, lives_from, local, new_jobs, step, unheld}
use Rattle.scrape_machine.specs.declared.lives.Life.{Life}
use Rattle.named_series.specs.Named.{AreNamed}
use Rattle.named_series.proofs.SetLemmas.{entries-both}
use Rattle.named_series.proofs.LifeLemmas.{IsNamed, after-named, gives-named}

abbrev LivesNamed : List Life → Type 0
LivesNamed [] = Unit {0}
LivesNamed (l ∷ ls) = IsNamed l × LivesNamed ls

lives-both : (xs ys : List Life) → LivesNamed xs → LivesNamed ys → LivesNamed (xs ++ ys)
lives-both [] ys a b = b
lives-both (x ∷ xs) ys (h, a) b = (h, lives-both xs ys a b)

born-named : (m n : ℕ) (j : InForce) (ts : List Target) → LivesNamed (born_all m n j ts)
unfolding born
born-named m n j [] = tt
born-named m n j (t ∷ ts) = (tt, born-named m (n + 1) j ts)

births-named : (m n : ℕ) (ls : List Life) (js : List InForce) → LivesNamed (births m n ls js)
births-named m n ls [] = tt
births-named m n ls (j ∷ js) = lives-both (born_all m n j (unheld ls j)) _ (born-named m n j (unheld ls j)) (births-named m (n + length (unheld ls j)) ls js)

with-named : (m : ℕ) (ls : List Life) (o : Option (List InForce)) → LivesNamed (begun_with m ls o)
with-named m ls None = tt
with-named m ls (Some js) = births-named m (length ls) ls js

begun-named : (jobs : List InForce) (e : Event) (ls : List Life) → LivesNamed (begun jobs e ls)
begun-named jobs (Load m text) ls = with-named _ ls (new_jobs jobs (Load m text))
begun-named jobs (Targets m name file text) ls = with-named _ ls (new_jobs jobs (Targets m name file text))
begun-named jobs (Tick m k) ls = tt
begun-named jobs (Sweep m) ls = tt
begun-named jobs (Finish k took r) ls = tt
begun-named jobs (Halt m) ls = tt

from-named : (w : World) (e : Event) (n : ℕ) (ls : List Life) → LivesNamed ls → LivesNamed (lives_from w e n ls)
from-named w e n [] a = tt
from-named w e n (l ∷ ls) (h, a) = (after-named (local w e n l) l h, from-named w e (n + 1) ls a)

one-named : (b : Bool) (x y : World) → LivesNamed x.lives → LivesNamed y.lives → LivesNamed (if b then x else y).lives
one-named true x y f g = f
one-named false x y f g = g

step-named : (w : World) (e : Event) → LivesNamed w.lives → LivesNamed (step w e).lives
unfolding step
step-named w e a = one-named w.halted w _ a (lives-both (lives_from w e 0 w.lives) _ (from-named w e 0 w.lives a) (begun-named w.jobs e (lives_from w e 0 w.lives)))

given-named : (w : World) (e : Event) (n : ℕ) (ls : List Life) → LivesNamed ls → AreNamed (gives_from w e n ls)
given-named w e n [] a = tt
given-named w e n (l ∷ ls) (h, a) = entries-both (life_gives (local w e n l) l) _ (gives-named (local w e n l) l h) (given-named w e (n + 1) ls a)

event-named : (w : World) (e : Event) → LivesNamed w.lives → AreNamed (gives w e)
unfolding gives
event-named w e a = given-named w e 0 w.lives a

from : (w : World) (es : List Event) → LivesNamed w.lives → AreNamed (book_from w es)
from w [] a = tt
from w (e ∷ es) a = entries-both (gives w e) _ (event-named w e a) (from (step w e) es (step-named w e a))

pub book-named : (es : List Event) → AreNamed (book_of es)
book-named es = from beginning es tt
