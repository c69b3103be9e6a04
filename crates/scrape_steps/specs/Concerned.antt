-- The lives that an event concerns: a load, an update or a tick those that are open, and a sweep also the closed ones whose ending it takes. Whatever
-- comes, a life that an event doesn't concern gives nothing by it and stays as it is.
use Rattle.std.specs.Prelude.{ℕ, ℤ, zero, suc, ◌+◌, Bool, ◌||◌, List, [], ◌∷◌, filter, slice_get, Option, Some, None, if◌then◌else◌}
use Rattle.journal_text.specs.Lines.{number}
use Rattle.scrape_steps.specs.declared.acts.Transition.{Transition}
use Rattle.scrape_steps.specs.declared.acts.Transition.TheVariants.{Stays}
use Rattle.scrape_steps.specs.Scans.{is_open_life}
use Rattle.scrape_machine.specs.declared.lives.Life.{Life}
use Rattle.scrape_machine.specs.Lives.{is_open, ends}

-- a sweep at a moment concerns a life, or, without a moment, a load does
abbrev pub concerns : Option ℤ → Life → Bool
concerns None l = is_open l
concerns (Some m) l = is_open l || ends (number m) l

-- the places of the lives that pass a test, rising, where the first of all has place n
abbrev pub places_where : (Life → Bool) → ℕ → List Life → List ℕ
places_where p n [] = []
places_where p n (l ∷ ls) = if p l then n ∷ places_where p (n + 1) ls else places_where p (n + 1) ls

-- what contracts see of lives that are borrowed with the places of those that an event concerns
pub record LivesView : Type 0 where
  pub all : List Life
  pub moment : Option ℤ

-- those that it concerns, and their places
abbrev pub concerned : LivesView → List Life
concerned v = filter (concerns v.moment) v.all

abbrev pub places : LivesView → List ℕ
places v = places_where (concerns v.moment) 0 v.all

-- at a place is an open life
abbrev pub is_open_place : List Life → ℕ → Bool
is_open_place ls n = is_open_life (slice_get ls n)

-- what becomes of all lives, by what becomes of those that pass a test: the others stay as they are
abbrev pub all_transitions : (Life → Bool) → List Transition → List Life → List Transition
all_transitions p fs [] = []
all_transitions p [] (l ∷ ls) = Stays ∷ all_transitions p [] ls
all_transitions p (f ∷ fs) (l ∷ ls) = if p l then f ∷ all_transitions p fs ls else Stays ∷ all_transitions p (f ∷ fs) ls

-- the lives after a change of the one at a place
abbrev pub changed_at : ℕ → (Life → Life) → List Life → List Life
changed_at p change [] = []
changed_at zero change (l ∷ ls) = change l ∷ ls
changed_at (suc p) change (l ∷ ls) = l ∷ changed_at p change ls
