-- The past law: what a life keeps from one scrape to the next, in words of the scrapes that counted before.
use Rattle.std.specs.Prelude.{◌≡◌, ℕ, Bool, false, List, [], ◌∷◌, slice_get, Some, if◌then◌else◌}
use Rattle.label_set.specs.declared.texts.Pair.{Pair}
use Rattle.journal_text.specs.declared.events.Event.{Event}
use Rattle.scrape_loop.specs.Tracked.{all_sets, is_good, tracked_sets}
use Rattle.scrape_machine.specs.declared.lives.Life.{Life}
use Rattle.scrape_machine.specs.Machine.{world_of}
use Rattle.scrape_laws.specs.Runs.{is_any}
use Rattle.scrape_laws.specs.Scrapes.{LifeScrape, scrapes_of}

-- the sets that the last of some scrapes tracks; these, where there is none
abbrev pub tracked_by : List (List Pair) → List LifeScrape → List (List Pair)
tracked_by xs [] = xs
tracked_by xs (s ∷ ss) = tracked_by (tracked_sets s.outcome) ss

-- all sets of the last good one; these, where there is none
abbrev pub known_by : List (List Pair) → List LifeScrape → List (List Pair)
known_by xs [] = xs
known_by xs (s ∷ ss) = known_by (if is_good s.outcome then all_sets s.outcome else xs) ss

-- the last of some passes a test, or there is none and b
abbrev pub ends_with : (LifeScrape → Bool) → Bool → List LifeScrape → Bool
ends_with p b [] = b
ends_with p b (s ∷ ss) = ends_with p (p s) ss

abbrev pub was_good : LifeScrape → Bool
was_good s = is_good s.outcome

-- a life tracks what the last of these scrapes tracks, knows all sets of the last good one, and whether the last was good
pub record IsPast (l : Life) (scrapes : List LifeScrape) : Type 0 where
  pub tracked : l.state.tracked ≡ tracked_by [] scrapes
  pub known : l.state.known ≡ known_by [] scrapes
  pub up : l.state.up ≡ ends_with was_good false scrapes

-- each life of a journal does so until its ending was taken, and knows whether a scrape of it counted
abbrev pub PastLaw : List Event → Type 0
PastLaw journal = (n : ℕ) (l : Life) → slice_get (world_of journal).lives n ≡ Some l →
    (l.state.scraped ≡ is_any (scrapes_of n journal)) × (l.ended ≡ false → IsPast l (scrapes_of n journal))
