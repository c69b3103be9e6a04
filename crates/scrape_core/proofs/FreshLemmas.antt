-- Journals that a run may begin with: no halt came, and no scrape was started.
use Rattle.std.proofs.Common.{◌≡◌, ℕ, ℤ, List, [], ◌∷◌, ◌++◌, Bool, true, false, refl, sym, ap, ◌∙◌, ◌||◌}
use Rattle.std.specs.List.{list_any}
use Rattle.std.proofs.lemmas.List.Folds.{list_any-append}
use Rattle.journal_text.specs.declared.events.Event.{Event}
use Rattle.journal_text.specs.declared.events.Event.TheVariants.{Load}
use Rattle.scrape_core.specs.Records.{IsFresh, is_finish, is_live, started_of}
use Rattle.scrape_core.proofs.RecordLemmas.{live_push, same_started}

-- no halt came before the first event
pub fresh_live : (es : List Event) → es ≡ [] → is_live es ≡ true
unfolding is_live
fresh_live es none = ap is_live none

-- an empty one
pub none_fresh : IsFresh []
unfolding started_of is_live
none_fresh = record { none = refl; unfinished = refl; live = refl }

-- one more load
or_none : (b : Bool) → (b || false) ≡ b
or_none true = refl
or_none false = refl

pub load_fresh : (es js : List Event) (m : ℤ) (text : List ℕ) → IsFresh es → js ≡ es ++ Load m text ∷ [] → IsFresh js
load_fresh es js m text fresh now = record {
  none = sym (same_started es js (Load m text) fresh.live now refl) ∙ fresh.none;
  unfinished = ap (list_any is_finish) now ∙ (list_any-append is_finish es (Load m text ∷ []) ∙ (or_none (list_any is_finish es) ∙ fresh.unfinished));
  live = live_push es js (Load m text) fresh.live now refl;
}
