-- The entries of a series, one scrape on and at the ending.
use Rattle.std.proofs.Common.{◌≡◌, ℕ, ℤ, Bool, true, not, ◌&&◌, cond, List, [], ◌∷◌, ◌++◌, Some, None, refl, sym, ap, ◌∙◌, append_assoc, append-nil}
use Rattle.label_set.specs.declared.texts.Pair.{Pair}
use Rattle.report_samples.specs.declared.entries.Entry.{Entry}
use Rattle.sample_rows.specs.declared.scrape.Scrape.{Scrape}
use Rattle.sample_rows.specs.declared.scrape.Scrape.TheVariants.{Good, Bad}
use Rattle.scrape_loop.specs.Tracked.{all_sets, is_good, known_after, tracked_sets}
use Rattle.scrape_laws.specs.Scrapes.{LifeScrape, tracks}
use Rattle.scrape_laws.specs.Markers.{samples, mark_if, series_entries}
use Rattle.scrape_laws.specs.Past.{tracked_by, known_by, ends_with}
use Rattle.scrape_laws.specs.Runs.{is_any}

pub ends_with_push : (p : LifeScrape → Bool) (b : Bool) (ss : List LifeScrape) (s : LifeScrape) → ends_with p b (ss ++ s ∷ []) ≡ p s
ends_with_push p b [] s = refl
ends_with_push p b (t ∷ ss) s = ends_with_push p (p t) ss s

pub any_push : (ss : List LifeScrape) (s : LifeScrape) → is_any (ss ++ s ∷ []) ≡ true
any_push [] s = refl
any_push (t ∷ ss) s = refl

-- what is tracked and known, one scrape on
pub tracked_push : (xs : List (List Pair)) (ss : List LifeScrape) (s : LifeScrape) → tracked_by xs (ss ++ s ∷ []) ≡ tracked_sets s.outcome
tracked_push xs [] s = refl
tracked_push xs (t ∷ ss) s = tracked_push (tracked_sets t.outcome) ss s

known_then : (xs : List (List Pair)) (s : Scrape) → cond (is_good s) (all_sets s) xs ≡ known_after xs s
known_then xs (Good rows scraped) = refl
known_then xs (Bad f scraped left) = refl

pub known_push : (xs : List (List Pair)) (ss : List LifeScrape) (s : LifeScrape) → known_by xs (ss ++ s ∷ []) ≡ known_after (known_by xs ss) s.outcome
known_push xs [] s = known_then xs s.outcome
known_push xs (t ∷ ss) s = known_push (cond (is_good t.outcome) (all_sets t.outcome) xs) ss s

-- what one scrape adds
abbrev pub tells : ℕ → List Pair → Bool → LifeScrape → List Entry
tells n x b s = samples n x s ++ mark_if n x s.moment (b && not (tracks x s))

module _ (n : ℕ) (x : List Pair) where
  three : (us bs cs ds : List Entry) → us ++ (bs ++ (cs ++ ds)) ≡ (us ++ (bs ++ cs)) ++ ds
  three us bs cs ds = ap (λ zs. us ++ zs) (sym (append_assoc bs cs ds)) ∙ sym (append_assoc us (bs ++ cs) ds)

  -- one scrape more
  pub entries_more : (b : Bool) (ss : List LifeScrape) (s : LifeScrape) → series_entries n x None b (ss ++ s ∷ []) ≡ series_entries n x None b ss ++ tells n x (ends_with (tracks x) b ss) s
  entries_more b [] s = ap (λ zs. samples n x s ++ zs) (append-nil _)
  entries_more b (t ∷ ss) s =
      ap (λ zs. samples n x t ++ (mark_if n x t.moment (b && not (tracks x t)) ++ zs)) (entries_more (tracks x t) ss s)
      ∙ three (samples n x t) (mark_if n x t.moment (b && not (tracks x t))) (series_entries n x None (tracks x t) ss) (tells n x (ends_with (tracks x) (tracks x t) ss) s)

  -- at the ending
  pub entries_ended : (m : ℤ) (b : Bool) (ss : List LifeScrape) → series_entries n x (Some m) b ss ≡ series_entries n x None b ss ++ mark_if n x m (ends_with (tracks x) b ss)
  entries_ended m b [] = refl
  entries_ended m b (t ∷ ss) =
      ap (λ zs. samples n x t ++ (mark_if n x t.moment (b && not (tracks x t)) ++ zs)) (entries_ended m (tracks x t) ss)
      ∙ three (samples n x t) (mark_if n x t.moment (b && not (tracks x t))) (series_entries n x None (tracks x t) ss) (mark_if n x m (ends_with (tracks x) (tracks x t) ss))
