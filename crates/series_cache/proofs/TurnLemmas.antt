-- Which sets a cache knows after a turn.
use Rattle.std.proofs.Common.{◌≡◌, ℕ, zero, suc, Bool, true, false, cond, List, [], ◌∷◌, ◌++◌, length, map, take, refl, ap, ◌∙◌, if◌then◌else◌}
use Rattle.std.specs.Option.{option_to_list}
use Rattle.label_set.specs.declared.texts.Pair.{Pair}
use Rattle.series_cache.specs.declared.known.Known.{Known}
use Rattle.series_cache.specs.Caches.{CacheView, failed, kept_sets, renewed, shown_of, shown_sets, text_sets, turned, undone, unshown}

-- a change of texts that keeps their sets
module _ (f : List ℕ × Known → List ℕ × Known) (same : (t : List ℕ × Known) → (f t).1.set ≡ t.1.set) where
  sets_kept : (ts : List (List ℕ × Known)) → text_sets (map f ts) ≡ text_sets ts
  sets_kept [] = refl
  sets_kept (t ∷ ts) = rw (same t, sets_kept ts) refl

  front_kept : (n : ℕ) (ts : List (List ℕ × Known)) → text_sets (take n (map f (take n ts))) ≡ text_sets (take n ts)
  front_kept zero ts = refl
  front_kept (suc n) [] = refl
  front_kept (suc n) (t ∷ ts) = rw (same t, front_kept n ts) refl

  all_kept : (ts : List (List ℕ × Known)) → text_sets (take (length ts) (map f ts)) ≡ text_sets ts
  all_kept [] = refl
  all_kept (t ∷ ts) = rw (same t, all_kept ts) refl

-- the sets of those that were shown
sets_shown : (ts : List (List ℕ × Known)) → text_sets (shown_of ts) ≡ shown_sets ts
sets_shown [] = refl
sets_shown (t ∷ ts) = by t.1.shown (sets_shown ts)
  where
    by : (b : Bool) → text_sets (shown_of ts) ≡ shown_sets ts → text_sets (cond b (t ∷ shown_of ts) (shown_of ts)) ≡ (if b then option_to_list t.1.set else []) ++ shown_sets ts
    by true rest = ap (λ (l : List (List Pair)). option_to_list t.1.set ++ l) rest
    by false rest = rest

-- after a good scrape the sets of the texts that it showed, and after a failed one those that were known before
pub kept_turned : (good : Bool) (c : CacheView) → kept_sets (turned good c) ≡ (if good then shown_sets c.texts else kept_sets c)
kept_turned true c = all_kept renewed (λ t. refl) (shown_of c.texts) ∙ sets_shown c.texts
kept_turned false c = front_kept failed (λ t. refl) c.kept c.texts

-- what was put and shown since the last turn changes nothing of what is known from before
pub kept_undone : (c : CacheView) → kept_sets (undone c) ≡ kept_sets c
kept_undone c = front_kept unshown (λ t. refl) c.kept c.texts

-- a failed scrape leaves the same, whether what it showed was taken back before or not
front_failed : (n : ℕ) (ts : List (List ℕ × Known)) → map failed (take n (map unshown (take n ts))) ≡ map failed (take n ts)
front_failed zero ts = refl
front_failed (suc n) [] = refl
front_failed (suc n) (t ∷ ts) = ap (λ (l : List (List ℕ × Known)). failed t ∷ l) (front_failed n ts)

pub failed_undone : (c : CacheView) → turned false (undone c) ≡ turned false c
failed_undone c = ap (λ (ts : List (List ℕ × Known)). let v : CacheView = record { texts = ts; kept = c.kept } in v) (front_failed c.kept c.texts)
