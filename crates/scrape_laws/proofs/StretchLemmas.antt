-- Runs are maximal stretches.
use Rattle.std.proofs.Common.{◌≡◌, Bool, true, false, cond, List, [], ◌∷◌, ◌++◌, refl, sym, ap, ap₂, ◌∙◌, append_assoc, append-nil}
use Rattle.std.specs.List.{filter, flat_map, All}
use Rattle.std.proofs.lemmas.List.Elements.{filter-append, All-nil, All-cons, All-append}
use Rattle.std.proofs.lemmas.List.Concat.{flat_map-append}
use Rattle.label_set.specs.declared.texts.Pair.{Pair}
use Rattle.scrape_laws.specs.Scrapes.{LifeScrape, tracks}
use Rattle.scrape_laws.specs.Runs.{Run, run_of, runs_from, ends_without, begins_without, IsRun, RunsLaw}

without_push : (p : LifeScrape → Bool) (ss : List LifeScrape) (s : LifeScrape) → p s ≡ false → ends_without p (ss ++ s ∷ [])
without_push p [] s e = e
without_push p (t ∷ []) s e = e
without_push p (t ∷ u ∷ ss) s e = without_push p (u ∷ ss) s e

filter_push : (p : LifeScrape → Bool) (ss : List LifeScrape) (s : LifeScrape) → filter p ss ≡ ss → p s ≡ true → filter p (ss ++ s ∷ []) ≡ ss ++ s ∷ []
filter_push p ss s h e = filter-append p ss (s ∷ []) ∙ ap₂ ◌++◌ h (ap (λ b. cond b (s ∷ []) []) e)

run_is : (p : LifeScrape → Bool) (all before begun after : List LifeScrape) → all ≡ before ++ (begun ++ after) → filter p begun ≡ begun → ends_without p before →
    begins_without p after → All (IsRun p all) (run_of begun after)
run_is p all before [] after w e l r = All-nil (IsRun p all)
run_is p all before (o ∷ os) after w e l r =
    All-cons (IsRun p all) _ [] (record { before = before; whole = w; some = refl; each = e; left = l; right = r }) (All-nil (IsRun p all))

max_step : (p : LifeScrape → Bool) (all before begun : List LifeScrape) (s : LifeScrape) (ss : List LifeScrape) (b : Bool) → p s ≡ b →
    all ≡ before ++ (begun ++ s ∷ ss) → filter p begun ≡ begun → ends_without p before →
    ((c d : List LifeScrape) → all ≡ c ++ (d ++ ss) → filter p d ≡ d → ends_without p c → All (IsRun p all) (runs_from p d ss)) →
    All (IsRun p all) (cond b (runs_from p (begun ++ s ∷ []) ss) (run_of begun (s ∷ ss) ++ runs_from p [] ss))
max_step p all before begun s ss true h w e l next =
    next before (begun ++ s ∷ []) (w ∙ ap (λ z. before ++ z) (sym (append_assoc begun (s ∷ []) ss))) (filter_push p begun s e h) l
max_step p all before begun s ss false h w e l next =
    All-append (IsRun p all) (run_of begun (s ∷ ss)) (runs_from p [] ss) (run_is p all before begun (s ∷ ss) w e l h)
    (next ((before ++ begun) ++ s ∷ []) [] (w ∙ (sym (append_assoc before begun (s ∷ ss)) ∙ sym (append_assoc (before ++ begun) (s ∷ []) ss))) refl
    (without_push p (before ++ begun) s h))

runs_max : (p : LifeScrape → Bool) (all rest before begun : List LifeScrape) → all ≡ before ++ (begun ++ rest) → filter p begun ≡ begun → ends_without p before →
    All (IsRun p all) (runs_from p begun rest)
runs_max p all [] before begun w e l = run_is p all before begun [] w e l tt
runs_max p all (s ∷ ss) before begun w e l = max_step p all before begun s ss (p s) refl w e l (runs_max p all ss)

run_scrapes : (begun after : List LifeScrape) → flat_map (λ (r : Run). r.scrapes) (run_of begun after) ≡ begun
run_scrapes [] after = refl
run_scrapes (o ∷ os) after = append-nil _

all_step : (p : LifeScrape → Bool) (begun : List LifeScrape) (s : LifeScrape) (ss : List LifeScrape) (b : Bool) → p s ≡ b →
    ((d : List LifeScrape) → flat_map (λ (r : Run). r.scrapes) (runs_from p d ss) ≡ d ++ filter p ss) →
    flat_map (λ (r : Run). r.scrapes) (cond b (runs_from p (begun ++ s ∷ []) ss) (run_of begun (s ∷ ss) ++ runs_from p [] ss)) ≡ begun ++ cond b (s ∷ filter p ss) (filter p ss)
all_step p begun s ss true h next = next (begun ++ s ∷ []) ∙ append_assoc begun (s ∷ []) (filter p ss)
all_step p begun s ss false h next =
    flat_map-append (λ (r : Run). r.scrapes) (run_of begun (s ∷ ss)) (runs_from p [] ss) ∙ ap₂ ◌++◌ (run_scrapes begun (s ∷ ss)) (next [])

runs_all : (p : LifeScrape → Bool) (rest begun : List LifeScrape) → flat_map (λ (r : Run). r.scrapes) (runs_from p begun rest) ≡ begun ++ filter p rest
runs_all p [] begun = run_scrapes begun [] ∙ sym (append-nil begun)
runs_all p (s ∷ ss) begun = all_step p begun s ss (p s) refl (runs_all p ss)

pub runs_law : (x : List Pair) (scrapes : List LifeScrape) → RunsLaw x scrapes
runs_law x scrapes = record { maximal = runs_max (tracks x) scrapes scrapes [] [] refl refl tt; all = runs_all (tracks x) scrapes [] }
