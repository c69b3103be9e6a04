-- Whole runs, and the markers of each run of a series.
use Rattle.std.proofs.Common.{◌≡◌, ℕ, ℤ, zero, suc, Bool, true, false, not, ◌&&◌, cond, List, [], ◌∷◌, ◌++◌, map, length, Option, Some, None, is_some, slice_get, refl, sym, ap, ap₂, subst, ◌∙◌, append_assoc, append-nil, one-add, eqb, eq-eqb, ne_eqb}
use Rattle.std.specs.List.{filter, flat_map}
use Rattle.std.proofs.lemmas.Bool.{true≢false, and_left, and_right}
use Rattle.std.specs.Prelude.{All}
use Rattle.std.proofs.lemmas.List.Elements.{All-head, All-tail, filter-append}
use Rattle.std.proofs.lemmas.List.Concat.{flat_map-append}
use Rattle.label_set.specs.declared.texts.Pair.{Pair}
use Rattle.journal_text.specs.declared.events.Event.{Event}
use Rattle.report_samples.specs.declared.entries.Kind.{Kind}
use Rattle.report_samples.specs.declared.entries.Kind.TheVariants as kind
use Rattle.report_samples.specs.declared.entries.Entry.{Entry}
use Rattle.report_samples.specs.Markers.{stale_entry}
use Rattle.sample_rows.specs.declared.scrape.Sample.{Sample}
use Rattle.scrape_loop.specs.Tracked.{samples_of}
use Rattle.scrape_loop.specs.Entries.{sample_entry}
use Rattle.scrape_machine.specs.declared.lives.Life.{Life}
use Rattle.scrape_machine.specs.Lives.{born, life_after}
use Rattle.scrape_machine.specs.Machine.{World, beginning, local, step, gives, run, book_from, world_of, book_of}
use Rattle.scrape_laws.specs.Scrapes.{LifeScrape, same_series, is_sample_of, tracks, scrape_at, scrapes_from, scrapes_of}
use Rattle.scrape_laws.specs.Markers.{samples, mark_if, last_mark, series_entries, ending_of, is_sample_or_marker, is_of, MarkerLaw, ending_reports, reports_at, is_report_marker, is_report_marker_of, ReportMarkerLaw}
use Rattle.scrape_laws.specs.Runs.{Run, run_of, runs_from, runs, closing_moment, is_closed, one_marker, run_marker, loose, closing_entries, run_entries, is_marker, is_marker_of, is_scraped, is_scraped_of, ClosedRunsLaw, is_any}
use Rattle.scrape_laws.specs.Past.{PastLaw}
use Rattle.scrape_laws.proofs.SetLemmas.{same_itself}
use Rattle.scrape_laws.proofs.SeriesEntries.{any_push}
use Rattle.scrape_laws.proofs.EntryLemmas.{filter_map_none, filter_map_some}
use Rattle.scrape_laws.proofs.LifeLemmas.{Knows, life_goes, state_reports}
use Rattle.scrape_laws.proofs.RightLemmas.{HasExtra, lives_extra}
use Rattle.scrape_laws.proofs.WorldLemmas.{suits, IsFresh, AreNumbered, step_numbered, at_gives, Only, gives_at, after_local, Stays, follows}

-- what the scrapes say of the life, if any
abbrev pub KnowsAt : ℕ → List Pair → List LifeScrape → Option Life → Type 0
KnowsAt n x ss None = ss ≡ []
KnowsAt n x ss (Some l) = Knows n x ss l

-- the life, if any, goes on from o to p by an event
pub record GoesAt (n : ℕ) (x : List Pair) (ss ts : List LifeScrape) (w : World) (e : Event) (o p : Option Life) : Type 0 where
  pub knows : KnowsAt n x ts p
  pub tells : series_entries n x (ending_of p) false ts ≡ series_entries n x (ending_of o) false ss ++ at_gives w e n (is_of n x) o
  pub reports : state_reports n p ts ≡ state_reports n o ss ++ at_gives w e n (is_report_marker_of n) o

fresh_goes : (n : ℕ) (x : List Pair) (w : World) (e : Event) (l : Life) → IsFresh n l → GoesAt n x [] [] w e None (Some l)
unfolding born
fresh_goes n x w e l f =
    subst (λ (z : Life). GoesAt n x [] [] w e None (Some z)) (sym f.3)
    (record {
      knows = record { named = refl; tracked = λ h. refl; before = λ h. refl; known = λ h. refl; scraped = refl; up = refl; quiet = λ h. refl; ended = λ h. refl };
      tells = refl;
      reports = refl;
    })

goes_at : (n : ℕ) (x : List Pair) (ss : List LifeScrape) (w : World) (e : Event) (o p : Option Life) → slice_get w.lives n ≡ o → Stays n (after_local w e n o) p → KnowsAt n x ss o →
    GoesAt n x ss (ss ++ scrape_at w e n o) w e o p
goes_at n x ss w e None None at s k = subst (λ zs. GoesAt n x zs (zs ++ []) w e None None) (sym k) (record { knows = refl; tells = refl; reports = refl })
goes_at n x ss w e None (Some l) at s k = subst (λ zs. GoesAt n x zs (zs ++ []) w e None (Some l)) (sym k) (fresh_goes n x w e l s)
goes_at n x ss w e (Some l) p at s k =
    let u = suits w e n l at in
    let g = life_goes n x ss l (local w e n l) u.fits k in
    subst (λ (z : Option Life). GoesAt n x ss (ss ++ scrape_at w e n (Some l)) w e (Some l) z) (sym s)
    (subst (λ ts. GoesAt n x ss (ss ++ ts) w e (Some l) (Some (life_after (local w e n l) l))) (sym u.same)
    (record { knows = g.knows; tells = g.tells; reports = g.reports }))

is_of_only : (n : ℕ) (x : List Pair) → Only (is_of n x) n
is_of_only n x e ne = and_right (is_sample_or_marker e.kind) _ (and_left (eqb e.life n) (same_series x e.series) (ne_eqb e.life n ne))

report_only : (n : ℕ) → Only (is_report_marker_of n) n
report_only n e ne = and_right (is_report_marker e.kind) _ (ne_eqb e.life n ne)

-- the entries of a series, behind one more event
module _ (n : ℕ) (p : Entry → Bool) (only : Only p n) (T : Option Life → List LifeScrape → List Entry) where
  one_on : (w : World) (e : Event) (es : List Event) (ss : List LifeScrape) → AreNumbered 0 w.lives →
      (let ts = ss ++ scrape_at w e n (slice_get w.lives n) in T (slice_get (step w e).lives n) ts ≡ T (slice_get w.lives n) ss ++ at_gives w e n p (slice_get w.lives n)) →
      (let ts = ss ++ scrape_at w e n (slice_get w.lives n) in
      T (slice_get (run (step w e) es).lives n) (ts ++ scrapes_from (step w e) n es) ≡ T (slice_get (step w e).lives n) ts ++ filter p (book_from (step w e) es)) →
      T (slice_get (run w (e ∷ es)).lives n) (ss ++ scrapes_from w n (e ∷ es)) ≡ T (slice_get w.lives n) ss ++ filter p (book_from w (e ∷ es))
  one_on w e es ss h one rest =
      ap (T (slice_get (run (step w e) es).lives n)) (sym (append_assoc ss (scrape_at w e n (slice_get w.lives n)) (scrapes_from (step w e) n es)))
      ∙ (rest
      ∙ (ap (λ zs. zs ++ filter p (book_from (step w e) es)) (one ∙ ap (λ zs. T (slice_get w.lives n) ss ++ zs) (sym (gives_at w e n p only h)))
      ∙ (append_assoc (T (slice_get w.lives n) ss) (filter p (gives w e)) (filter p (book_from (step w e) es))
      ∙ ap (λ zs. T (slice_get w.lives n) ss ++ zs) (sym (filter-append p (gives w e) (book_from (step w e) es))))))

-- a whole run
pub record RunGoes (n : ℕ) (x : List Pair) (es : List Event) (w : World) (ss : List LifeScrape) : Type 0 where
  pub tells :
      series_entries n x (ending_of (slice_get (run w es).lives n)) false (ss ++ scrapes_from w n es)
      ≡ series_entries n x (ending_of (slice_get w.lives n)) false ss ++ filter (is_of n x) (book_from w es)
  pub reports :
      state_reports n (slice_get (run w es).lives n) (ss ++ scrapes_from w n es)
      ≡ state_reports n (slice_get w.lives n) ss ++ filter (is_report_marker_of n) (book_from w es)

run_goes : (n : ℕ) (x : List Pair) (es : List Event) (w : World) (ss : List LifeScrape) → AreNumbered 0 w.lives → KnowsAt n x ss (slice_get w.lives n) → RunGoes n x es w ss
run_goes n x [] w ss h k = record {
  tells = ap (series_entries n x (ending_of (slice_get w.lives n)) false) (append-nil ss) ∙ sym (append-nil _);
  reports = ap (state_reports n (slice_get w.lives n)) (append-nil ss) ∙ sym (append-nil _);
}
run_goes n x (e ∷ es) w ss h k =
    let g = goes_at n x ss w e (slice_get w.lives n) (slice_get (step w e).lives n) refl (follows w e n) k in
    let r = run_goes n x es (step w e) (ss ++ scrape_at w e n (slice_get w.lives n)) (step_numbered w e h) g.knows in
    record {
      tells = one_on n (is_of n x) (is_of_only n x) (λ o ts. series_entries n x (ending_of o) false ts) w e es ss h g.tells r.tells;
      reports = one_on n (is_report_marker_of n) (report_only n) (state_reports n) w e es ss h g.reports r.reports;
    }

run_knows : (n : ℕ) (x : List Pair) (es : List Event) (w : World) (ss : List LifeScrape) → KnowsAt n x ss (slice_get w.lives n) →
    KnowsAt n x (ss ++ scrapes_from w n es) (slice_get (run w es).lives n)
run_knows n x [] w ss k = subst (λ zs. KnowsAt n x zs (slice_get w.lives n)) (sym (append-nil ss)) k
run_knows n x (e ∷ es) w ss k =
    let g = goes_at n x ss w e (slice_get w.lives n) (slice_get (step w e).lives n) refl (follows w e n) k in
    subst (λ zs. KnowsAt n x zs (slice_get (run (step w e) es).lives n)) (append_assoc ss (scrape_at w e n (slice_get w.lives n)) (scrapes_from (step w e) n es))
    (run_knows n x es (step w e) (ss ++ scrape_at w e n (slice_get w.lives n)) g.knows)

-- what a life keeps is what its scrapes say
pub past_law : (journal : List Event) → PastLaw journal
past_law journal n l at =
    let k : Knows n [] (scrapes_of n journal) l = subst (KnowsAt n [] (scrapes_of n journal)) at (run_knows n [] journal beginning [] refl) in
    (k.scraped, λ h. record { tracked = k.before h; known = k.known h; up = k.up })

pub marker_law : (journal : List Event) → MarkerLaw journal
marker_law journal n x = sym ((run_goes n x journal beginning [] tt refl).tells)

-- a life has the reports of its job
as_settled : (n : ℕ) (ss : List LifeScrape) (ls : List Life) (i : ℕ) → All HasExtra ls → state_reports n (slice_get ls i) ss ≡ ending_reports n (slice_get ls i) ss
as_settled n ss [] i h = refl
as_settled n ss (l ∷ ls) zero h = ap (λ b. reports_at n l.state.target b (ending_of (Some l)) ss) (All-head HasExtra l ls h)
as_settled n ss (l ∷ ls) (suc i) h = as_settled n ss ls i (All-tail HasExtra l ls h)

pub report_marker_law : (journal : List Event) → ReportMarkerLaw journal
report_marker_law journal n =
    sym ((run_goes n [] journal beginning [] tt refl).reports) ∙ as_settled n (scrapes_of n journal) (world_of journal).lives n (lives_extra journal)

-- a test that takes less
module _ (p q : Entry → Bool) (less : (y : Entry) → q y ≡ true → p y ≡ true) where
  within_step : (y : Entry) (ys : List Entry) (b c : Bool) → p y ≡ b → q y ≡ c → filter q (filter p ys) ≡ filter q ys →
      filter q (cond b (y ∷ filter p ys) (filter p ys)) ≡ cond (q y) (y ∷ filter q ys) (filter q ys)
  within_step y ys true c e f h = ap (λ zs. cond (q y) (y ∷ zs) zs) h
  within_step y ys false true e f h = absurd (true≢false (sym (less y f) ∙ e))
  within_step y ys false false e f h = h ∙ sym (ap (λ b. cond b (y ∷ filter q ys) (filter q ys)) f)

  filter_within : (ys : List Entry) → filter q (filter p ys) ≡ filter q ys
  filter_within [] = refl
  filter_within (y ∷ ys) = within_step y ys (p y) (q y) refl refl (filter_within ys)

marker_kind : (k : Kind) (b : Bool) → (is_marker k && b) ≡ true → (is_sample_or_marker k && b) ≡ true
marker_kind kind.Scraped b e = absurd (true≢false (sym e))
marker_kind kind.Stale b e = e
marker_kind kind.Report b e = absurd (true≢false (sym e))
marker_kind kind.ReportStale b e = absurd (true≢false (sym e))

scraped_kind : (k : Kind) (b : Bool) → (is_scraped k && b) ≡ true → (is_sample_or_marker k && b) ≡ true
scraped_kind kind.Scraped b e = e
scraped_kind kind.Stale b e = absurd (true≢false (sym e))
scraped_kind kind.Report b e = absurd (true≢false (sym e))
scraped_kind kind.ReportStale b e = absurd (true≢false (sym e))

module _ (n : ℕ) (x : List Pair) where
  -- the markers among the entries of a series
  marker_here : (m : ℤ) → filter (is_marker_of n x) (stale_entry n m x ∷ []) ≡ stale_entry n m x ∷ []
  marker_here m = ap₂ (λ a b. cond (a && b) (stale_entry n m x ∷ []) []) (eq-eqb n n refl) (same_itself x)

  last_marker : (e : Option ℤ) (begun : List LifeScrape) → filter (is_marker_of n x) (last_mark n x e (is_any begun)) ≡ flat_map (run_marker n x e) (run_of begun [])
  last_marker None [] = refl
  last_marker None (s ∷ ss) = refl
  last_marker (Some m) [] = refl
  last_marker (Some m) (s ∷ ss) = marker_here m

  closing_marker : (e : Option ℤ) (begun : List LifeScrape) (s : LifeScrape) (ss : List LifeScrape) →
      filter (is_marker_of n x) (mark_if n x s.moment (is_any begun && true)) ≡ flat_map (run_marker n x e) (run_of begun (s ∷ ss))
  closing_marker e [] s ss = refl
  closing_marker e (o ∷ os) s ss = marker_here s.moment

  no_marker : (m : ℤ) (b : Bool) → filter (is_marker_of n x) (mark_if n x m (b && false)) ≡ []
  no_marker m true = refl
  no_marker m false = refl

  no_samples : (s : LifeScrape) (zs : List Entry) → filter (is_marker_of n x) (samples n x s ++ zs) ≡ filter (is_marker_of n x) zs
  no_samples s zs =
      filter-append (is_marker_of n x) (samples n x s) zs
      ∙ ap (λ ys. ys ++ filter (is_marker_of n x) zs) (filter_map_none (is_marker_of n x) (sample_entry n s.moment) (filter (is_sample_of x) (samples_of s.outcome)) (λ r. refl))

  mark_step : (e : Option ℤ) (begun : List LifeScrape) (s : LifeScrape) (ss : List LifeScrape) (q : Bool) →
      (filter (is_marker_of n x) (series_entries n x e (is_any (begun ++ s ∷ [])) ss) ≡ flat_map (run_marker n x e) (runs_from (tracks x) (begun ++ s ∷ []) ss)) →
      (filter (is_marker_of n x) (series_entries n x e false ss) ≡ flat_map (run_marker n x e) (runs_from (tracks x) [] ss)) →
      filter (is_marker_of n x) (samples n x s ++ (mark_if n x s.moment (is_any begun && not q) ++ series_entries n x e q ss))
      ≡ flat_map (run_marker n x e) (cond q (runs_from (tracks x) (begun ++ s ∷ []) ss) (run_of begun (s ∷ ss) ++ runs_from (tracks x) [] ss))
  mark_step e begun s ss true go fresh =
      no_samples s _
      ∙ (filter-append (is_marker_of n x) (mark_if n x s.moment (is_any begun && false)) (series_entries n x e true ss)
      ∙ (ap (λ zs. zs ++ filter (is_marker_of n x) (series_entries n x e true ss)) (no_marker s.moment (is_any begun))
      ∙ (ap (λ b. filter (is_marker_of n x) (series_entries n x e b ss)) (sym (any_push begun s)) ∙ go)))
  mark_step e begun s ss false go fresh =
      no_samples s _
      ∙ (filter-append (is_marker_of n x) (mark_if n x s.moment (is_any begun && true)) (series_entries n x e false ss)
      ∙ (ap₂ ◌++◌ (closing_marker e begun s ss) fresh
      ∙ sym (flat_map-append (run_marker n x e) (run_of begun (s ∷ ss)) (runs_from (tracks x) [] ss))))

  marks : (e : Option ℤ) (ss begun : List LifeScrape) → filter (is_marker_of n x) (series_entries n x e (is_any begun) ss) ≡ flat_map (run_marker n x e) (runs_from (tracks x) begun ss)
  marks e [] begun = last_marker e begun
  marks e (s ∷ ss) begun = mark_step e begun s ss (tracks x s) (marks e ss (begun ++ s ∷ [])) (marks e ss [])

  -- how many they are
  count_step : (o : Option ℤ) (r : Run) (zs : List Entry) (rs : List Run) → length zs ≡ length rs → length (one_marker n x o ++ zs) ≡ length (cond (is_some o) (r ∷ rs) rs)
  count_step None r zs rs h = h
  count_step (Some m) r zs rs h = ap (λ k. suc k) h

  count : (e : Option ℤ) (rs : List Run) → length (flat_map (run_marker n x e) rs) ≡ length (filter (is_closed e) rs)
  count e [] = refl
  count e (r ∷ rs) = count_step (closing_moment e r.after) r (flat_map (run_marker n x e) rs) (filter (is_closed e) rs) (count e rs)

  -- the samples among the entries of a series
  unmarked : (m : ℤ) (b : Bool) → filter (is_scraped_of n x) (mark_if n x m b) ≡ []
  unmarked m true = refl
  unmarked m false = refl

  last_unmarked : (e : Option ℤ) (b : Bool) → filter (is_scraped_of n x) (last_mark n x e b) ≡ []
  last_unmarked None b = refl
  last_unmarked (Some m) b = unmarked m b

  twice : (rs : List Sample) → filter (is_sample_of x) (filter (is_sample_of x) rs) ≡ filter (is_sample_of x) rs
  twice [] = refl
  twice (r ∷ rs) = by (is_sample_of x r) refl (twice rs)
    where
      by : (b : Bool) → is_sample_of x r ≡ b → filter (is_sample_of x) (filter (is_sample_of x) rs) ≡ filter (is_sample_of x) rs →
          filter (is_sample_of x) (cond b (r ∷ filter (is_sample_of x) rs) (filter (is_sample_of x) rs)) ≡ cond b (r ∷ filter (is_sample_of x) rs) (filter (is_sample_of x) rs)
      by true e h = ap₂ (λ b zs. cond b (r ∷ zs) zs) e h
      by false e h = h

  all_samples : (s : LifeScrape) → filter (is_scraped_of n x) (samples n x s) ≡ samples n x s
  all_samples s =
      filter_map_some (is_scraped_of n x) (sample_entry n s.moment) (is_sample_of x) (filter (is_sample_of x) (samples_of s.outcome))
      (λ r. ap (λ b. b && is_sample_of x r) (eq-eqb n n refl))
      ∙ ap (map (sample_entry n s.moment)) (twice (samples_of s.outcome))

  scraped : (e : Option ℤ) (b : Bool) (ss : List LifeScrape) → filter (is_scraped_of n x) (series_entries n x e b ss) ≡ flat_map (samples n x) ss
  scraped e b [] = last_unmarked e b
  scraped e b (s ∷ ss) =
      filter-append (is_scraped_of n x) (samples n x s) (mark_if n x s.moment (b && not (tracks x s)) ++ series_entries n x e (tracks x s) ss)
      ∙ ap₂ ◌++◌ (all_samples s)
      (filter-append (is_scraped_of n x) (mark_if n x s.moment (b && not (tracks x s))) (series_entries n x e (tracks x s) ss)
      ∙ ap₂ ◌++◌ (unmarked s.moment (b && not (tracks x s))) (scraped e (tracks x s) ss))

-- run by run
module _ (n : ℕ) (x : List Pair) where
  abbrev all_of : List LifeScrape → List Entry
  all_of ss = flat_map (samples n x) ss

  -- the samples before the first run, unless one is begun
  abbrev before_runs : Bool → List LifeScrape → List Entry
  before_runs b ss = cond b [] (all_of (loose x ss))

  loose_yes : (s : LifeScrape) (ss : List LifeScrape) → tracks x s ≡ true → loose x (s ∷ ss) ≡ []
  loose_yes s ss t = rw t refl

  loose_no : (s : LifeScrape) (ss : List LifeScrape) → tracks x s ≡ false → loose x (s ∷ ss) ≡ s ∷ loose x ss
  loose_no s ss t = rw (t, one-add) refl

  all_push : (begun : List LifeScrape) (s : LifeScrape) → all_of (begun ++ s ∷ []) ≡ all_of begun ++ samples n x s
  all_push begun s = flat_map-append (samples n x) begun (s ∷ []) ∙ ap (λ zs. all_of begun ++ zs) (append-nil (samples n x s))

  last_one : (e : Option ℤ) → last_mark n x e true ≡ one_marker n x e
  last_one None = refl
  last_one (Some m) = refl

  no_last : (e : Option ℤ) → last_mark n x e false ≡ []
  no_last None = refl
  no_last (Some m) = refl

  no_mark : (m : ℤ) (b : Bool) → mark_if n x m (b && false) ≡ []
  no_mark m true = refl
  no_mark m false = refl

  at_end : (e : Option ℤ) (begun : List LifeScrape) →
      all_of begun ++ last_mark n x e (is_any begun) ≡ before_runs (is_any begun) [] ++ flat_map (run_entries n x e) (run_of begun [])
  at_end e [] = no_last e
  at_end e (o ∷ os) = ap (λ zs. all_of (o ∷ os) ++ zs) (last_one e) ∙ sym (append-nil _)

  step_yes : (e : Option ℤ) (begun : List LifeScrape) (s : LifeScrape) (ss : List LifeScrape) → tracks x s ≡ true →
      (all_of (begun ++ s ∷ []) ++ series_entries n x e (is_any (begun ++ s ∷ [])) ss
      ≡ before_runs (is_any (begun ++ s ∷ [])) ss ++ flat_map (run_entries n x e) (runs_from (tracks x) (begun ++ s ∷ []) ss)) →
      all_of begun ++ (samples n x s ++ (mark_if n x s.moment (is_any begun && false) ++ series_entries n x e true ss))
      ≡ before_runs (is_any begun) (s ∷ ss) ++ flat_map (run_entries n x e) (runs_from (tracks x) (begun ++ s ∷ []) ss)
  step_yes e begun s ss t go =
      ap (λ zs. all_of begun ++ (samples n x s ++ (zs ++ series_entries n x e true ss))) (no_mark s.moment (is_any begun))
      ∙ (sym (append_assoc (all_of begun) (samples n x s) (series_entries n x e true ss))
      ∙ (ap₂ (λ zs b. zs ++ series_entries n x e b ss) (sym (all_push begun s)) (sym (any_push begun s))
      ∙ (go
      ∙ ap (λ zs. zs ++ flat_map (run_entries n x e) (runs_from (tracks x) (begun ++ s ∷ []) ss))
      (ap (λ b. before_runs b ss) (any_push begun s) ∙ sym (ap (λ zs. cond (is_any begun) [] (all_of zs)) (loose_yes s ss t) ∙ none (is_any begun))))))
    where
      none : (b : Bool) → (let zs : List Entry = [] in cond b zs zs) ≡ []
      none true = refl
      none false = refl

  step_no : (e : Option ℤ) (begun : List LifeScrape) (s : LifeScrape) (ss : List LifeScrape) → tracks x s ≡ false →
      (series_entries n x e false ss ≡ all_of (loose x ss) ++ flat_map (run_entries n x e) (runs_from (tracks x) [] ss)) →
      all_of begun ++ (samples n x s ++ (mark_if n x s.moment (is_any begun && true) ++ series_entries n x e false ss))
      ≡ before_runs (is_any begun) (s ∷ ss) ++ flat_map (run_entries n x e) (run_of begun (s ∷ ss) ++ runs_from (tracks x) [] ss)
  step_no e [] s ss t fresh =
      ap (λ zs. samples n x s ++ zs) fresh
      ∙ (sym (append_assoc (samples n x s) (all_of (loose x ss)) (flat_map (run_entries n x e) (runs_from (tracks x) [] ss)))
      ∙ sym (ap (λ zs. all_of zs ++ flat_map (run_entries n x e) (runs_from (tracks x) [] ss)) (loose_no s ss t)))
  step_no e (o ∷ os) s ss t fresh =
      ap (λ zs. all_of (o ∷ os) ++ (samples n x s ++ (stale_entry n s.moment x ∷ zs))) fresh
      ∙ (ap (λ zs. all_of (o ∷ os) ++ zs) (sym (append_assoc (samples n x s) (stale_entry n s.moment x ∷ all_of (loose x ss)) (flat_map (run_entries n x e) (runs_from (tracks x) [] ss))))
      ∙ (sym (append_assoc (all_of (o ∷ os)) (samples n x s ++ (stale_entry n s.moment x ∷ all_of (loose x ss))) (flat_map (run_entries n x e) (runs_from (tracks x) [] ss)))
      ∙ sym (ap (λ zs. (all_of (o ∷ os) ++ closing_entries n x e zs) ++ flat_map (run_entries n x e) (runs_from (tracks x) [] ss)) (loose_no s ss t))))

  run_step : (e : Option ℤ) (begun : List LifeScrape) (s : LifeScrape) (ss : List LifeScrape) (q : Bool) → tracks x s ≡ q →
      (all_of (begun ++ s ∷ []) ++ series_entries n x e (is_any (begun ++ s ∷ [])) ss
      ≡ before_runs (is_any (begun ++ s ∷ [])) ss ++ flat_map (run_entries n x e) (runs_from (tracks x) (begun ++ s ∷ []) ss)) →
      (series_entries n x e false ss ≡ all_of (loose x ss) ++ flat_map (run_entries n x e) (runs_from (tracks x) [] ss)) →
      all_of begun ++ (samples n x s ++ (mark_if n x s.moment (is_any begun && not q) ++ series_entries n x e q ss))
      ≡ before_runs (is_any begun) (s ∷ ss) ++ flat_map (run_entries n x e) (cond q (runs_from (tracks x) (begun ++ s ∷ []) ss) (run_of begun (s ∷ ss) ++ runs_from (tracks x) [] ss))
  run_step e begun s ss true t go fresh = step_yes e begun s ss t go
  run_step e begun s ss false t go fresh = step_no e begun s ss t fresh

  run_by_run : (e : Option ℤ) (ss begun : List LifeScrape) →
      all_of begun ++ series_entries n x e (is_any begun) ss ≡ before_runs (is_any begun) ss ++ flat_map (run_entries n x e) (runs_from (tracks x) begun ss)
  run_by_run e [] begun = at_end e begun
  run_by_run e (s ∷ ss) begun = run_step e begun s ss (tracks x s) refl (run_by_run e ss (begun ++ s ∷ [])) (run_by_run e ss [])

pub closed_runs_law : (journal : List Event) (n : ℕ) (x : List Pair) → ClosedRunsLaw journal n x
closed_runs_law journal n x =
    let end = ending_of (slice_get (world_of journal).lives n) in
    let law = marker_law journal n x in
    let all : filter (is_marker_of n x) (book_of journal) ≡ flat_map (run_marker n x end) (runs x (scrapes_of n journal)) =
    sym (filter_within (is_of n x) (is_marker_of n x) (λ y h. marker_kind y.kind _ h) (book_of journal))
    ∙ (ap (filter (is_marker_of n x)) law ∙ marks n x end (scrapes_of n journal) []) in
    record {
      entries = law ∙ run_by_run n x end (scrapes_of n journal) [];
      markers = all;
      count = ap length all ∙ count n x end (runs x (scrapes_of n journal));
      scraped = sym (filter_within (is_of n x) (is_scraped_of n x) (λ y h. scraped_kind y.kind _ h) (book_of journal))
          ∙ (ap (filter (is_scraped_of n x)) law ∙ scraped n x end false (scrapes_of n journal));
    }
