-- Which entries of a scrape and of an ending a test takes.
use Rattle.std.proofs.Common.{◌≡◌, ℕ, ℤ, Bool, true, false, not, ◌&&◌, cond, List, [], ◌∷◌, ◌++◌, map, Option, Some, is_some, refl, sym, ap, ap₂, ◌∙◌, append-nil, eq-eqb, eqb}
use Rattle.std.specs.List.{filter}
use Rattle.std.proofs.lemmas.Bool.{true≢false}
use Rattle.std.proofs.lemmas.List.Elements.{filter-append}
use Rattle.label_set.specs.declared.texts.Pair.{Pair}
use Rattle.sample_rows.specs.declared.scrape.Scrape.{Scrape}
use Rattle.report_samples.specs.declared.closing.Closing.{Closing}
use Rattle.report_samples.specs.declared.entries.Entry.{Entry}
use Rattle.report_samples.specs.declared.scrape_reports.ExtraCounts.{ExtraCounts}
use Rattle.report_samples.specs.declared.scrape_reports.Report.{Report}
use Rattle.report_samples.specs.Markers.{stale_entry, report_marker, report_markers}
use Rattle.report_samples.specs.Reports.{report_entry, report_entries, report_order, report_value}
use Rattle.end_of_run.specs.Endings.{ending_entries, marker_moment}
use Rattle.series_cache.specs.Sets.{has, gone}
use Rattle.scrape_loop.specs.Tracked.{LifeView, samples_of, tracked_sets}
use Rattle.scrape_loop.specs.Entries.{sample_entry, sample_entries, stale_entries, entries_of, counts_of}
use Rattle.scrape_laws.specs.Scrapes.{LifeScrape, same_series, is_sample_of, tracks}
use Rattle.scrape_laws.specs.Markers.{mark_if, is_of, reports_at, is_report_marker_of}
use Rattle.scrape_laws.specs.Runs.{is_any}
use Rattle.scrape_laws.proofs.SetLemmas.{copies, one_if, copies_gone, tracks_has}
use Rattle.scrape_laws.proofs.SeriesEntries.{tells}

pub filter_map_none : {A : Type 0} (p : Entry → Bool) (f : A → Entry) (xs : List A) → ((y : A) → p (f y) ≡ false) → filter p (map f xs) ≡ []
filter_map_none p f [] h = refl
filter_map_none p f (x ∷ xs) h = ap (λ b. cond b (f x ∷ filter p (map f xs)) (filter p (map f xs))) (h x) ∙ filter_map_none p f xs h

map_step : {A : Type 0} (p : Entry → Bool) (f : A → Entry) (x : A) (xs zs : List A) (b : Bool) → p (f x) ≡ b →
    filter p (map f xs) ≡ map f zs → filter p (map f (x ∷ xs)) ≡ map f (cond b (x ∷ zs) zs)
map_step p f x xs zs true e t = ap (λ b. cond b (f x ∷ filter p (map f xs)) (filter p (map f xs))) e ∙ ap (λ es. f x ∷ es) t
map_step p f x xs zs false e t = ap (λ b. cond b (f x ∷ filter p (map f xs)) (filter p (map f xs))) e ∙ t

pub filter_map_some : {A : Type 0} (p : Entry → Bool) (f : A → Entry) (q : A → Bool) (xs : List A) → ((y : A) → p (f y) ≡ q y) →
    filter p (map f xs) ≡ map f (filter q xs)
filter_map_some p f q [] h = refl
filter_map_some p f q (x ∷ xs) h = map_step p f x xs (filter q xs) (q x) (h x) (filter_map_some p f q xs h)

-- the test leaves out all entries of life i
abbrev pub Skips : (Entry → Bool) → ℕ → Type 0
Skips p i = (e : Entry) → e.life ≡ i → p e ≡ false

abbrev report_of : LifeView → Option ExtraCounts → Scrape → ℤ → ℤ → Report → Entry
report_of st extra s m took r = report_entry st.life st.target m r (report_value (counts_of st.known extra s took) r)

pub other_scrape : (p : Entry → Bool) (st : LifeView) (extra : Option ExtraCounts) (s : Scrape) (m took : ℤ) → Skips p st.life → filter p (entries_of st extra s m took) ≡ []
other_scrape p st extra s m took e =
    filter-append p (sample_entries st s m) _
    ∙ ap₂ ◌++◌ (filter_map_none p (sample_entry st.life m) (samples_of s) (λ r. e (sample_entry st.life m r) refl))
    (filter-append p (stale_entries st s m) _
    ∙ ap₂ ◌++◌ (filter_map_none p (stale_entry st.life m) (gone st.tracked (tracked_sets s)) (λ y. e (stale_entry st.life m y) refl))
    (filter_map_none p (report_of st extra s m took) (report_order (is_some extra)) (λ r. e (report_of st extra s m took r) refl)))

other_ending_by : (p : Entry → Bool) (c : Closing) (b : Bool) → Skips p c.life →
    filter p (cond b (map (stale_entry c.life (marker_moment c)) c.tracked ++ report_markers c.life c.target c.extra (marker_moment c)) []) ≡ []
other_ending_by p c false e = refl
other_ending_by p c true e =
    filter-append p (map (stale_entry c.life (marker_moment c)) c.tracked) _
    ∙ ap₂ ◌++◌ (filter_map_none p (stale_entry c.life (marker_moment c)) c.tracked (λ y. e (stale_entry c.life (marker_moment c) y) refl))
    (filter_map_none p (report_marker c.life c.target (marker_moment c)) (report_order c.extra) (λ r. e (report_marker c.life c.target (marker_moment c) r) refl))

pub other_ending : (p : Entry → Bool) (c : Closing) → Skips p c.life → filter p (ending_entries c) ≡ []
other_ending p c e = other_ending_by p c c.scraped e

-- the samples and markers of a scrape
module _ (n : ℕ) (x : List Pair) where
  here : (b : Bool) → (eqb n n && b) ≡ b
  here b = ap (λ a. a && b) (eq-eqb n n refl)

  own_marks : (m : ℤ) (ys : List (List Pair)) (b : Bool) → copies x ys ≡ one_if x b → filter (is_of n x) (map (stale_entry n m) ys) ≡ mark_if n x m b
  own_marks m ys b h =
      filter_map_some (is_of n x) (stale_entry n m) (same_series x) ys (λ y. here (same_series x y)) ∙ (ap (map (stale_entry n m)) h ∙ by b)
    where
      by : (b : Bool) → map (stale_entry n m) (one_if x b) ≡ mark_if n x m b
      by true = refl
      by false = refl

  gone_copies : (olds news : List (List Pair)) (b q : Bool) → copies x olds ≡ one_if x b → has x news ≡ q → copies x (gone olds news) ≡ one_if x (b && not q)
  gone_copies olds news b q h e = copies_gone x olds news ∙ (ap₂ (λ a ys. cond (not a) ys []) e h ∙ by b q)
    where
      by : (b q : Bool) → cond (not q) (one_if x b) [] ≡ one_if x (b && not q)
      by true true = refl
      by true false = refl
      by false true = refl
      by false false = refl

  scrape_of_n : (st : LifeView) (extra : Option ExtraCounts) (s : LifeScrape) (took : ℤ) (b : Bool) → copies x st.tracked ≡ one_if x b →
      filter (is_of n x) (map (sample_entry n s.moment) (samples_of s.outcome)
      ++ (map (stale_entry n s.moment) (gone st.tracked (tracked_sets s.outcome)) ++ report_entries n st.target s.moment (counts_of st.known extra s.outcome took)))
      ≡ tells n x b s
  scrape_of_n st extra s took b old =
      filter-append (is_of n x) (map (sample_entry n s.moment) (samples_of s.outcome)) _
      ∙ ap₂ ◌++◌ (filter_map_some (is_of n x) (sample_entry n s.moment) (is_sample_of x) (samples_of s.outcome) (λ r. here (is_sample_of x r)))
      (filter-append (is_of n x) (map (stale_entry n s.moment) (gone st.tracked (tracked_sets s.outcome))) _
      ∙ (ap₂ ◌++◌ (own_marks s.moment (gone st.tracked (tracked_sets s.outcome)) (b && not (tracks x s))
      (gone_copies st.tracked (tracked_sets s.outcome) b (tracks x s) old (tracks_has x s)))
      (filter_map_none (is_of n x) (λ (r : Report). report_entry n st.target s.moment r (report_value (counts_of st.known extra s.outcome took) r)) (report_order (is_some extra)) (λ r. refl))
      ∙ nothing_more))
    where
      nothing_more : mark_if n x s.moment (b && not (tracks x s)) ++ [] ≡ mark_if n x s.moment (b && not (tracks x s))
      nothing_more = append-nil _

  pub own_scrape : (st : LifeView) (extra : Option ExtraCounts) (s : LifeScrape) (took : ℤ) (b : Bool) → st.life ≡ n → copies x st.tracked ≡ one_if x b →
      filter (is_of n x) (entries_of st extra s.outcome s.moment took) ≡ tells n x b s
  own_scrape st extra s took b at old =
      ap (λ i. filter (is_of n x) (map (sample_entry i s.moment) (samples_of s.outcome)
      ++ (map (stale_entry i s.moment) (gone st.tracked (tracked_sets s.outcome)) ++ report_entries i st.target s.moment (counts_of st.known extra s.outcome took)))) at
      ∙ scrape_of_n st extra s took b old

  -- those of an ending
  ending_of_n : (c : Closing) (b q : Bool) → copies x c.tracked ≡ one_if x b → (b ≡ true → q ≡ true) →
      filter (is_of n x) (cond q (map (stale_entry n (marker_moment c)) c.tracked ++ report_markers n c.target c.extra (marker_moment c)) []) ≡ mark_if n x (marker_moment c) b
  ending_of_n c true false old k = absurd (true≢false (sym (k refl)))
  ending_of_n c false false old k = refl
  ending_of_n c b true old k =
      filter-append (is_of n x) (map (stale_entry n (marker_moment c)) c.tracked) _
      ∙ (ap₂ ◌++◌ (own_marks (marker_moment c) c.tracked b old) (filter_map_none (is_of n x) (report_marker n c.target (marker_moment c)) (report_order c.extra) (λ r. refl))
      ∙ append-nil _)

  pub own_ending : (c : Closing) (b : Bool) → c.life ≡ n → copies x c.tracked ≡ one_if x b → (b ≡ true → c.scraped ≡ true) →
      filter (is_of n x) (ending_entries c) ≡ mark_if n x (marker_moment c) b
  own_ending c b at old k =
      ap (λ i. filter (is_of n x) (cond c.scraped (map (stale_entry i (marker_moment c)) c.tracked ++ report_markers i c.target c.extra (marker_moment c)) [])) at
      ∙ ending_of_n c b c.scraped old k

-- the report markers
module _ (n : ℕ) where
  pub no_reports : (st : LifeView) (extra : Option ExtraCounts) (s : Scrape) (m took : ℤ) → filter (is_report_marker_of n) (entries_of st extra s m took) ≡ []
  no_reports st extra s m took =
      filter-append (is_report_marker_of n) (sample_entries st s m) _
      ∙ ap₂ ◌++◌ (filter_map_none (is_report_marker_of n) (sample_entry st.life m) (samples_of s) (λ r. refl))
      (filter-append (is_report_marker_of n) (stale_entries st s m) _
      ∙ ap₂ ◌++◌ (filter_map_none (is_report_marker_of n) (stale_entry st.life m) (gone st.tracked (tracked_sets s)) (λ y. refl))
      (filter_map_none (is_report_marker_of n) (report_of st extra s m took) (report_order (is_some extra)) (λ r. refl)))

  all_here : (target : List Pair) (m : ℤ) (rs : List Report) → filter (is_report_marker_of n) (map (report_marker n target m) rs) ≡ map (report_marker n target m) rs
  all_here target m [] = refl
  all_here target m (r ∷ rs) =
      ap₂ (λ b zs. cond b (report_marker n target m r ∷ zs) zs) (eq-eqb n n refl) (all_here target m rs)

  reports_of_n : (c : Closing) (ss : List LifeScrape) (q : Bool) → q ≡ is_any ss →
      filter (is_report_marker_of n) (cond q (map (stale_entry n (marker_moment c)) c.tracked ++ report_markers n c.target c.extra (marker_moment c)) [])
      ≡ reports_at n c.target c.extra (Some (marker_moment c)) ss
  reports_of_n c [] true e = absurd (true≢false e)
  reports_of_n c [] false e = refl
  reports_of_n c (s ∷ ss) false e = absurd (true≢false (sym e))
  reports_of_n c (s ∷ ss) true e =
      filter-append (is_report_marker_of n) (map (stale_entry n (marker_moment c)) c.tracked) _
      ∙ ap₂ ◌++◌ (filter_map_none (is_report_marker_of n) (stale_entry n (marker_moment c)) c.tracked (λ y. refl)) (all_here c.target (marker_moment c) (report_order c.extra))

  pub own_reports : (c : Closing) (ss : List LifeScrape) → c.life ≡ n → c.scraped ≡ is_any ss →
      filter (is_report_marker_of n) (ending_entries c) ≡ reports_at n c.target c.extra (Some (marker_moment c)) ss
  own_reports c ss at e =
      ap (λ i. filter (is_report_marker_of n) (cond c.scraped (map (stale_entry i (marker_moment c)) c.tracked ++ report_markers i c.target c.extra (marker_moment c)) [])) at
      ∙ reports_of_n c ss c.scraped e
