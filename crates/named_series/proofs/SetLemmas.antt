-- Sets that have metric names, one after another.
use Rattle.std.proofs.Common.{◌≡◌, ℕ, ℤ, Bool, true, false, List, [], ◌∷◌, ◌++◌, map, filter, refl}
use Rattle.std.specs.Prelude.{if◌then◌else◌, ◌||◌}
use Rattle.std.specs.List.{list_any}
use Rattle.std.specs.Ordering.{match_ordering}
use Rattle.std.specs.declared.cmp.Ordering.{Ordering}
use Rattle.std.specs.declared.cmp.Ordering.TheVariants.{Less, Equal, Greater}
use Rattle.std.specs.BTreeSet.{insert_key}
use Rattle.std.specs.Str.{bytes_eq}
use Rattle.label_set.specs.SetText.{metric_label}
use Rattle.label_set.specs.Sets.{above, below, set_cmp, with_label}
use Rattle.label_set.specs.declared.texts.Pair.{Pair}
use Rattle.report_samples.specs.declared.entries.Entry.{Entry}
use Rattle.report_samples.specs.declared.scrape_reports.Report.{Report}
use Rattle.report_samples.specs.declared.scrape_reports.Report.TheVariants.{Up, Duration, Scraped, Left, Added, Timeout, SampleLimit, BodySize}
use Rattle.report_samples.specs.declared.scrape_reports.ReportCounts.{ReportCounts}
use Rattle.report_samples.specs.Markers.{report_marker, stale_entry}
use Rattle.report_samples.specs.Reports.{report_entry, report_set, report_value}
use Rattle.sample_rows.specs.declared.scrape.Sample.{Sample}
use Rattle.series_cache.specs.Sets.{gone, rising}
use Rattle.scrape_loop.specs.Entries.{sample_entry}
use Rattle.scrape_loop.specs.Tracked.{sets_in, tracked_in}
use Rattle.named_series.specs.Named.{AreNamed, HasName}

-- each of some sets has a name, and that of each of some samples
abbrev pub SetsNamed : List (List Pair) → Type 0
SetsNamed [] = Unit {0}
SetsNamed (x ∷ xs) = HasName x × SetsNamed xs

abbrev pub SamplesNamed : List Sample → Type 0
SamplesNamed [] = Unit {0}
SamplesNamed (r ∷ rs) = HasName r.set × SamplesNamed rs

pub entries-both : (xs ys : List Entry) → AreNamed xs → AreNamed ys → AreNamed (xs ++ ys)
entries-both [] ys a b = b
entries-both (x ∷ xs) ys (h, a) b = (h, entries-both xs ys a b)

pub samples-named : (life : ℕ) (m : ℤ) (rs : List Sample) → SamplesNamed rs → AreNamed (map (sample_entry life m) rs)
samples-named life m [] a = tt
samples-named life m (r ∷ rs) (h, a) = (h, samples-named life m rs a)

pub markers-named : (life : ℕ) (m : ℤ) (xs : List (List Pair)) → SetsNamed xs → AreNamed (map (stale_entry life m) xs)
markers-named life m [] a = tt
markers-named life m (x ∷ xs) (h, a) = (h, markers-named life m xs a)

-- a set with a label of the name has it
any-right : (f : Pair → Bool) (xs ys : List Pair) → list_any f ys ≡ true → list_any f (xs ++ ys) ≡ true
any-right f [] ys e = e
any-right f (x ∷ xs) ys e = by (f x) (any-right f xs ys e)
  where
    by : (b : Bool) → list_any f (xs ++ ys) ≡ true → (b || list_any f (xs ++ ys)) ≡ true
    by true r = refl
    by false r = r

with-name : (ps : List Pair) (b : ℕ) (bs : List ℕ) → HasName (with_label ps metric_label (b ∷ bs))
with-name ps b bs = any-right (λ (p : Pair). bytes_eq p.name metric_label) (below metric_label ps) (record { name = metric_label; value = b ∷ bs } ∷ above metric_label ps) refl

report-named : (target : List Pair) (r : Report) → HasName (report_set target r)
report-named target Up = with-name target _ _
report-named target Duration = with-name target _ _
report-named target Scraped = with-name target _ _
report-named target Left = with-name target _ _
report-named target Added = with-name target _ _
report-named target Timeout = with-name target _ _
report-named target SampleLimit = with-name target _ _
report-named target BodySize = with-name target _ _

pub reports-named : (life : ℕ) (target : List Pair) (m : ℤ) (c : ReportCounts) (order : List Report) → AreNamed (map (λ (r : Report). report_entry life target m r (report_value c r)) order)
reports-named life target m c [] = tt
reports-named life target m c (r ∷ order) = (report-named target r, reports-named life target m c order)

pub report-markers-named : (life : ℕ) (target : List Pair) (m : ℤ) (order : List Report) → AreNamed (map (report_marker life target m) order)
report-markers-named life target m [] = tt
report-markers-named life target m (r ∷ order) = (report-named target r, report-markers-named life target m order)

-- sets that are sorted, and some of sets
inserted : (xs : List (List Pair)) (k : List Pair) → SetsNamed xs → HasName k → SetsNamed (insert_key set_cmp xs k)
inserted [] k a h = (h, tt)
inserted (x ∷ xs) k a h = by (set_cmp k x) (inserted xs k a.1 h)
  where
    by : (o : Ordering) → SetsNamed (insert_key set_cmp xs k) → SetsNamed (match_ordering o (k ∷ x ∷ xs) (x ∷ xs) (x ∷ insert_key set_cmp xs k))
    by Less r = (h, a)
    by Equal r = a
    by Greater r = (a.0, r)

pub rising-named : (xs : List (List Pair)) → SetsNamed xs → SetsNamed (rising xs)
rising-named [] a = tt
rising-named (x ∷ xs) (h, a) = inserted (rising xs) x (rising-named xs a) h

some-named : (f : List Pair → Bool) (xs : List (List Pair)) → SetsNamed xs → SetsNamed (filter f xs)
some-named f [] a = tt
some-named f (x ∷ xs) (h, a) = by (f x) (some-named f xs a)
  where
    by : (b : Bool) → SetsNamed (filter f xs) → SetsNamed (if b then x ∷ filter f xs else filter f xs)
    by true r = (h, r)
    by false r = r

pub gone-named : (olds news : List (List Pair)) → SetsNamed olds → SetsNamed (gone olds news)
gone-named olds news a = some-named _ olds a

pub tracked-named : (rs : List Sample) → SamplesNamed rs → SetsNamed (tracked_in rs)
tracked-named [] a = tt
tracked-named (r ∷ rs) (h, a) = by r.tracked (tracked-named rs a)
  where
    by : (b : Bool) → SetsNamed (tracked_in rs) → SetsNamed (sets_in (if b then r ∷ filter (λ (s : Sample). s.tracked) rs else filter (λ (s : Sample). s.tracked) rs))
    by true n = (h, n)
    by false n = n
