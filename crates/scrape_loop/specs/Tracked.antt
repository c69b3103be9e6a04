-- The sets of a scrape, and what it leaves to the life that it is of ("Staleness" of the Prometheus documentation: a series that is no longer
-- present ends, and one whose samples have timestamps of their own isn't marked, unless the job tracks it; "Configuration", scrape_config:
-- honor_timestamps, track_timestamps_staleness).
use Rattle.std.specs.Prelude.{ℕ, ℤ, ◌-◌, Bool, true, false, List, [], map, filter, length, Option, Some, None, if◌then◌else◌}
use Rattle.label_set.specs.declared.texts.Pair.{Pair}
use Rattle.outside.specs.declared.replies.Reply.{Reply}
use Rattle.rule_conf.specs.declared.conf.RuleConf.{RuleConf}
use Rattle.sample_rows.specs.declared.fault.ScrapeFault.{ScrapeFault}
use Rattle.sample_rows.specs.declared.scrape.RowRules.{RowRules}
use Rattle.sample_rows.specs.declared.scrape.Sample.{Sample}
use Rattle.sample_rows.specs.declared.scrape.Scrape.{Scrape}
use Rattle.sample_rows.specs.declared.scrape.Scrape.TheVariants.{Good, Bad}
use Rattle.sample_rows.specs.Outcomes.{outcome, forced, rows_or_fault}
use Rattle.series_cache.specs.Caches.{CacheView, kept_sets, turned, was_sets}
use Rattle.series_cache.specs.Sets.{rising}
use Rattle.scrape_loop.specs.Texts.{no_texts, texts_by}
use Rattle.scrape_loop.specs.declared.health.Health.{Health}
use Rattle.scrape_loop.specs.declared.health.Health.TheVariants.{Unknown, Up, Down}

-- what contracts see of a life's state: its number, its target's labels, whether it has the extra reports, the sets that its last counted scrape tracked,
-- all sets of its last good one, what is known of the raw texts of that one, whether a scrape of it counted, a forced one too, and whether the last
-- of these was good
pub record LifeView : Type 0 where
  pub life : ℕ
  pub target : List Pair
  pub extra : Bool
  pub tracked : List (List Pair)
  pub known : List (List Pair)
  pub cache : CacheView
  pub scraped : Bool
  pub up : Bool

-- the fault, where the scrape isn't good
abbrev pub fault_of : Scrape → Option ScrapeFault
fault_of (Good rows scraped) = None
fault_of (Bad f scraped left) = Some f

-- whether it is good
abbrev pub is_good : Scrape → Bool
is_good (Good rows scraped) = true
is_good (Bad f scraped left) = false

-- the samples of a scrape; a bad one has none
abbrev pub samples_of : Scrape → List Sample
samples_of (Good rows scraped) = rows
samples_of (Bad f scraped left) = []

-- how many rows were scraped
abbrev pub scraped_of : Scrape → ℕ
scraped_of (Good rows scraped) = scraped
scraped_of (Bad f scraped left) = scraped

-- how many rows were left
abbrev pub left_of : Scrape → ℕ
left_of (Good rows scraped) = length rows
left_of (Bad f scraped left) = left

-- the sets of some samples
abbrev pub sets_in : List Sample → List (List Pair)
sets_in samples = map (λ (r : Sample). r.set) samples

-- the sets of those by which their series are tracked
abbrev pub tracked_in : List Sample → List (List Pair)
tracked_in samples = sets_in (filter (λ (r : Sample). r.tracked) samples)

-- all sets of a scrape, each once, rising
abbrev pub all_sets : Scrape → List (List Pair)
all_sets s = rising (sets_in (samples_of s))

-- the sets that a scrape tracks: those of its samples by which their series are tracked, each once, rising
abbrev pub tracked_sets : Scrape → List (List Pair)
tracked_sets s = rising (tracked_in (samples_of s))

-- all sets of the last good scrape, after one more
abbrev pub known_after : List (List Pair) → Scrape → List (List Pair)
known_after known (Good rows scraped) = all_sets (Good rows scraped)
known_after known (Bad f scraped left) = known

-- the state of a life by its number, its target's labels, whether it has the extra reports, what is known of raw
-- texts, whether a scrape of it counted, and whether the last was good: the texts give the sets that its last counted
-- scrape tracked, and all sets of its last good one
abbrev pub life_of : ℕ → List Pair → Bool → CacheView → Bool × Bool → LifeView
life_of life target extra c (scraped, up) =
    record {
      life = life;
      target = target;
      extra = extra;
      tracked = rising (was_sets c.texts);
      known = rising (kept_sets c);
      cache = c;
      scraped = scraped;
      up = up;
    }

-- the state of a life of which nothing was scraped yet
abbrev pub fresh : ℕ → List Pair → Bool → LifeView
fresh life target extra = record { life = life; target = target; extra = extra; tracked = []; known = []; cache = no_texts; scraped = false; up = false }

-- the state of a life whose ending was taken: nothing is known of raw texts any more, and so of no sets; whether a scrape of it counted stays, and
-- whether the last was good
abbrev pub released : LifeView → LifeView
released l = record l { tracked = []; known = []; cache = no_texts }

-- the state after a scrape that counts, good or bad: it tracks what that scrape tracks
abbrev pub after_scrape : LifeView → Scrape → LifeView
after_scrape l s = record l { tracked = tracked_sets s; known = known_after l.known s; scraped = true; up = is_good s }

-- how the target of a life is, by the last scrape that counted
abbrev pub health_of : LifeView → Health
health_of l = if l.scraped then (if l.up then Up else Down) else Unknown

-- the state after a forced scrape: it tracks nothing, and what is known of raw texts stays
abbrev pub after_forced : LifeView → LifeView
after_forced l = record (after_scrape l forced) { cache = turned false l.cache }

-- what a scrape of the life's target comes to, by the job's rules, the reply and how many milliseconds it took
abbrev pub outcome_for : LifeView → RowRules → List RuleConf → Reply → ℤ → Scrape
outcome_for l rules metric reply took = outcome rules metric l.target reply took

-- what is known of raw texts, and shown, after the rows of a reply
abbrev pub texts_for : LifeView → RowRules → List RuleConf → Reply → ℤ → CacheView
texts_for l rules metric reply took = texts_by rules metric l.target l.cache (rows_or_fault rules reply took)

-- the state after a reply to a scrape of the life's target that counts
abbrev pub after_reply : LifeView → RowRules → List RuleConf → Reply → ℤ → LifeView
after_reply l rules metric reply took =
    record (after_scrape l (outcome_for l rules metric reply took)) {
      cache = turned (is_good (outcome_for l rules metric reply took)) (texts_for l rules metric reply took);
    }

-- how often the rules for samples are run: once for each raw text of the rows that isn't known
abbrev pub runs_for : LifeView → RowRules → List RuleConf → Reply → ℤ → ℕ
runs_for l rules metric reply took = length (texts_for l rules metric reply took).texts - length l.cache.texts
