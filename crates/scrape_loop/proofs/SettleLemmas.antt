-- What a scrape shows, and what it leaves for the next.
use Rattle.std.proofs.Common.{◌≡◌, ℕ, ℤ, Bool, true, false, ◌||◌, if◌then◌else◌, List, [], length, take, Option, None, Some, is_some, refl, sym, ap, ap₂, subst, subst₂, ◌∙◌}
use Rattle.std.specs.Prelude.{Result, Ok, Err}
use Rattle.label_set.specs.declared.texts.Pair.{Pair}
use Rattle.outside.specs.declared.replies.Reply.{Reply}
use Rattle.rule_conf.specs.declared.conf.RuleConf.{RuleConf}
use Rattle.label_set.specs.declared.forms.Form.{Form}
use Rattle.expo_reader.specs.Bodies.{reading}
use Rattle.expo_reader.specs.declared.rows.BodyRow.{BodyRow}
use Rattle.report_samples.specs.declared.scrape_reports.ExtraCounts.{ExtraCounts}
use Rattle.sample_rows.specs.Outcomes.{body_of, form_of, judged, of_early, outcome, rows_or_fault}
use Rattle.sample_rows.specs.Rows.{left_from, is_tracked, rows_fault, samples_of}
use Rattle.sample_rows.specs.declared.fault.ScrapeFault.{ScrapeFault}
use Rattle.sample_rows.specs.declared.scrape.RowRules.{RowRules}
use Rattle.sample_rows.specs.declared.scrape.Scrape.{Scrape}
use Rattle.sample_rows.specs.declared.scrape.Scrape.TheVariants.{Good, Bad}
use Rattle.series_cache.specs.Caches.{CacheView, kept_sets, now_sets, shown_sets, turned, undone, unshown, was_sets}
use Rattle.series_cache.specs.Sets.{gone, has, rising}
use Rattle.series_cache.specs.declared.known.Known.{Known}
use Rattle.series_cache.proofs.CacheLemmas.{none_counts}
use Rattle.series_cache.proofs.MemberLemmas.{gone_alike, has_rising, rising_alike}
use Rattle.series_cache.proofs.TurnLemmas.{failed_undone, kept_turned, kept_undone}
use Rattle.scrape_loop.specs.Entries.{added_count, entries_of}
use Rattle.scrape_loop.specs.Shown.{Shows}
use Rattle.scrape_loop.specs.Texts.{AreRight, IsAtRest, texts_by}
use Rattle.scrape_loop.specs.Tracked.{LifeView, all_sets, fault_of, is_good, known_after, life_of, sets_in, tracked_in, tracked_sets}
use Rattle.scrape_loop.specs.Tracked.{samples_of as samples_in}
use Rattle.scrape_loop.proofs.RightLemmas.{read_rows, rows_tell}
use Rattle.scrape_loop.proofs.ShownLemmas.{rows_have, sets_left, tracked_left, was_shown}

-- nothing is shown of texts after it was taken back
none_tracked : (c : CacheView) → IsAtRest c → now_sets c.texts ≡ []
none_tracked c rest = ap (λ (v : CacheView). now_sets v.texts) (sym rest) ∙ none_counts (λ (k : Known). k.tracked) unshown (λ t. refl) (take c.kept c.texts)

none_shown : (c : CacheView) → IsAtRest c → shown_sets c.texts ≡ []
none_shown c rest = ap (λ (v : CacheView). shown_sets v.texts) (sym rest) ∙ none_counts (λ (k : Known). k.shown) unshown (λ t. refl) (take c.kept c.texts)

-- as it should be of a scrape that isn't good
pub bad_shows : (c : CacheView) (s : Scrape) → IsAtRest c → is_good s ≡ false → Shows c s
bad_shows c (Good rows scraped) rest e = absurd cc
bad_shows c (Bad f scraped left) rest e = record { tracked = λ x. ap (has x) (none_tracked c rest); all = λ x. ap (has x) (none_shown c rest) }

or_true : (b : Bool) → true ≡ (b || true)
or_true true = refl
or_true false = refl

-- a good scrape
module _ (rules : RowRules) (metric : List RuleConf) (target : List Pair) (c : CacheView) (right : AreRight rules.honor_labels metric target c.texts) (rest : IsAtRest c) where
  read_shows : (form : Form) (bytes : List ℕ) (rows : List BodyRow) (scraped : ℕ) → reading form bytes ≡ Ok rows →
      Shows (texts_by rules metric target c (Ok rows)) (Good (samples_of (left_from rules metric target 0 rows)) scraped)
  read_shows form bytes rows scraped e =
      let tells = rows_tell rules.honor_labels metric target form bytes rows e in
      record {
        tracked = λ x.
            rows_have rules metric target (λ (k : Known). k.tracked) (λ (r : BodyRow). is_tracked rules r) (λ r k. refl) (λ set. refl) x rows c (λ t is. is form bytes rows e) tells right
            ∙ ap₂ (λ (a b : List (List Pair)). has x a || has x b) (none_tracked c rest) (tracked_left rules metric target 0 rows);
        all = λ x.
            rows_have rules metric target (λ (k : Known). k.shown) (λ (r : BodyRow). true) (λ r k. or_true k.shown) (λ set. refl) x rows c (λ t is. is form bytes rows e) tells right
            ∙ ap₂ (λ (a b : List (List Pair)). has x a || has x b) (none_shown c rest) (sets_left rules metric target 0 rows);
      }

  judged_shows : (form : Form) (bytes : List ℕ) (rows : List BodyRow) (o : Option ScrapeFault) → reading form bytes ≡ Ok rows → is_good (judged o (samples_of (left_from rules metric target 0 rows)) (length rows)) ≡ true →
      Shows (texts_by rules metric target c (Ok rows)) (judged o (samples_of (left_from rules metric target 0 rows)) (length rows))
  judged_shows form bytes rows None e good = read_shows form bytes rows (length rows) e
  judged_shows form bytes rows (Some f) e good = absurd cc

  early_shows : (reply : Reply) (took : ℤ) (o : Result (List BodyRow) ScrapeFault) → rows_or_fault rules reply took ≡ o → is_good (of_early rules metric target o) ≡ true →
      Shows (texts_by rules metric target c o) (of_early rules metric target o)
  early_shows reply took (Ok rows) e good =
      judged_shows (form_of reply) (body_of reply) rows (rows_fault rules.limits (left_from rules metric target 0 rows)) (read_rows _ (reading (form_of reply) (body_of reply)) rows e) good
  early_shows reply took (Err f) e good = absurd cc

  pub good_shows : (reply : Reply) (took : ℤ) → is_good (of_early rules metric target (rows_or_fault rules reply took)) ≡ true →
      Shows (texts_by rules metric target c (rows_or_fault rules reply took)) (of_early rules metric target (rows_or_fault rules reply took))
  good_shows reply took good = early_shows reply took (rows_or_fault rules reply took) refl good

-- what was tracked before is so after the rows of a reply
pub was_by : (rules : RowRules) (metric : List RuleConf) (target : List Pair) (c : CacheView) (o : Result (List BodyRow) ScrapeFault) →
    was_sets (texts_by rules metric target c o).texts ≡ was_sets c.texts
was_by rules metric target c (Ok rows) = was_shown rules metric target rows c
was_by rules metric target c (Err f) = refl

-- what is said of a scrape by the texts that it showed
module _ (c : CacheView) (s : Scrape) (shows : Shows c s) where
  pub stale_shown : gone (rising (was_sets c.texts)) (now_sets c.texts) ≡ gone (rising (was_sets c.texts)) (tracked_sets s)
  stale_shown = gone_alike (rising (was_sets c.texts)) (now_sets c.texts) (tracked_sets s) (λ x. shows.tracked x ∙ sym (has_rising x (tracked_in (samples_in s))))

  pub added_shown : length (gone (rising (shown_sets c.texts)) (kept_sets c)) ≡ added_count (rising (kept_sets c)) s
  added_shown =
      ap (λ (l : List (List Pair)). length (gone l (kept_sets c))) (rising_alike (shown_sets c.texts) (sets_in (samples_in s)) shows.all)
      ∙ ap length (gone_alike (all_sets s) (kept_sets c) (rising (kept_sets c)) (λ x. sym (has_rising x (kept_sets c))))

-- the sets that a scrape leaves as tracked, and those that it leaves as known
pub tracked_after : (s : Scrape) (c : CacheView) (was : List (List Pair)) → Shows c s → was ≡ (if is_good s then now_sets c.texts else []) → rising was ≡ tracked_sets s
tracked_after (Good rows scraped) c was shows e = ap rising e ∙ rising_alike (now_sets c.texts) (tracked_in rows) shows.tracked
tracked_after (Bad f scraped left) c was shows e = ap rising e

pub knows_after : (s : Scrape) (c old : CacheView) → Shows c s → undone c ≡ old → rising (kept_sets (turned (is_good s) c)) ≡ known_after (rising (kept_sets old)) s
knows_after (Good rows scraped) c old shows e = ap rising (kept_turned true c) ∙ rising_alike (shown_sets c.texts) (sets_in rows) shows.all
knows_after (Bad f scraped left) c old shows e = ap rising (kept_turned false c ∙ sym (kept_undone c) ∙ ap kept_sets e)

-- the entries go by what was tracked and known before
pub entries_before : (life : ℕ) (target : List Pair) (has : Bool) (c old : CacheView) (b u : Bool) (extra : Option ExtraCounts) (s : Scrape) (m took : ℤ) → was_sets c.texts ≡ was_sets old.texts → undone c ≡ old →
    entries_of (life_of life target has c (b, u)) extra s m took ≡ entries_of (life_of life target has old (b, u)) extra s m took
entries_before life target has c old b u extra s m took was e =
    ap₂ (λ (w k : List (List Pair)). entries_of (let l : LifeView = record { life = life; target = target; extra = has; tracked = rising w; known = rising k; cache = old; scraped = b; up = u } in l) extra s m took)
    was (sym (kept_undone c) ∙ ap kept_sets e)

-- a scrape is good where it has no fault
not_good : (s : Scrape) → is_some (fault_of s) ≡ true → is_good s ≡ false
not_good (Good rows scraped) e = absurd cc
not_good (Bad f scraped left) e = refl

all_good : (s : Scrape) → is_some (fault_of s) ≡ false → is_good s ≡ true
all_good (Good rows scraped) e = refl
all_good (Bad f scraped left) e = absurd cc

-- what a scrape leaves of the texts that its rows showed
pub record Leaves (texts old c : CacheView) (s : Scrape) : Type 0 where
  pub shows : Shows c s
  pub cache : turned (is_good s) c ≡ turned (is_good s) texts
  pub was : was_sets c.texts ≡ was_sets old.texts

-- where it isn't good, that is taken back
pub bad_leaves : (texts old c shown : CacheView) (s : Scrape) → IsAtRest old → c ≡ undone shown → shown ≡ texts → undone shown ≡ undone old → is_some (fault_of s) ≡ true →
    Leaves texts old c s
bad_leaves texts old c shown s rest is shown_is back fault =
    let bad = not_good s fault in
    let same : c ≡ old = is ∙ back ∙ rest in
    record {
      shows = subst (λ (v : CacheView). Shows v s) (sym same) (bad_shows old s rest bad);
      cache = ap (λ (g : Bool). turned g c) bad ∙ ap (turned false) is ∙ failed_undone shown ∙ ap (turned false) shown_is ∙ ap (λ (g : Bool). turned g texts) (sym bad);
      was = ap (λ (v : CacheView). was_sets v.texts) same;
    }

module _ (rules : RowRules) (metric : List RuleConf) (target : List Pair) (old : CacheView) (right : AreRight rules.honor_labels metric target old.texts) (rest : IsAtRest old)
    (reply : Reply) (took : ℤ) (c : CacheView) (s : Scrape) where
  pub good_leaves : c ≡ texts_by rules metric target old (rows_or_fault rules reply took) → s ≡ outcome rules metric target reply took → is_some (fault_of s) ≡ false →
      Leaves (texts_by rules metric target old (rows_or_fault rules reply took)) old c s
  unfolding outcome
  good_leaves is s_is fault =
      let good = ap is_good (sym s_is) ∙ all_good s fault in
      record {
        shows = subst₂ (λ (v : CacheView) (r : Scrape). Shows v r) (sym is) (sym s_is) (good_shows rules metric target old right rest reply took good);
        cache = ap (turned (is_good s)) is;
        was = ap (λ (v : CacheView). was_sets v.texts) is ∙ was_by rules metric target old (rows_or_fault rules reply took);
      }
