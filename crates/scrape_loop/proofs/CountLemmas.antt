-- The state and the entries of a life after a reply.
use Rattle.std.proofs.Common.{◌≡◌, ℕ, ℤ, Bool, true, false, not, if◌then◌else◌, List, [], is_some, refl, ap, ap₂, ◌∙◌}
use Rattle.label_set.specs.declared.texts.Pair.{Pair}
use Rattle.outside.specs.declared.replies.Reply.{Reply}
use Rattle.rule_conf.specs.declared.conf.RuleConf.{RuleConf}
use Rattle.sample_rows.specs.Outcomes.{outcome, rows_or_fault}
use Rattle.sample_rows.specs.declared.scrape.RowRules.{RowRules}
use Rattle.sample_rows.specs.declared.scrape.Scrape.{Scrape}
use Rattle.sample_rows.specs.declared.scrape.Scrape.TheVariants.{Good, Bad}
use Rattle.series_cache.specs.Caches.{CacheView, kept_sets, now_sets, turned, undone, was_sets}
use Rattle.series_cache.specs.Sets.{rising}
use Rattle.series_cache.proofs.TurnLemmas.{kept_turned}
use Rattle.scrape_loop.specs.Entries.{entries_of, extra_for}
use Rattle.scrape_loop.specs.Shown.{Shows}
use Rattle.scrape_loop.specs.Texts.{texts_by}
use Rattle.scrape_loop.specs.Tracked.{LifeView, after_forced, after_reply, after_scrape, fault_of, is_good, life_of, outcome_for, texts_for}
use Rattle.scrape_loop.proofs.SettleLemmas.{entries_before, knows_after, tracked_after}

-- a scrape is good where it has no fault
pub good_told : (s : Scrape) (g : Bool) → is_some (fault_of s) ≡ not g → g ≡ is_good s
good_told (Good rows scraped) true e = refl
good_told (Good rows scraped) false e = absurd cc
good_told (Bad f scraped left) true e = absurd cc
good_told (Bad f scraped left) false e = refl

-- what a scrape leaves, by what it shows
pub state_after : (life : ℕ) (target : List Pair) (extra b u : Bool) (old c texts new : CacheView) (s : Scrape) → Shows c s → turned (is_good s) c ≡ turned (is_good s) texts → undone c ≡ old →
    new ≡ turned (is_good s) c → was_sets new.texts ≡ (if is_good s then now_sets c.texts else []) →
    life_of life target extra new (true, is_good s) ≡ record (after_scrape (life_of life target extra old (b, u)) s) { cache = turned (is_good s) texts }
state_after life target extra b u old c texts new s shows same back new_is was =
    let tracked = tracked_after s c (was_sets new.texts) shows was in
    let known = ap (λ (v : CacheView). rising (kept_sets v)) new_is ∙ knows_after s c old shows back in
    let cache = new_is ∙ same in
    λ i. (let l : LifeView = record { life = life; target = target; extra = extra; tracked = tracked i; known = known i; cache = cache i; scraped = true; up = is_good s } in l)

-- a forced scrape
pub force_state : (life : ℕ) (target : List Pair) (extra b u : Bool) (old new : CacheView) (l : LifeView) → life_of life target extra old (b, u) ≡ l → new ≡ turned false old → was_sets new.texts ≡ [] →
    life_of life target extra new (true, false) ≡ after_forced l
force_state life target extra b u old new l view new_is was =
    let tracked = ap rising was in
    let known = ap (λ (v : CacheView). rising (kept_sets v)) new_is ∙ ap rising (kept_turned false old) in
    (λ i. (let m : LifeView = record { life = life; target = target; extra = extra; tracked = tracked i; known = known i; cache = new_is i; scraped = true; up = false } in m)) ∙ ap after_forced view

-- a reply, by what is said of its scrape
module _ (life : ℕ) (target said : List Pair) (extra b u : Bool) (old cache c : CacheView) (rules : RowRules) (metric : List RuleConf) (reply : Reply) (took lasted : ℤ) (s : Scrape) (l : LifeView)
    (view : life_of life target extra old (b, u) ≡ l) (target_is : said ≡ target) (cache_is : cache ≡ old) (took_is : lasted ≡ took) (s_is : s ≡ outcome rules metric said reply lasted)
    (back : undone c ≡ cache) where
  own_target : said ≡ l.target
  own_target = target_is ∙ ap (λ (v : LifeView). v.target) view

  own_cache : cache ≡ l.cache
  own_cache = cache_is ∙ ap (λ (v : LifeView). v.cache) view

  told : s ≡ outcome_for l rules metric reply took
  told = s_is ∙ ap₂ (λ (t : List Pair) (k : ℤ). outcome rules metric t reply k) own_target took_is

  pub reply_told : s ≡ outcome_for l rules metric reply took
  reply_told = told

  shown : texts_by rules metric said cache (rows_or_fault rules reply lasted) ≡ texts_for l rules metric reply took
  shown = λ i. texts_by rules metric (own_target i) (own_cache i) (rows_or_fault rules reply (took_is i))

  pub reply_state : (g : Bool) (new : CacheView) → is_some (fault_of s) ≡ not g → Shows c s →
      turned (is_good s) c ≡ turned (is_good s) (texts_by rules metric said cache (rows_or_fault rules reply lasted)) → new ≡ turned g c →
      was_sets new.texts ≡ (if g then now_sets c.texts else []) → life_of life target extra new (true, g) ≡ after_reply l rules metric reply took
  reply_state g new fault shows same new_is was =
      let good = good_told s g fault in
      ap (λ (f : Bool). life_of life target extra new (true, f)) good
      ∙ state_after life target extra b u old c (texts_by rules metric said cache (rows_or_fault rules reply lasted)) new s shows same (back ∙ cache_is) (new_is ∙ ap (λ (f : Bool). turned f c) good)
      (was ∙ ap (λ (f : Bool). if f then now_sets c.texts else []) good)
      ∙ (λ i. (let m : LifeView = record (after_scrape (view i) (told i)) { cache = turned (is_good (told i)) (shown i) } in m))

  pub reply_entries : (moment at : ℤ) → at ≡ moment → was_sets c.texts ≡ was_sets cache.texts →
      entries_of (life_of life target extra c (b, u)) (extra_for rules s reply) s at lasted
      ≡ entries_of l (extra_for rules (outcome_for l rules metric reply took) reply) (outcome_for l rules metric reply took) moment took
  reply_entries moment at at_is was =
      entries_before life target extra c old b u (extra_for rules s reply) s at lasted (was ∙ ap (λ (v : CacheView). was_sets v.texts) cache_is) (back ∙ cache_is)
      ∙ (λ i. entries_of (view i) (extra_for rules (told i) reply) (told i) (at_is i) (took_is i))
