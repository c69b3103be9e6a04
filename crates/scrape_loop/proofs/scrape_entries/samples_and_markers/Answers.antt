use Rattle.std.proofs.Common.{rules, ◌≡◌, ◌++◌, ◌∙◌, ℤ, List, map, ap, ap₂, to_z, of_z, w64}
use Rattle.std.proofs.lemmas.Int.{to_z-of_z}
use Rattle.label_set.specs.declared.texts.Pair.{Pair}
use Rattle.report_samples.specs.declared.entries.Entry.{Entry}
use Rattle.report_samples.specs.Markers.{stale_entry}
use Rattle.sample_rows.specs.declared.scrape.Sample.{Sample}
use Rattle.series_cache.specs.Caches.{was_sets}
use Rattle.series_cache.specs.Sets.{gone, rising}
use Rattle.scrape_loop.specs.Entries.{sample_entry}
use Rattle.scrape_loop.specs.Tracked.{samples_of, tracked_sets}
use Rattle.scrape_loop.proofs.scrape_entries.samples_and_markers.Goals as goal

pub returns : goal.returns
returns c =
    let life = c.args.life in
    let s = c.args.scrape in
    let ended = gone (rising (was_sets c.args.cache.now.texts)) (tracked_sets s) in
    let moment : to_z w64 (of_z w64 c.args.moment) ≡ c.args.moment = to_z-of_z w64 c.args.moment c.ranges.moment in
    let stale : c.as_slice.result.now ≡ ended = search rules in
    let first : c.push_samples.new.entries.items ≡ map (sample_entry life c.args.moment) (samples_of s) =
    c.in_ok-push_samples.ensures ∙ ap (λ (l : List Entry). l ++ map (sample_entry life (to_z w64 (of_z w64 c.args.moment))) c.into_samples.result.items) c.new-items.ensures.items
    ∙ ap₂ (λ (m : ℤ) (rs : List Sample). map (sample_entry life m) rs) moment c.into_samples.ensures in
    c.in_ok-push_stale.ensures ∙ ap (λ (l : List Entry). l ++ map (stale_entry life (to_z w64 (of_z w64 c.args.moment))) c.as_slice.result.now) first
    ∙ ap₂ (λ (m : ℤ) (xs : List (List Pair)). map (sample_entry life c.args.moment) (samples_of s) ++ map (stale_entry life m) xs) moment stale
