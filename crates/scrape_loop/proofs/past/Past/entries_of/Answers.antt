use Rattle.std.proofs.Common.{rules, ◌≡◌, ◌++◌, ◌∙◌, ℤ, List, map, ap, ap₂, append_assoc, to_z, of_z, w64}
use Rattle.std.proofs.lemmas.Int.{to_z-of_z}
use Rattle.report_samples.specs.declared.entries.Entry.{Entry}
use Rattle.report_samples.specs.Markers.{stale_entry}
use Rattle.report_samples.specs.Reports.{report_entries}
use Rattle.series_cache.specs.Caches.{kept_sets, was_sets}
use Rattle.series_cache.specs.Sets.{gone, rising}
use Rattle.scrape_loop.specs.Entries.{counts_of, sample_entry}
use Rattle.scrape_loop.specs.Tracked.{samples_of, tracked_sets}
use Rattle.scrape_loop.proofs.past.Past.entries_of.Goals as goal

pub returns : goal.returns
returns c =
    let life = c.args.self.now.life in
    let s = c.args.scrape in
    let cache = c.args.cache.now in
    let ended = gone (rising (was_sets cache.texts)) (tracked_sets s) in
    let moment : to_z w64 (of_z w64 c.args.timing.moment) ≡ c.args.timing.moment = to_z-of_z w64 c.args.timing.moment (search rules) in
    let counts : c.in_ok-counts.counts ≡ counts_of (rising (kept_sets cache)) c.args.extra s c.args.timing.took =
    c.in_ok-counts.ensures ∙ ap (λ (t : ℤ). counts_of (rising (kept_sets cache)) c.args.extra s t) (to_z-of_z w64 c.args.timing.took (search rules)) in
    let last : c.last.inside.items.items ≡ report_entries life c.args.self.now.target c.args.timing.moment (counts_of (rising (kept_sets cache)) c.args.extra s c.args.timing.took) =
    c.last.view_is ∙ c.in_ok-last.ensures ∙ λ i. report_entries life (c.report_sets-sets_of_reports.ensures i) (moment i) (counts i) in
    let both : c.in_ok-items.items.items ≡ map (sample_entry life c.args.timing.moment) (samples_of s) ++ map (stale_entry life c.args.timing.moment) ended =
    c.in_ok-items.ensures ∙ ap (λ (m : ℤ). map (sample_entry life m) (samples_of s) ++ map (stale_entry life m) ended) moment in
    c.in_ok-append.ensures.items ∙ ap₂ (λ (front back : List Entry). front ++ back) both last
    ∙ append_assoc (map (sample_entry life c.args.timing.moment) (samples_of s)) (map (stale_entry life c.args.timing.moment) ended)
    (report_entries life c.args.self.now.target c.args.timing.moment (counts_of (rising (kept_sets cache)) c.args.extra s c.args.timing.took))
