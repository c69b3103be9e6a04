use Rattle.std.proofs.Common.{◌≡◌, ◌+◌, ◌≤◌, length, take}
use Rattle.sample_rows.specs.Rows.{left_from, samples_of, first_fault}
use Rattle.series_cache.specs.Caches.{undone}
use Rattle.scrape_loop.specs.Texts.{AreRight, shown_all}
use Rattle.scrape_loop.proofs.known_rows.sift_known.Given as goal

abbrev pub invariant-loop-place : goal.invariant-loop-place
invariant-loop-place g l = record {
  same : l.runner ≡ l.terms.metric.now;
  samples : l.sifted.samples.items ≡ samples_of (left_from l.terms.rules.now l.terms.metric.now l.terms.target.now 0 (take l.place l.body.rows));
  fault : l.sifted.fault ≡ first_fault l.terms.rules.now.limits (left_from l.terms.rules.now l.terms.metric.now l.terms.target.now 0 (take l.place l.body.rows));
  cache : l.cache ≡ shown_all l.terms.rules.now l.terms.metric.now l.terms.target.now l.fn.cache (take l.place l.body.rows);
  right : AreRight l.terms.rules.now.honor_labels l.terms.metric.now l.terms.target.now l.cache.texts;
  undone : undone l.cache ≡ undone l.fn.cache;
  steps : l.steps + length l.fn.cache.texts ≡ l.fn.steps + length l.cache.texts;
  at_least : l.fn.steps ≤ l.steps;
}
