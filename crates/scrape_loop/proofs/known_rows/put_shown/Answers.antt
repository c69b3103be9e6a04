use Rattle.std.proofs.Common.{subst₂, sym}
use Rattle.std.specs.Prelude.{ℕ, List}
use Rattle.std.specs.Option.{IsSome}
use Rattle.sample_rows.specs.Rows.{row_series}
use Rattle.series_cache.specs.Caches.{CacheView, look_up}
use Rattle.series_cache.specs.Remembered.{fresh}
use Rattle.scrape_loop.proofs.TextLemmas.{put_known}
use Rattle.scrape_loop.proofs.known_rows.put_shown.Goals as goal

pub stamp-requires : goal.stamp-requires
stamp-requires g c =
    subst₂ (λ (raw : List ℕ) (v : CacheView). IsSome (look_up raw v.texts)) (sym c.raw.ensures) (sym c.in_ok-series.ensures.cache)
    (put_known c.args.row.now.raw (fresh (row_series c.args.terms.now.rules.now.honor_labels c.args.metric.now c.args.terms.now.target.now c.args.row.now)) c.args.cache.now.texts)
