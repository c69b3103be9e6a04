use Rattle.std.proofs.Common.{rules, ℕ, List, map, ap, ◌∙◌}
use Rattle.series_cache.specs.declared.known.Known.{Known}
use Rattle.series_cache.specs.Caches.{renewed, shown_of}
use Rattle.series_cache.specs.Remembered.{carried}
use Rattle.series_cache.proofs.TextLemmas.{retained}
use Rattle.series_cache.proofs.texts.Texts.renew.Goals as goal

pub returns-clause-renewed : goal.returns-clause-renewed
returns-clause-renewed c =
    retained _ (λ (k : Known). k.shown) carried _ (λ k v b w g call. search rules) c.self.inside.entries.entries _ c.retain.ensures.filtered
    ∙ ap (λ (ts : List (List ℕ × Known)). map renewed (shown_of ts)) c.self.view_is
