use Rattle.std.proofs.Common.{rules, true, map, ap, ◌∙◌}
use Rattle.series_cache.specs.declared.known.Known.{Known}
use Rattle.series_cache.specs.Caches.{unshown}
use Rattle.series_cache.specs.Places.{texts_of}
use Rattle.series_cache.specs.Remembered.{unmarked}
use Rattle.series_cache.proofs.TextLemmas.{all_stay, retained}
use Rattle.series_cache.proofs.texts.Texts.unshow.Goals as goal

pub returns : goal.returns
returns c =
    retained _ (λ (k : Known). true) unmarked _ (λ k v b w g call. search rules) c.self.inside.entries.entries _ c.retain.ensures.filtered
    ∙ ap (map unshown) (all_stay (texts_of c.self.inside.entries.entries) ∙ c.self.view_is)
