use Rattle.std.proofs.Common.{ap, ◌∙◌}
use Rattle.series_cache.specs.Caches.{find}
use Rattle.series_cache.proofs.TextLemmas.{lookup_text}
use Rattle.series_cache.proofs.texts.Texts.find.Goals as goal

pub returns-in-None : goal.returns-in-None
returns-in-None c = c.get.ensures.value ∙ lookup_text c.args.raw.now c.self.inside.entries.entries ∙ ap (find c.args.raw.now) c.self.view_is
