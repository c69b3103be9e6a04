use Rattle.std.proofs.Common.{take, ap, ◌∙◌}
use Rattle.series_cache.specs.Places.{texts_of}
use Rattle.series_cache.proofs.TextLemmas.{texts_take}
use Rattle.series_cache.proofs.texts.Texts.cut.Goals as goal

pub returns : goal.returns
returns c = ap texts_of c.truncate.ensures.entries ∙ texts_take c.args.kept c.self.inside.entries.entries ∙ ap (take c.args.kept) c.self.view_is
