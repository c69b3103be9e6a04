use Rattle.std.proofs.Common.{List, ℕ, slice_get, sym, ap, ◌∙◌}
use Rattle.std.specs.Map.{values_of}
use Rattle.series_cache.specs.declared.known.Known.{Known}
use Rattle.series_cache.proofs.TextLemmas.{values_seen}
use Rattle.series_cache.proofs.texts.Texts.at.Goals as goal

pub returns : goal.returns
returns c =
    ap (λ (ts : List (List ℕ × Known)). slice_get (values_of ts) c.args.place) (sym c.self.view_is)
    ∙ ap (λ (vs : List Known). slice_get vs c.args.place) (values_seen c.self.inside.entries.entries) ∙ c.index.ensures
