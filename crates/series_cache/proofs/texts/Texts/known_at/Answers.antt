use Rattle.std.proofs.Common.{ℕ, List, sym, ap, ◌∙◌, subst}
use Rattle.series_cache.specs.declared.known.Known.{Known}
use Rattle.series_cache.specs.Caches.{find}
use Rattle.series_cache.specs.Places.{HasAt}
use Rattle.series_cache.proofs.TextLemmas.{known_by}
use Rattle.series_cache.proofs.texts.Texts.known_at.Goals as goal

pub returns : goal.returns
returns c = λ raw at.
    let e = c.in_ok-known in
    sym (ap (find raw) (sym c.self.view_is)
    ∙ known_by raw c.self.inside.entries.entries c.args.place (e.field-0-0.now, e.known.now) (sym e.ensures.entry) e.ensures.value
    (subst (λ (ts : List (List ℕ × Known)). HasAt raw ts c.args.place) (sym c.self.view_is) at))
