use Rattle.std.proofs.Common.{◌≡◌, ℕ, List, is_some, IfSome, Option, None, Some, sym, ap, ◌∙◌, subst, refl}
use Rattle.series_cache.specs.declared.known.Known.{Known}
use Rattle.series_cache.specs.Caches.{find}
use Rattle.series_cache.specs.Places.{HasAt}
use Rattle.series_cache.proofs.TextLemmas.{lookup_text, none_known, place_by_hash}
use Rattle.series_cache.proofs.texts.Texts.hashed_place.Goals as goal

pub returns-clause-found : goal.returns-clause-found
returns-clause-found c = by c.get_index_of.result refl
  where
    by : (r : Option ℕ) → c.get_index_of.result ≡ r → IfSome r (λ place. HasAt c.args.raw.now c.args.self.now place)
    by None e = tt
    by (Some i) e = subst (λ (ts : List (List ℕ × Known)). HasAt c.args.raw.now ts i) c.self.view_is (place_by_hash c.args.raw.now c.self.inside.entries.entries i (sym c.get_index_of.ensures.index ∙ e))

pub returns-clause-absent : goal.returns-clause-absent
returns-clause-absent c =
    none_known c.get_index_of.result (find c.args.raw.now c.args.self.now)
    (c.get_index_of.ensures.found ∙ ap is_some (lookup_text c.args.raw.now c.self.inside.entries.entries ∙ ap (find c.args.raw.now) c.self.view_is))
