use Rattle.std.proofs.Common.{rules, ◌≡◌, ℕ, List, [], ◌∷◌, ◌++◌, ap, ◌∙◌}
use Rattle.series_cache.specs.declared.known.Known.{Known}
use Rattle.series_cache.specs.Caches.{find}
use Rattle.series_cache.specs.Places.{texts_of}
use Rattle.series_cache.proofs.TextLemmas.{lookup_text, texts_push}
use Rattle.indexmap.proofs.CallerLemmas.{insert_entry-new}
use Rattle.series_cache.proofs.texts.Texts.push.Goals as goal

pub returns-clause-ok : goal.returns-clause-ok
returns-clause-ok c =
    let text = c.extend_from_slice.new.self in
    let es = c.self.inside.entries.entries in
    let same : text.items ≡ c.args.raw.now = search rules in
    let none = lookup_text text.items es ∙ ap (find text.items) c.self.view_is ∙ ap (λ (r : List ℕ). find r c.args.self.now) same ∙ c.requires in
    ap texts_of (c.in_ok-insert.ensures.entries ∙ insert_entry-new _ c.self.inside.entries text c.fresh.result none)
    ∙ texts_push es (text, c.fresh.result)
    ∙ ap (λ (ts : List (List ℕ × Known)). ts ++ (text.items, c.fresh.result) ∷ []) c.self.view_is
    ∙ ap (λ (r : List ℕ). c.args.self.now ++ (r, c.fresh.result) ∷ []) same
    ∙ ap (λ (k : Known). c.args.self.now ++ (c.args.raw.now, k) ∷ []) c.fresh.ensures
