use Rattle.std.proofs.Common.{◌≡◌, ℕ, List, Some, slice_get, option_map, sym, ap, ◌∙◌, subst}
use Rattle.std.proofs.lemmas.Option.{slice_get-map}
use Rattle.std.specs.Map.{keys_of}
use Rattle.series_cache.specs.declared.known.Known.{Known}
use Rattle.series_cache.specs.Places.{texts_of}
use Rattle.series_cache.proofs.TextLemmas.{text_at}
use Rattle.series_cache.proofs.texts.Texts.text_at.Goals as goal

pub returns : goal.returns
returns c =
    let es = c.self.inside.entries.entries in
    subst (λ (ts : List (List ℕ × Known)). slice_get (keys_of ts) c.args.place ≡ Some c.as_slice.result.now) c.self.view_is
    (slice_get-map (λ (t : List ℕ × Known). t.0) (texts_of es) c.args.place
    ∙ ap (option_map (λ (t : List ℕ × Known). t.0)) (text_at es c.args.place (c.in_ok-text.text.now, c.in_ok-text.field-0-1.now) (sym c.in_ok-text.ensures.entry))
    ∙ ap Some (sym c.as_slice.ensures.value))
