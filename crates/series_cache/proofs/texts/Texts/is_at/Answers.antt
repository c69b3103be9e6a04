use Rattle.std.proofs.Common.{ℕ, List, sym, ap, ◌∙◌, subst}
use Rattle.series_cache.specs.declared.known.Known.{Known}
use Rattle.std.specs.Str.{bytes_eq}
use Rattle.series_cache.specs.Places.{HasAt}
use Rattle.series_cache.proofs.TextLemmas.{has_at}
use Rattle.series_cache.proofs.texts.Texts.is_at.Goals as goal

pub returns-in-Some : goal.returns-in-Some
returns-in-Some c = λ h.
    subst (λ (ts : List (List ℕ × Known)). HasAt c.args.raw.now ts c.args.place) c.self.view_is
    (has_at c.args.raw.now c.self.inside.entries.entries c.args.place (c.in-Some.text.now, c.in-Some.field-0-1.now) (sym c.in-Some.ensures.entry)
    (sym (ap (bytes_eq c.args.raw.now) c.as_slice.ensures.value) ∙ sym c.eq.ensures ∙ h))
