use Rattle.std.proofs.Common.{◌∙◌, Some, ap, sym}
use Rattle.std.proofs.lemmas.Slice.Eq.{bytes_eq-Decides}
use Rattle.expo_reader.proofs.like.has_raw.Goals as goal

pub returns-in-Some : goal.returns-in-Some
returns-in-Some g c = λ h. c.in-Some.ensures.text ∙ ap (λ r. Some r) ((bytes_eq-Decides c.in-Some.text.now c.args.raw.now).0 (sym c.eq.ensures ∙ h))
