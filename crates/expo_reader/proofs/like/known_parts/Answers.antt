use Rattle.std.proofs.Common.{◌≡◌, ◌∙◌, ◌++◌, sym, ap, ap₂, take, length}
use Rattle.std.proofs.lemmas.List.{take-append-drop}
use Rattle.std.specs.Str.{bytes_eq}
use Rattle.std.proofs.lemmas.Bool.{not-false}
use Rattle.std.proofs.lemmas.Slice.Eq.{bytes_eq-Decides}
use Rattle.expo_reader.proofs.KnownLemmas.{known-said}
use Rattle.expo_reader.proofs.like.known_parts.Goals as goal

pub parts_of-requires-clause-tail : goal.parts_of-requires-clause-tail
parts_of-requires-clause-tail c =
    let text = c.args.text.now in
    let n = length c.args.raw.now in
    (take n text, sym (take-append-drop n text) ∙ ap (λ r. take n text ++ r) (sym c.behind-rest.ensures))

pub returns-in-Ok-clause-said : goal.returns-in-Ok-clause-said
returns-in-Ok-clause-said c = λ number.
    (let text = c.args.text.now in
    let raw = c.args.raw.now in
    let n = length raw in
    let front : take n text ≡ raw = sym c.front_of.ensures ∙ (bytes_eq-Decides c.front_of.result.now raw).0 (not-false (bytes_eq c.front_of.result.now raw) (sym c.if-ne.ensures)) in
    let whole : text ≡ raw ++ c.behind-rest.result.now = sym (take-append-drop n text) ∙ ap₂ (λ a b. a ++ b) front (sym c.behind-rest.ensures) in
    known-said c.args.form number text raw c.behind-rest.result.now c.requires.raw c.requires.bare whole c.if-rest-ne32.false c.in-Ok.parts c.in-Ok.ensures.parts)
