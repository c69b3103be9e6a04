use Rattle.std.proofs.lemmas.Grind.{common_steps}
use Rattle.std.proofs.Common.{rules, ◌≡◌, arith, ◌<◌, ◌++◌, length, codes, set, ap, ◌∙◌}
use Rattle.label_set.specs.SetText.{labels_after, other_labels, braces_if_any}
use Rattle.label_set.proofs.TextLemmas.{first_braced}
use Rattle.label_set.proofs.print.push_braces_if_any.Goals as goal

pub returns-in_ok-extend_from_slice : goal.returns-in_ok-extend_from_slice
returns-in_ok-extend_from_slice c =
    let labels = labels_after (other_labels c.args.labels) in
    let some : 0 < length labels = omega (arith, c.in_ok-push_labels.ensures.len) in
    let place : c.len-place.result ≡ length c.args.text.now.items = c.len-place.ensures ∙ c.args.text.now.ok.0 in
    let braced = first_braced c.args.text.now.items labels some in
    let written : c.extend_from_slice.new.self.items ≡ c.args.text.now.items ++ braces_if_any labels = c.in_ok-extend_from_slice.ensures.items ∙ ap (λ n. set c.push_labels.new.text.items n 123 ++ codes "}") place ∙ ap (λ items. set items (length c.args.text.now.items) 123 ++ codes "}") c.in_ok-push_labels.ensures.written ∙ braced in
    record { written = search (rules, written); len = grind (arith, common_steps); full = search rules; capacity = search rules; longer = search rules; front = grind (arith, common_steps) }
