use Rattle.std.proofs.Common.{◌∙◌, ap, sym, List, ℕ, ◌++◌, ◌∷◌, []}
use Rattle.om_reader.proofs.LabelLemmas.{by_text, label-fault, label-no_mark}
use Rattle.om_reader.proofs.labels.push_label.Goals as goal

pub returns-in_default-mark_at-clause-label : goal.returns-in_default-mark_at-clause-label
returns-in_default-mark_at-clause-label c =
    label-no_mark c.args.text.now c.in-Some.name.bytes.now c.in-Some.name.rest.now c.in-Some.ensures.part c.in_default-mark_at.ensures.rest

pub returns-in_ok-reserve-in-Ok-clause-label : goal.returns-in_ok-reserve-in-Ok-clause-label
returns-in_ok-reserve-in-Ok-clause-label c =
    let said = c.in-Ok.ensures.label in (
      said.0,
      by_text c.args.text.now c.in-Some.name.bytes.now c.in-Some.name.rest.now c.in-Some.ensures.part c.in-Some-mark_at.quoted.now c.in-Some-mark_at.ensures.rest ∙ said.1,
      c.push_reserved.ensures.items ∙ ap (λ (l : List (List ℕ)). l ++ c.in-Some.name.bytes.now ∷ []) (c.in_ok-reserve-in-Ok.ensures.items ∙ c.room.view_is)
          ∙ ap (λ (n : List ℕ). c.args.room.now ++ n ∷ []) (sym said.2),
    )

pub returns-in-Err-clause-label : goal.returns-in-Err-clause-label
returns-in-Err-clause-label c =
    label-fault c.args.text.now c.in-Some.name.bytes.now c.in-Some.name.rest.now c.in-Some.ensures.part
    c.in-Some-mark_at.quoted.now c.in-Some-mark_at.ensures.rest c.in-Err.fault c.in-Err.ensures.label
