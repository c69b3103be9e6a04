use Rattle.std.proofs.Common.{◌≡◌, ◌∙◌, ◌+◌, ◌∷◌, ◌++◌, [], ap, subst, sym, take}
use Rattle.std.proofs.lemmas.List.{flat_map_more, take_more}
use Rattle.std.proofs.lemmas.List.Elements.{All-more}
use Rattle.federation.specs.Readings.{IsWellFormed}
use Rattle.federation.specs.Texts.{row_line, rows_text}
use Rattle.federation.proofs.texts.push_rows.Goals as goal

pub loop-row-preserved : goal.loop-row-preserved
loop-row-preserved c =
    let rows = c.args.rows.now in
    let i = c.loop-row.row-index in
    let row = c.row-item.result in
    let more : take (i + 1) rows ≡ take i rows ++ row ∷ [] = take_more rows i row c.loop-row-test.true ∙ ap (λ x. take i rows ++ x ∷ []) (sym c.row-item.is) in (
      c.in_ok-push_row.ensures ∙ (ap (λ t. t ++ row_line row) c.loop-row.invariant.0
          ∙ (flat_map_more row_line c.args.text.now.items (take i rows) row ∙ ap (λ rs. c.args.text.now.items ++ rows_text rs) (sym more))),
      All-more IsWellFormed rows i row c.loop-row-test.true c.loop-row.invariant.1 (subst IsWellFormed c.row-item.is c.is_well_formed.ensures),
    )
