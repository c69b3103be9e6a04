use Rattle.std.proofs.Common.{◌≡◌, ◌∙◌, [], ◌∷◌, ap, sym, subst}
use Rattle.std.specs.Prelude.{reverse}
use Rattle.std.proofs.lemmas.List.{reverse-append}
use Rattle.federation.specs.Merges.{IsMerged, IsMerging}
use Rattle.federation.proofs.MergeLemmas.{merging_end, merging_more}
use Rattle.federation.proofs.merges.merged.Goals as goal

pub loop-row-preserved : goal.loop-row-preserved
loop-row-preserved c = λ left_rising right_rising.
    (let left = c.args.left.now.items in
    let right = c.args.right.now.items in
    let was = c.loop-row.invariant left_rising right_rising in
    let fewer_left = c.take_last.new.left.items in
    let fewer_right = c.take_last.new.right.items in
    let row = c.in-Some.row in
    let rows : reverse c.push.new.self.items ≡ row ∷ reverse c.loop-row.rows.items =
    ap reverse c.in_ok-push.ensures.items ∙ reverse-append c.loop-row.rows.items (row ∷ []) in
    subst (IsMerging left right fewer_left fewer_right) (sym rows)
    (merging_more left right c.loop-row.left.items c.loop-row.right.items (reverse c.loop-row.rows.items) was fewer_left fewer_right row
    (c.in-Some.ensures.taken was.left_rising was.right_rising)))

pub returns : goal.returns
returns c = λ left_rising right_rising.
    (let left = c.args.left.now.items in
    let right = c.args.right.now.items in
    let none = c.in_default.ensures.taken in
    subst (IsMerged left right) (sym c.reverse.ensures.items)
    (merging_end left right c.loop-row.left.items c.loop-row.right.items (reverse c.loop-row.rows.items)
    (c.loop-row.invariant left_rising right_rising) none.0 none.1))
