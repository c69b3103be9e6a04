use Rattle.std.proofs.Common.{◌≡◌, ◌∙◌, ap₂, List, vec_len}
use Rattle.std.specs.declared.cmp.Ordering.TheVariants.{Less, Equal, Greater}
use Rattle.instant_view.specs.declared.rows.ViewRow.{ViewRow}
use Rattle.federation.specs.Merges.{last_row, row_order}
use Rattle.federation.proofs.MergeLemmas.{both_taken, gone, left_taken, right_taken}
use Rattle.federation.proofs.merges.take_last.Goals as goal

pub returns-in-Less-clause-taken : goal.returns-in-Less-clause-taken
returns-in-Less-clause-taken c =
    let left = c.args.left.now in
    let right = c.args.right.now in
    let order : Less ≡ row_order (last_row left.items) (last_row right.items) =
    c.in-Less.ensures ∙ ap₂ (λ (l r : List ViewRow). row_order (last_row l) (last_row r)) c.deref.ensures.value c.deref-2.ensures.value in
    right_taken left.items right.items c.pop.new.self.items c.pop.result order c.pop.ensures.items
    (gone right.items (vec_len right) c.pop.result right.ok.0 c.pop.ensures.variant)

pub returns-in-Equal-clause-taken : goal.returns-in-Equal-clause-taken
returns-in-Equal-clause-taken c =
    let left = c.args.left.now in
    let right = c.args.right.now in
    let order : Equal ≡ row_order (last_row left.items) (last_row right.items) =
    c.in-Equal.ensures ∙ ap₂ (λ (l r : List ViewRow). row_order (last_row l) (last_row r)) c.deref.ensures.value c.deref-2.ensures.value in
    both_taken left.items right.items c.pop-same.new.self.items c.pop-in-Equal.new.self.items c.pop-same.result c.pop-in-Equal.result
    order c.pop-same.ensures.items c.pop-in-Equal.ensures.items
    (gone left.items (vec_len left) c.pop-same.result left.ok.0 c.pop-same.ensures.variant)
    (gone right.items (vec_len right) c.pop-in-Equal.result right.ok.0 c.pop-in-Equal.ensures.variant)

pub returns-in-Greater-clause-taken : goal.returns-in-Greater-clause-taken
returns-in-Greater-clause-taken c =
    let left = c.args.left.now in
    let right = c.args.right.now in
    let order : Greater ≡ row_order (last_row left.items) (last_row right.items) =
    c.in-Greater.ensures ∙ ap₂ (λ (l r : List ViewRow). row_order (last_row l) (last_row r)) c.deref.ensures.value c.deref-2.ensures.value in
    left_taken left.items right.items c.pop-in-Greater.new.self.items c.pop-in-Greater.result order c.pop-in-Greater.ensures.items
    (gone left.items (vec_len left) c.pop-in-Greater.result left.ok.0 c.pop-in-Greater.ensures.variant)
