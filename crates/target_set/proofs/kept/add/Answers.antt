use Rattle.std.proofs.Common.{ap, sym, ◌∙◌}
use Rattle.indexmap.specs.IndexSet.{insert_all, insert_key}
use Rattle.target_set.specs.Listed.{is_same, kept_in}
use Rattle.target_set.proofs.kept.add.Goals as goal

pub returns-in_ok-insert : goal.returns-in_ok-insert
returns-in_ok-insert c =
    c.in_ok-insert.ensures.keys ∙ ap (insert_key is_same c.args.seen.now.keys) c.in_ok-copy.ensures
    ∙ ap (λ o. insert_all is_same c.args.seen.now.keys (kept_in o)) (sym c.in-Kept.is)
