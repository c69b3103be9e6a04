use Rattle.std.proofs.Common.{rules, sym, ◌∙◌}
use Rattle.label_set.specs.Borrowed.{pair_of}
use Rattle.label_set.proofs.SplitLemmas.{split_start, split_none, split_less, split_equal, split_greater}
use Rattle.label_set.proofs.flat.split_at_name.Goals as goal

pub loop-label-init : goal.loop-label-init
loop-label-init c = split_start _ _ c.requires

pub loop-label-preserved : goal.loop-label-preserved
loop-label-preserved c =
    split_less c.args.bytes.now c.args.name.now c.loop-label.rest.now c.loop-label.invariant (pair_of c.split_first.result.0) c.split_first.result.1.now c.split_first.ensures.labels c.split_first.ensures.bytes c.split_first.ensures.flat (sym c.cmp.ensures ∙ c.in-Less.is)

pub returns-in-Equal-clause-below : goal.returns-in-Equal-clause-below
returns-in-Equal-clause-below c =
    (split_equal c.args.bytes.now c.args.name.now c.loop-label.rest.now c.loop-label.invariant (pair_of c.split_first.result.0) c.split_first.result.1.now c.split_first.ensures.labels c.split_first.ensures.bytes c.split_first.ensures.flat (sym c.cmp.ensures ∙ c.in-Equal.is)).0

pub returns-in-Equal-clause-above : goal.returns-in-Equal-clause-above
returns-in-Equal-clause-above c =
    (split_equal c.args.bytes.now c.args.name.now c.loop-label.rest.now c.loop-label.invariant (pair_of c.split_first.result.0) c.split_first.result.1.now c.split_first.ensures.labels c.split_first.ensures.bytes c.split_first.ensures.flat (sym c.cmp.ensures ∙ c.in-Equal.is)).1

pub returns-in-Greater-clause-below : goal.returns-in-Greater-clause-below
returns-in-Greater-clause-below c =
    (split_greater c.args.bytes.now c.args.name.now c.loop-label.rest.now c.loop-label.invariant (pair_of c.split_first.result.0) c.split_first.result.1.now c.split_first.ensures.labels c.split_first.ensures.bytes c.split_first.ensures.flat (sym c.cmp.ensures ∙ c.in-Greater.is)).0

pub returns-in-Greater-clause-above : goal.returns-in-Greater-clause-above
returns-in-Greater-clause-above c =
    (split_greater c.args.bytes.now c.args.name.now c.loop-label.rest.now c.loop-label.invariant (pair_of c.split_first.result.0) c.split_first.result.1.now c.split_first.ensures.labels c.split_first.ensures.bytes c.split_first.ensures.flat (sym c.cmp.ensures ∙ c.in-Greater.is)).1

pub returns-clause-below : goal.returns-clause-below
returns-clause-below c = (split_none c.args.bytes.now c.args.name.now c.loop-label.rest.now c.loop-label.invariant (search rules)).0

pub returns-clause-above : goal.returns-clause-above
returns-clause-above c = (split_none c.args.bytes.now c.args.name.now c.loop-label.rest.now c.loop-label.invariant (search rules)).1
