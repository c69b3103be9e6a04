use Rattle.std.proofs.Common.{arith}
use mathlib.Core.Option.{none}
use Rattle.atomic_table.specs.Table.{step}
use Rattle.turn_lock.specs.Turns.{ticket_of}
use Rattle.turn_lock.proofs.Counting.{counts_with}
use Rattle.turn_lock.proofs.steps.count.Goals as goal

pub fetch_add-requires : goal.fetch_add-requires
fetch_add-requires g c = let t = c.args.board.now.table_id in let p = c.args.place.now in (
  c.requires.table,
  omega (arith, c.requires.words),
  counts_with g.T.Kept.entries g.T.Kept.number c.args.board.now.key t.slots p.id c.args.more p.me c.requires.hand.0 (step t.slots 2 c.args.more 0 none) (ticket_of p.me.0.stage) c.requires.turn c.requires.hand.1
      c.requires.hand.2 c.requires.hand.3,
)
