use Rattle.std.proofs.Common.{arith}
use mathlib.Core.Option.{none}
use Rattle.atomic_table.specs.Table.{step}
use Rattle.turn_lock.specs.Turns.{ticket_of}
use Rattle.turn_lock.proofs.Looking.{looks_with}
use Rattle.turn_lock.proofs.steps.look.Goals as goal

pub load-requires : goal.load-requires
load-requires g c = let t = c.args.board.now.table_id in let p = c.args.place.now in (
  c.requires.table,
  omega (arith, c.requires.words),
  looks_with g.T.Kept.entries g.T.Kept.number c.args.board.now.key t.slots p.id p.me (step t.slots 1 0 0 none) (ticket_of p.me.0.stage) c.requires.waits c.requires.empty,
)
