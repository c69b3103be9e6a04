use Rattle.std.proofs.Common.{arith}
use mathlib.Core.Option.{none}
use Rattle.atomic_table.specs.Table.{step}
use Rattle.turn_lock.proofs.Drawing.{draws}
use Rattle.turn_lock.proofs.steps.draw.Goals as goal

pub fetch_add-requires : goal.fetch_add-requires
fetch_add-requires g c = let t = c.args.board.now.table_id in let p = c.args.place.now in (
  c.requires.table,
  omega (arith, c.requires.words),
  draws g.T.Kept.entries g.T.Kept.number c.args.board.now.key t.slots p.id p.me.0 p.me.1 (step t.slots 0 1 0 none) c.requires.idle c.requires.some,
)
