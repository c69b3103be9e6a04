use Rattle.std.proofs.Common.{arith}
use Rattle.turn_lock.proofs.Parting.{joins}
use Rattle.turn_lock.proofs.steps.join.Goals as goal

pub join_seat-requires : goal.join_seat-requires
join_seat-requires g c = let p = c.args.place.now in let q = c.args.other in (
  c.requires.table,
  c.requires.other,
  c.requires.empty,
  omega (arith, c.requires.words),
  joins g.T.Kept.entries g.T.Kept.number c.args.board.now.key p.id q.id p.me.0 q.me.0 c.requires.idle c.requires.idle_other c.requires.next,
)
