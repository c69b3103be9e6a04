use Rattle.std.proofs.Common.{arith}
use Rattle.turn_lock.proofs.Parting.{splits}
use Rattle.turn_lock.proofs.steps.split.Goals as goal

pub split_seat-requires : goal.split_seat-requires
split_seat-requires g c = let p = c.args.place.now in
    (c.requires.table, omega (arith, c.requires.words), splits g.T.Kept.entries g.T.Kept.number c.args.board.now.key p.id p.me.0 c.requires.idle c.requires.some)
