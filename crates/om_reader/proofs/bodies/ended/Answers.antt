use Rattle.std.proofs.Common.{drop, length-drop, arith}
use Rattle.om_reader.proofs.LineLemmas.{ended-here, ended-more}
use Rattle.om_reader.proofs.bodies.ended.Goals as goal

pub returns-then-place-body : goal.returns-then-place-body
returns-then-place-body c =
    ended-more c.args.number (drop c.args.place c.args.body.now) (omega (arith, length-drop c.args.place c.args.body.now, c.if-place-body.true))

pub returns-else-place-body : goal.returns-else-place-body
returns-else-place-body c = ended-here c.args.number c.args.place c.args.body.now c.if-place-body.false
