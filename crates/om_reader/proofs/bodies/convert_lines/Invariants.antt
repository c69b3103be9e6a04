use Rattle.std.proofs.Common.{◌≤◌, ◌+◌, ◌-◌, length, drop}
use Rattle.om_reader.specs.Bodies.{reading}
use Rattle.om_reader.proofs.LineLemmas.{HasConverted}
use Rattle.om_reader.proofs.bodies.convert_lines.Given as goal

abbrev pub invariant-loop-place : goal.invariant-loop-place
invariant-loop-place l = record {
  known : HasConverted l.fn.text.items l.text.items l.number (drop l.place l.body) (reading l.body);
  near : l.place ≤ length l.body + 1;
  few : l.number ≤ l.place + 1;
}

abbrev pub decreases-loop-place : goal.decreases-loop-place
decreases-loop-place l = length l.body + 1 - l.place
