use Rattle.std.proofs.Common.{sym, arith}
use Rattle.expo_reader.proofs.MarkLemmas.{line_len-at, line_len-all}
use Rattle.om_reader.proofs.bodies.line_end.Goals as goal

pub returns-in-Some : goal.returns-in-Some
returns-in-Some c = record {
  value = sym (line_len-at c.args.bytes.now c.in-Some.end c.in-Some.ensures.0 c.in-Some.ensures.1);
  within = omega (arith, c.in-Some.ensures.0.high);
}

pub returns-in-None : goal.returns-in-None
returns-in-None c = record {
  value = sym (line_len-all c.args.bytes.now c.in-None.ensures);
  within = omega arith;
}
