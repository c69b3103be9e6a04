use Rattle.std.proofs.Common.{◌≡◌, ◌*◌, ◌^◌, ◌<◌}
use Rattle.om_reader.proofs.stamps.with_zeros.Given as goal

abbrev pub invariant-loop-done : goal.invariant-loop-done
invariant-loop-done l = record {
  known : l.count ≡ l.number * 10 ^ l.done;
  small : l.count < 2 ^ 64;
}
