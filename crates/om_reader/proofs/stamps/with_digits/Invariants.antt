use Rattle.std.proofs.Common.{◌≡◌, ◌^◌, ◌<◌, drop}
use Rattle.std.specs.Str.Parse.{digits_value_after}
use Rattle.om_reader.proofs.stamps.with_digits.Given as goal

abbrev pub invariant-loop-digit : goal.invariant-loop-digit
invariant-loop-digit l = record {
  known : digits_value_after 10 l.count (drop l.digit-index l.digits) ≡ digits_value_after 10 l.number l.digits;
  small : l.count < 2 ^ 64;
}
