use Rattle.std.proofs.Common.{◌≡◌, ◌<◌, ◌^◌, drop, length}
use Rattle.std.specs.List.{list_all}
use Rattle.std.specs.Char.{is_ascii_digit}
use Rattle.std.specs.Str.Parse.{digits_value_after}
use Rattle.http_fetch.proofs.fields.number.Given as goal

abbrev pub invariant-loop-digit : goal.invariant-loop-digit
invariant-loop-digit l = record {
  some : 0 < length l.text;
  few : l.number < 2 ^ 63;
  value : digits_value_after 10 l.number (drop l.digit-index l.text) ≡ digits_value_after 10 0 l.text;
  digits : list_all is_ascii_digit (drop l.digit-index l.text) ≡ list_all is_ascii_digit l.text;
}
