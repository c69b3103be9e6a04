use Rattle.std.proofs.Common.{◌≡◌, ◌++◌, IsUtf8, string_bytes}
use Rattle.std.specs.Prelude.{flat_map}
use Rattle.std.specs.Str.{encode_utf8_all, chars}
use Rattle.std.specs.Str.Iter.{chars_rest}
use Rattle.config_fields.specs.Places.{escaped, escaped_char}
use Rattle.config_fields.proofs.place.push_escaped.Given as goal

abbrev pub invariant-loop-c : goal.invariant-loop-c
invariant-loop-c l =
    record {
      utf8 : IsUtf8 (chars_rest l.rest);
      escaped : string_bytes l.text ++ encode_utf8_all (flat_map escaped_char (chars (chars_rest l.rest))) ≡ string_bytes l.fn.text ++ escaped l.fn.key;
    }
