use Rattle.std.proofs.Common.{◌≡◌, ◌++◌, ◌+◌, ◌≤◌, take, length, vec_len, vec_capacity}
use Rattle.label_set.specs.SetText.{escaped}
use Rattle.label_set.proofs.print.push_each_escaped.Given as goal

abbrev pub invariant-loop-byte : goal.invariant-loop-byte
invariant-loop-byte l = record {
  written : l.text.items ≡ l.fn.text.items ++ escaped (take l.byte-index l.bytes);
  len : vec_len l.text ≡ vec_len l.fn.text + length (escaped (take l.byte-index l.bytes));
  capacity : vec_capacity l.fn.text ≤ vec_capacity l.text;
}
