-- Labels by their names alone.
use Rattle.std.specs.declared.cmp.Ordering.{Ordering}
use Rattle.std.specs.Cmp.{IsTotalOrder, on_total}
use Rattle.std.specs.Cmp.Lexicographic.{nat_list_cmp_total}
use Rattle.label_set.specs.Bytes.{bytes_cmp}
use Rattle.label_set.specs.declared.texts.Pair.{Pair}
use Rattle.label_set.specs.Borrowed.{pair_of}
use Rattle.label_set.specs.declared.ordered.Named.{Named}

abbrev pub named_pair : Named → Pair
named_pair n = pair_of n.label

abbrev pub name_cmp : Named → Named → Ordering
name_cmp x y = bytes_cmp x.label.name.now y.label.name.now

pub names_total : IsTotalOrder name_cmp
names_total = on_total (λ (n : Named). n.label.name.now) nat_list_cmp_total
