use Rattle.std.proofs.Common.{rules, ◌≡◌, [], List, ap, ◌∙◌, subst}
use Rattle.std.specs.Prelude.{map}
use Rattle.label_set.specs.Flat.{labels_of}
use Rattle.label_set.specs.Lasts.{with_labels, lasts, Encodes}
use Rattle.label_set.specs.declared.ordered.Named.{Named}
use Rattle.label_set.specs.Borrowed.{pair_of}
use Rattle.label_set.specs.Named.{named_pair}
use Rattle.label_set.proofs.SplitLemmas.{made}
use Rattle.label_set.proofs.OfLemmas.{of_sorted, sorted_is_set, named_back}
use Rattle.label_set.proofs.sets.LabelSet.of_unordered.Goals as goal

pub from_bytes-requires : goal.from_bytes-requires
from_bytes-requires c =
    let same = c.as_slice.ensures.value in
    let bytes : Encodes c.in_ok-bytes.bytes.items (lasts (map named_pair c.sort.new.self.items)) = subst (λ (ns : List Named). Encodes c.in_ok-bytes.bytes.items (lasts (map named_pair ns))) same c.in_ok-bytes.ensures in
    (made c.in_ok-bytes.bytes.items (lasts (map named_pair c.sort.new.self.items)) bytes.bytes bytes.labels (sorted_is_set c.sort.new.self.items c.in_ok-sort.ensures.sorted)).set

pub returns : goal.returns
returns c =
    let same = c.as_slice.ensures.value in
    let bytes : Encodes c.in_ok-bytes.bytes.items (lasts (map named_pair c.sort.new.self.items)) = subst (λ (ns : List Named). Encodes c.in_ok-bytes.bytes.items (lasts (map named_pair ns))) same c.in_ok-bytes.ensures in
    let labels = (made c.in_ok-bytes.bytes.items (lasts (map named_pair c.sort.new.self.items)) bytes.bytes bytes.labels (sorted_is_set c.sort.new.self.items c.in_ok-sort.ensures.sorted)).labels in
    let all = of_sorted c.in_ok-sorted.sorted.items c.sort.new.self.items c.in_ok-sort.ensures.sorted c.in_ok-sort.ensures.stable in
    let given : map named_pair c.in_ok-sorted.sorted.items ≡ map pair_of c.args.labels.now = ap (map named_pair) c.in_ok-sorted.ensures ∙ named_back c.args.labels.now in
    let whole : labels_of c.in_ok-bytes.bytes.items ≡ with_labels [] (map pair_of c.args.labels.now) = labels ∙ all ∙ ap (with_labels []) given in
    search (rules, whole)
