-- Joined labels that are sorted by name are the set that is wanted.
use Rattle.std.proofs.Common.{◌≡◌, ℕ, Bool, true, false, List, [], length, sym, subst, ◌∙◌, eqb-true}
use Rattle.std.specs.Prelude.{map, ◌==◌}
use Rattle.std.specs.List.{IsDistinct}
use Rattle.std.specs.List.Sorted.{IsPermutation, IsSorted}
use Rattle.std.specs.Str.{bytes_eq}
use Rattle.std.proofs.lemmas.List.{nil_from_length}
use Rattle.std.proofs.lemmas.List.Sorted.{IsPermutation-map}
use Rattle.label_set.specs.Borrowed.{pair_of}
use Rattle.label_set.specs.Sets.{IsSet}
use Rattle.label_set.specs.SetText.{metric_label}
use Rattle.label_set.specs.declared.labels.Label.{Label}
use Rattle.label_set.specs.declared.texts.Pair.{Pair}
use Rattle.label_conflict.specs.Orders.{by_name}
use Rattle.label_conflict.specs.Merging.{bears, joined, merged, names_of}
use Rattle.label_conflict.proofs.JoinLemmas.{differ_from_names, merged_is, merged_set}
use Rattle.label_conflict.proofs.BorrowedLemmas.{sorted_from}

module _ (name : List ℕ) (exposed target : List Pair) (honor : Bool) (d : IsDistinct bytes_eq (names_of exposed)) (t : IsSet target)
    (e : bears exposed metric_label ≡ false) (u : bears target metric_label ≡ false) (labels sorted : List Label)
    (joins : map pair_of labels ≡ joined name exposed target honor) (moved : IsPermutation labels sorted)
    (s : IsSorted (λ one other. by_name (pair_of one) (pair_of other)) sorted) where
  moves : IsPermutation (joined name exposed target honor) (map pair_of sorted)
  moves = subst (λ ps. IsPermutation ps (map pair_of sorted)) joins (IsPermutation-map pair_of labels sorted moved)

  pub sorted_fits : IsSet (map pair_of sorted)
  sorted_fits = merged_set name exposed target (differ_from_names exposed d) t e u honor (map pair_of sorted) moves (sorted_from by_name sorted s)

  pub sorted_merges : map pair_of sorted ≡ merged name exposed target honor
  sorted_merges = merged_is name exposed target (differ_from_names exposed d) t e u honor (map pair_of sorted) moves (sorted_from by_name sorted s)

-- labels of which there are none
pub no_labels : (ls : List Label) (n : ℕ) → n ≡ length ls → (n == 0) ≡ true → ls ≡ []
no_labels ls n e z = nil_from_length ls (sym e ∙ eqb-true n 0 z)
