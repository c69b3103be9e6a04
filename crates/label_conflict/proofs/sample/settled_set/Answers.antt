use Rattle.std.proofs.Common.{◌≡◌, ◌++◌, [], List, ℕ, ap, sym, subst, ◌∙◌}
use Rattle.std.specs.Prelude.{map, IfOk}
use Rattle.label_set.specs.Lasts.{with_labels}
use Rattle.label_set.specs.Borrowed.{pair_of}
use Rattle.label_set.specs.declared.texts.Pair.{Pair}
use Rattle.label_set.proofs.OfLemmas.{with_labels-append}
use Rattle.label_conflict.specs.Merging.{settled}
use Rattle.label_conflict.specs.Names.{under}
use Rattle.label_conflict.proofs.sample.settled_set.Goals as goal

pub returns : goal.returns
returns c =
    let labels = map pair_of c.args.labels.now in
    let conflicts = map pair_of c.args.conflicts.now in
    let renamed = under c.in_ok-names.names.keys conflicts in
    let given : map pair_of c.as_slice-2.result.now ≡ renamed =
    ap (map pair_of) c.as_slice-2.ensures.value ∙ c.in_ok-given.ensures ∙ ap (λ (ns : List (List ℕ)). under ns conflicts) c.as_slice.ensures.keys in
    let named : settled conflicts labels ≡ labels ++ renamed =
    subst (λ (ls : List Pair). settled conflicts ls ≡ ls ++ renamed) c.in_ok-of.ensures c.in_ok-names.ensures.names in
    let all : with_labels c.in_ok-set.set (map pair_of c.as_slice-2.result.now) ≡ with_labels [] (settled conflicts labels) =
    ap (with_labels c.in_ok-set.set) given
    ∙ ap (λ (set : List Pair). with_labels set renamed) c.in_ok-set.ensures
    ∙ sym (with_labels-append [] labels renamed)
    ∙ ap (with_labels []) (sym named) in
    subst (λ (set : List Pair). IfOk c.with_all.result (λ s. s ≡ set)) all c.with_all.ensures
