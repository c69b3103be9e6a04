use Rattle.std.proofs.Common.{◌≡◌, [], List, Bool, true, sym, ap, ◌∙◌, ◌++◌, subst}
use Rattle.std.specs.Prelude.{map}
use Rattle.label_set.specs.Borrowed.{pair_of}
use Rattle.label_set.specs.Sets.{IsSet}
use Rattle.label_set.specs.Lasts.{with_labels}
use Rattle.label_set.specs.declared.texts.Pair.{Pair}
use Rattle.label_set.specs.declared.labels.Label.{Label}
use Rattle.label_conflict.specs.Merging as spec
use Rattle.label_conflict.specs.Merging.{settled, joined, merged, name_label, apart_from}
use Rattle.label_conflict.proofs.MergeLemmas.{merged_put}
use Rattle.label_conflict.proofs.SortLemmas.{no_labels, sorted_fits, sorted_merges}
use Rattle.label_conflict.proofs.sample.merge_borrowed.Goals as goal

pub from_labels-requires : goal.from_labels-requires
from_labels-requires c =
    let exposed = map pair_of c.args.exposed.now in
    let joins : map pair_of c.in_ok-labels.labels.items ≡ joined c.args.name.now exposed c.args.target.now c.args.honor =
    c.in_ok-labels.ensures ∙ ap (λ (ts : List Pair). joined c.args.name.now exposed ts true) (c.labels.ensures ∙ c.names-borne.ensures.names)
    ∙ ap (joined c.args.name.now exposed c.args.target.now) (sym c.if-honor.true) in
    subst (λ (ls : List Label). IsSet (map pair_of ls)) (sym c.as_slice.ensures.value)
    (sorted_fits c.args.name.now exposed c.args.target.now c.args.honor c.requires.names_differ c.names-borne.ensures.set c.requires.no_name_exposed c.requires.no_name_in_target
    c.in_ok-labels.labels.items c.sort_by_name.new.labels.items joins c.sort_by_name.ensures.moved c.sort_by_name.ensures.sorted)

pub returns-then-honor : goal.returns-then-honor
returns-then-honor c =
    let exposed = map pair_of c.args.exposed.now in
    let joins : map pair_of c.in_ok-labels.labels.items ≡ joined c.args.name.now exposed c.args.target.now c.args.honor =
    c.in_ok-labels.ensures ∙ ap (λ (ts : List Pair). joined c.args.name.now exposed ts true) (c.labels.ensures ∙ c.names-borne.ensures.names)
    ∙ ap (joined c.args.name.now exposed c.args.target.now) (sym c.if-honor.true) in
    let all : map pair_of c.as_slice.result.now ≡ merged c.args.name.now exposed c.args.target.now c.args.honor =
    ap (map pair_of) c.as_slice.ensures.value
    ∙ sorted_merges c.args.name.now exposed c.args.target.now c.args.honor c.requires.names_differ c.names-borne.ensures.set c.requires.no_name_exposed c.requires.no_name_in_target
    c.in_ok-labels.labels.items c.sort_by_name.new.labels.items joins c.sort_by_name.ensures.moved c.sort_by_name.ensures.sorted in
    record { merged = rw all at c.from_labels.ensures }

pub from_labels-requires-then-is_empty : goal.from_labels-requires-then-is_empty
from_labels-requires-then-is_empty c =
    let exposed = map pair_of c.args.exposed.now in
    let target = c.args.target.now in
    let none : spec.conflicts exposed target ≡ [] =
    ap (spec.conflicts exposed) (sym c.names-borne.ensures.names) ∙ sym c.in_ok-found.ensures
    ∙ ap (map pair_of) (no_labels c.in_ok-found.found.items _ c.in_ok-found.found.ok.0 (sym c.is_empty.ensures ∙ c.if-is_empty.true)) in
    let joins : map pair_of c.in_ok-labels-2.labels.items ≡ joined c.args.name.now exposed target c.args.honor =
    c.in_ok-labels-2.ensures ∙ ap (λ (ts : List Pair). name_label c.args.name.now ++ (apart_from ts exposed ++ ts)) c.names-borne.ensures.names
    ∙ ap (λ (ps : List Pair). settled ps (name_label c.args.name.now ++ (apart_from target exposed ++ target))) (sym none)
    ∙ ap (joined c.args.name.now exposed target) (sym c.if-honor.false) in
    subst (λ (ls : List Label). IsSet (map pair_of ls)) (sym c.as_slice-then-is_empty.ensures.value)
    (sorted_fits c.args.name.now exposed target c.args.honor c.requires.names_differ c.names-borne.ensures.set c.requires.no_name_exposed c.requires.no_name_in_target
    c.in_ok-labels-2.labels.items c.sort_by_name-then-is_empty.new.labels.items joins c.sort_by_name-then-is_empty.ensures.moved c.sort_by_name-then-is_empty.ensures.sorted)

pub returns-then-is_empty : goal.returns-then-is_empty
returns-then-is_empty c =
    let exposed = map pair_of c.args.exposed.now in
    let target = c.args.target.now in
    let none : spec.conflicts exposed target ≡ [] =
    ap (spec.conflicts exposed) (sym c.names-borne.ensures.names) ∙ sym c.in_ok-found.ensures
    ∙ ap (map pair_of) (no_labels c.in_ok-found.found.items _ c.in_ok-found.found.ok.0 (sym c.is_empty.ensures ∙ c.if-is_empty.true)) in
    let joins : map pair_of c.in_ok-labels-2.labels.items ≡ joined c.args.name.now exposed target c.args.honor =
    c.in_ok-labels-2.ensures ∙ ap (λ (ts : List Pair). name_label c.args.name.now ++ (apart_from ts exposed ++ ts)) c.names-borne.ensures.names
    ∙ ap (λ (ps : List Pair). settled ps (name_label c.args.name.now ++ (apart_from target exposed ++ target))) (sym none)
    ∙ ap (joined c.args.name.now exposed target) (sym c.if-honor.false) in
    let all : map pair_of c.as_slice-then-is_empty.result.now ≡ merged c.args.name.now exposed target c.args.honor =
    ap (map pair_of) c.as_slice-then-is_empty.ensures.value
    ∙ sorted_merges c.args.name.now exposed target c.args.honor c.requires.names_differ c.names-borne.ensures.set c.requires.no_name_exposed c.requires.no_name_in_target
    c.in_ok-labels-2.labels.items c.sort_by_name-then-is_empty.new.labels.items joins c.sort_by_name-then-is_empty.ensures.moved c.sort_by_name-then-is_empty.ensures.sorted in
    record { merged = rw all at c.from_labels-then-is_empty.ensures }

pub returns : goal.returns
returns c =
    let exposed = map pair_of c.args.exposed.now in
    let target = c.args.target.now in
    let borne : c.names-borne.result.now ≡ target = c.names-borne.ensures.names in
    let put = merged_put c.args.name.now exposed target c.args.honor c.requires.names_differ c.names-borne.ensures.set c.requires.no_name_exposed c.requires.no_name_in_target in
    let found : map pair_of c.as_slice-3.result.now ≡ spec.conflicts exposed target =
    ap (map pair_of) c.as_slice-3.ensures.value ∙ c.in_ok-found.ensures ∙ ap (spec.conflicts exposed) borne in
    let labels : map pair_of c.as_slice-2.result.now ≡ name_label c.args.name.now ++ (apart_from target exposed ++ target) =
    ap (map pair_of) c.as_slice-2.ensures.value ∙ c.in_ok-labels-2.ensures ∙ ap (λ (ts : List Pair). name_label c.args.name.now ++ (apart_from ts exposed ++ ts)) borne in
    let all : with_labels [] (settled (map pair_of c.as_slice-3.result.now) (map pair_of c.as_slice-2.result.now)) ≡ merged c.args.name.now exposed target c.args.honor =
    ap (λ (ps : List Pair). with_labels [] (settled ps (map pair_of c.as_slice-2.result.now))) found
    ∙ ap (λ (ls : List Pair). with_labels [] (settled (spec.conflicts exposed target) ls)) labels
    ∙ ap (λ (h : Bool). with_labels [] (joined c.args.name.now exposed target h)) (sym c.if-honor.false) ∙ put in
    record { merged = rw all at c.settled_set.ensures }
