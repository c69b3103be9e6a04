use Rattle.std.proofs.Common.{◌≡◌, ◌∙◌, ◌≤◌, slice_get, sym, subst, suc, length, arith, Some, w64, to_z, of_z, List, IfOk, false}
use Rattle.std.proofs.lemmas.Int.{to_z-of_z}
use Rattle.std.proofs.lemmas.Option.{slice_get_past}
use Rattle.label_set.specs.declared.texts.Pair.{Pair}
use Rattle.instant_view.specs.Threads.{IsBackTo, IsLastOf, IsSeenAs, Rise, is_later}
use Rattle.instant_view.proofs.LinkLemmas.{not_later}
use Rattle.instant_view.proofs.RowLemmas.{get_there, none_before, none_there, row_ok, zero_of}
use Rattle.instant_view.proofs.threads.Threads.row_of_series.Goals as goal

pub end_by-end-requires-clause-rise : goal.end_by-end-requires-clause-rise
end_by-end-requires-clause-rise c = subst Rise (sym c.deref.ensures.value) c.requires.rise

pub row_of-requires : goal.row_of-requires
row_of-requires c =
    let kept = c.deref.result.now in
    let p = c.in-Some-get.placed.now in
    let place = c.in-Some.place in
    let end : c.end_by-end.result ≡ suc place = omega (arith, c.in-Some.ensures) in
    let same : c.deref-3.result.now ≡ kept = c.deref-3.ensures.value ∙ sym c.deref.ensures.value in
    let there : slice_get kept place ≡ Some p =
    subst (λ ks. slice_get ks place ≡ Some p) same (get_there c.deref-3.result.now place p c.in-Some-get.ensures.lookup.3.0 c.in-Some-get.ensures.lookup.1) in
    not_later kept place p (to_z w64 (of_z w64 c.args.moment)) there
    (subst (λ n. is_later kept n (to_z w64 (of_z w64 c.args.moment)) ≡ false) end c.end_by-end.ensures.early)

pub returns-in_default : goal.returns-in_default
returns-in_default c =
    let kept = c.args.self.now.kept.items in
    let t = to_z w64 (of_z w64 c.args.moment) in
    let end = c.end_by-end.result in
    let back : (series : List Pair) → IsLastOf kept series (length kept) c.args.end → IsBackTo kept series c.args.moment end =
    λ series last.
    subst (λ m. IsBackTo kept series m end) (to_z-of_z w64 c.args.moment c.ranges.moment)
    (subst (λ ks. IsBackTo ks series t end) c.deref.ensures.value
    (c.end_by-end.ensures.back series (subst (λ ks. IsLastOf ks series (length ks) c.args.end) (sym c.deref.ensures.value) last))) in
    λ series last. none_before kept c.args.moment series end (zero_of end c.in_default.ensures) (back series last)

pub returns-in-None : goal.returns-in-None
returns-in-None c =
    let kept = c.args.self.now.kept.items in
    let t = to_z w64 (of_z w64 c.args.moment) in
    let end = c.end_by-end.result in
    let place = c.in-Some.place in
    let end_is : end ≡ suc place = omega (arith, c.in-Some.ensures) in
    let past : length kept ≤ place = subst (λ ks. length ks ≤ place) c.deref-3.ensures.value c.in-None.ensures.lookup.3 in
    let back : (series : List Pair) → IsLastOf kept series (length kept) c.args.end → IsBackTo kept series c.args.moment end =
    λ series last.
    subst (λ m. IsBackTo kept series m end) (to_z-of_z w64 c.args.moment c.ranges.moment)
    (subst (λ ks. IsBackTo ks series t end) c.deref.ensures.value
    (c.end_by-end.ensures.back series (subst (λ ks. IsLastOf ks series (length ks) c.args.end) (sym c.deref.ensures.value) last))) in
    λ series last. none_there kept c.args.moment series place (slice_get_past kept place past) (subst (IsBackTo kept series c.args.moment) end_is (back series last))

pub returns-in-Some-get : goal.returns-in-Some-get
returns-in-Some-get c =
    let kept = c.args.self.now.kept.items in
    let t = to_z w64 (of_z w64 c.args.moment) in
    let m : t ≡ c.args.moment = to_z-of_z w64 c.args.moment c.ranges.moment in
    let end = c.end_by-end.result in
    let place = c.in-Some.place in
    let p = c.in-Some-get.placed.now in
    let end_is : end ≡ suc place = omega (arith, c.in-Some.ensures) in
    let back : (series : List Pair) → IsLastOf kept series (length kept) c.args.end → IsBackTo kept series c.args.moment end =
    λ series last.
    subst (λ n. IsBackTo kept series n end) m
    (subst (λ ks. IsBackTo ks series t end) c.deref.ensures.value
    (c.end_by-end.ensures.back series (subst (λ ks. IsLastOf ks series (length ks) c.args.end) (sym c.deref.ensures.value) last))) in
    let there : slice_get kept place ≡ Some p =
    subst (λ ks. slice_get ks place ≡ Some p) c.deref-3.ensures.value (get_there c.deref-3.result.now place p c.in-Some-get.ensures.lookup.3.0 c.in-Some-get.ensures.lookup.1) in
    let early : is_later kept (suc place) c.args.moment ≡ false =
    subst (λ n. is_later kept n c.args.moment ≡ false) end_is
    (subst (λ n. is_later kept end n ≡ false) m (subst (λ ks. is_later ks end t ≡ false) c.deref.ensures.value c.end_by-end.ensures.early)) in
    λ series last.
    row_ok kept c.args.moment series c.row_of.result place p there (subst (IsBackTo kept series c.args.moment) end_is (back series last)) (not_later kept place p c.args.moment there early)
    (subst (λ n. IfOk c.row_of.result (λ o. IsSeenAs n p o)) m c.row_of.ensures)
