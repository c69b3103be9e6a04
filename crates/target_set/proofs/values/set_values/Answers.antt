use Rattle.std.proofs.Common.{◌≡◌, ◌∷◌, List, ℕ, sym, ap, refl, ◌∙◌, Bool, true, false, None}
use Rattle.std.specs.Prelude.{is_some, option_map}
use Rattle.std.specs.Option.{option_or}
use Rattle.std.specs.Borrow.{Bor}
use Rattle.std.specs.HashMap.{get_by}
use Rattle.std.specs.Str.{bytes_eq}
use Rattle.label_set.specs.Borrowed.{pair_of}
use Rattle.label_set.specs.declared.texts.Pair.{Pair}
use Rattle.target_set.specs.Requests.{param_name, set_value}
use Rattle.target_set.specs.Values.{found}
use Rattle.target_set.proofs.ValueLemmas.{some_found, passed_label, repeated_label, new_label, all_labels}
use Rattle.target_set.proofs.values.set_values.Goals as goal

pub loop-label-preserved-then-not-contains_key : goal.loop-label-preserved-then-not-contains_key
loop-label-preserved-then-not-contains_key c =
    let m = c.loop-label.values in
    let all = set_value c.args.identity.now in
    let p = pair_of c.in-Some.label in
    let ps = c.next.new.self in
    let before : (q : List ℕ) → option_or (found m q) (set_value (p ∷ ps) q) ≡ all q =
    λ q. ap (λ (rs : List Pair). option_or (found m q) (set_value rs q)) (sym c.in-Some.ensures.steps) ∙ c.loop-label.invariant q in
    let name = c.in-Some-param_name.name in
    let lacks : is_some (found m name.now) ≡ false =
    some_found (λ (v : Bor (List ℕ)). v.now) (get_by (λ (k : Bor (List ℕ)). bytes_eq name.now k.now) m) ∙ sym c.contains_key.ensures ∙ c.if-not-contains_key.true in
    new_label m all p ps before c.insert.new.self name c.in-Some.label.value (sym c.in-Some-param_name.ensures) refl lacks c.in_ok-insert.ensures.updates

pub loop-label-preserved-else-not-contains_key : goal.loop-label-preserved-else-not-contains_key
loop-label-preserved-else-not-contains_key c =
    let m = c.loop-label.values in
    let all = set_value c.args.identity.now in
    let p = pair_of c.in-Some.label in
    let ps = c.next.new.self in
    let before : (q : List ℕ) → option_or (found m q) (set_value (p ∷ ps) q) ≡ all q =
    λ q. ap (λ (rs : List Pair). option_or (found m q) (set_value rs q)) (sym c.in-Some.ensures.steps) ∙ c.loop-label.invariant q in
    let name = c.in-Some-param_name.name in
    let has : is_some (found m name.now) ≡ true =
    some_found (λ (v : Bor (List ℕ)). v.now) (get_by (λ (k : Bor (List ℕ)). bytes_eq name.now k.now) m) ∙ sym c.contains_key.ensures ∙ c.if-not-contains_key.false in
    repeated_label m all p ps before name.now (sym c.in-Some-param_name.ensures) has

pub loop-label-preserved : goal.loop-label-preserved
loop-label-preserved c =
    let m = c.loop-label.values in
    let all = set_value c.args.identity.now in
    let p = pair_of c.in-Some.label in
    let ps = c.next.new.self in
    let before : (q : List ℕ) → option_or (found m q) (set_value (p ∷ ps) q) ≡ all q =
    λ q. ap (λ (rs : List Pair). option_or (found m q) (set_value rs q)) (sym c.in-Some.ensures.steps) ∙ c.loop-label.invariant q in
    let none : param_name p.name ≡ None = sym c.param_name.ensures ∙ ap (option_map (λ (n : Bor (List ℕ)). n.now)) c.in_default.is in
    passed_label m all p ps before none

pub returns : goal.returns
returns c =
    all_labels c.loop-label.values (set_value c.args.identity.now) c.loop-label.label-iterator c.in-None.ensures.steps.0 c.loop-label.invariant
