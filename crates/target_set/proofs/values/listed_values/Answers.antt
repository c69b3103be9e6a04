use Rattle.std.proofs.Common.{◌≡◌, List, ℕ, sym, ap, refl, ◌∙◌, Bool, true, false}
use Rattle.std.specs.Prelude.{is_some}
use Rattle.std.specs.Borrow.{Bor}
use Rattle.std.specs.HashMap.{get_by}
use Rattle.std.specs.Str.{bytes_eq}
use Rattle.target_set.specs.Values.{found}
use Rattle.target_set.proofs.ValueLemmas.{some_found, repeated_param, new_param}
use Rattle.target_set.proofs.values.listed_values.Goals as goal

pub loop-param-preserved-then-contains_key : goal.loop-param-preserved-then-contains_key
loop-param-preserved-then-contains_key c =
    let m = c.loop-param.values in
    let p = c.param-item.result in
    let named : c.as_str-name.result.now ≡ p.name = c.as_str-name.ensures in
    let has : is_some (found m p.name) ≡ true =
    ap (λ (n : List ℕ). is_some (found m n)) (sym named)
    ∙ some_found (λ (v : Bor (List (List ℕ))). v.now) (get_by (λ (k : Bor (List ℕ)). bytes_eq c.as_str-name.result.now k.now) m) ∙ sym c.contains_key.ensures ∙ c.if-contains_key.true in
    repeated_param m c.args.params.now c.loop-param.param-index p c.loop-param-test.true c.param-item.is c.loop-param.invariant has

pub loop-param-preserved : goal.loop-param-preserved
loop-param-preserved c =
    let m = c.loop-param.values in
    let p = c.param-item.result in
    let named : c.as_str-name.result.now ≡ p.name = c.as_str-name.ensures in
    let lacks : is_some (found m p.name) ≡ false =
    ap (λ (n : List ℕ). is_some (found m n)) (sym named)
    ∙ some_found (λ (v : Bor (List (List ℕ))). v.now) (get_by (λ (k : Bor (List ℕ)). bytes_eq c.as_str-name.result.now k.now) m) ∙ sym c.contains_key.ensures ∙ c.if-contains_key.false in
    new_param m c.args.params.now c.loop-param.param-index p c.loop-param-test.true c.param-item.is c.loop-param.invariant c.insert.new.self c.as_str-name.result c.as_slice.result named
    c.as_slice.ensures lacks c.in_ok-insert.ensures.updates
