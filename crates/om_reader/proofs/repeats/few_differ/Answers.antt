use Rattle.std.proofs.Common.{◌≡◌, ◌∙◌, ℕ, List, ap, sym, take, false, true}
use Rattle.std.specs.List.{list_any}
use Rattle.std.specs.Str.{bytes_eq}
use Rattle.om_reader.proofs.LabelLemmas.{differ-again, differ-end, next-name}
use Rattle.om_reader.proofs.repeats.few_differ.Goals as goal

pub returns-then-has_name : goal.returns-then-has_name
returns-then-has_name c =
    let xs = c.args.names.now in
    let i = c.loop-i.i in
    let found : list_any (bytes_eq c.index-names-i.result) (take i xs) ≡ true =
    ap (λ (n : List ℕ). list_any (bytes_eq n) (take i xs)) (sym c.name.view_is) ∙ sym c.has_name.ensures ∙ c.if-has_name.true in
    sym (differ-again (take i xs) xs i c.index-names-i.result c.index-names-i.is c.loop-i-test.true found) ∙ c.loop-i.invariant

pub loop-i-preserved : goal.loop-i-preserved
loop-i-preserved c =
    let xs = c.args.names.now in
    let i = c.loop-i.i in
    let found : list_any (bytes_eq c.index-names-i.result) (take i xs) ≡ false =
    ap (λ (n : List ℕ). list_any (bytes_eq n) (take i xs)) (sym c.name.view_is) ∙ sym c.has_name.ensures ∙ c.if-has_name.false in
    next-name xs i c.index-names-i.result c.index-names-i.is c.loop-i-test.true found ∙ c.loop-i.invariant

pub returns : goal.returns
returns c = sym (differ-end _ c.args.names.now c.loop-i.i c.loop-i-test.false) ∙ c.loop-i.invariant
