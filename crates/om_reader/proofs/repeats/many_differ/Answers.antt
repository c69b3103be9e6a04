use Rattle.std.proofs.Common.{◌≡◌, ◌∙◌, ◌++◌, ◌∷◌, [], ℕ, List, ap, sym, not, true, false, if◌then◌else◌}
use Rattle.std.specs.Borrow.{Bor}
use Rattle.std.specs.List.{list_any}
use Rattle.std.specs.Str.{bytes_eq}
use Rattle.om_reader.proofs.LabelLemmas.{again-seen, differ-again, differ-end, differ-more, first-seen, names_seen, seen-more}
use Rattle.om_reader.proofs.repeats.many_differ.Goals as goal

pub returns-then-not-is_new : goal.returns-then-not-is_new
returns-then-not-is_new c =
    let keys = c.loop-name.seen.keys in
    let x = c.name.inside.bytes in
    let added : c.in_ok-is_new.is_new ≡ not (list_any (λ (n : Bor (List ℕ)). bytes_eq x.now n.now) keys) = c.in_ok-is_new.ensures.added in
    let again = again-seen keys x c.in_ok-is_new.is_new added c.if-not-is_new.true in
    let found : list_any (bytes_eq c.name-item.result) (names_seen keys) ≡ true = ap (λ (n : List ℕ). list_any (bytes_eq n) (names_seen keys)) (sym c.name.view_is) ∙ again in
    sym (differ-again (names_seen keys) c.args.names.now c.loop-name.name-index c.name-item.result c.name-item.is c.loop-name-test.true found) ∙ c.loop-name.invariant

pub loop-name-preserved : goal.loop-name-preserved
loop-name-preserved c =
    let keys = c.loop-name.seen.keys in
    let x = c.name.inside.bytes in
    let added : c.in_ok-is_new.is_new ≡ not (list_any (λ (n : Bor (List ℕ)). bytes_eq x.now n.now) keys) = c.in_ok-is_new.ensures.added in
    let first = first-seen keys x c.in_ok-is_new.is_new added c.if-not-is_new.false in
    let more : c.insert.new.self.keys ≡ (if list_any (λ (n : Bor (List ℕ)). bytes_eq x.now n.now) keys then keys else (keys ++ x ∷ [])) = c.in_ok-is_new.ensures.keys in
    let seen : names_seen c.insert.new.self.keys ≡ names_seen keys ++ c.name-item.result ∷ [] =
    seen-more keys x c.insert.new.self.keys more first ∙ ap (λ (n : List ℕ). names_seen keys ++ n ∷ []) c.name.view_is in
    let found : list_any (bytes_eq c.name-item.result) (names_seen keys) ≡ false = ap (λ (n : List ℕ). list_any (bytes_eq n) (names_seen keys)) (sym c.name.view_is) ∙ first in
    rw seen (differ-more (names_seen keys) c.args.names.now c.loop-name.name-index c.name-item.result c.name-item.is c.loop-name-test.true found ∙ c.loop-name.invariant)

pub returns : goal.returns
returns c = sym (differ-end (names_seen c.loop-name.seen.keys) c.args.names.now c.loop-name.name-index c.loop-name-test.false) ∙ c.loop-name.invariant
