use Rattle.std.proofs.Common.{◌≡◌, ◌∙◌, ℕ, List, Some, ap, cond, rules}
use Rattle.std.specs.BTreeMap.{get, is_at}
use Rattle.label_set.specs.Bytes.{bytes_cmp}
use Rattle.instant_view.proofs.NoteLemmas.{name_more, name_new, same_keys, with_key}
use Rattle.instant_view.proofs.threads.note_name.Goals as goal

pub returns-in_err-insert-clause-others : goal.returns-in_err-insert-clause-others
returns-in_err-insert-clause-others c =
    let old = c.args.named.now in
    let more = c.insert.new.self in
    let new = c.get_mut.follows.lender more in
    let updated : (q : List ℕ) → get bytes_cmp new q ≡ cond (is_at (bytes_cmp c.in_ok-name.name) q) (Some more) (get bytes_cmp old q) = search rules in
    name_more old new c.in_ok-name.name more updated c.in-Some.sets.now c.in-Some.ensures.value (same_keys c.in-Some.sets.now more c.in_err-insert.ensures.err)

pub returns-in-Some-clause-others : goal.returns-in-Some-clause-others
returns-in-Some-clause-others c =
    let old = c.args.named.now in
    let more = c.insert.new.self in
    let new = c.get_mut.follows.lender more in
    let updated : (q : List ℕ) → get bytes_cmp new q ≡ cond (is_at (bytes_cmp c.in_ok-name.name) q) (Some more) (get bytes_cmp old q) = search rules in
    name_more old new c.in_ok-name.name more updated c.in-Some.sets.now c.in-Some.ensures.value (with_key c.in-Some.sets.now more c.in_ok-series.series c.in_ok-insert.ensures.updates.0)

pub returns-clause-others : goal.returns-clause-others
returns-clause-others c =
    let old = c.args.named.now in
    let same : (q : List ℕ) → get bytes_cmp c.get_mut.follows.lender-at-none q ≡ get bytes_cmp old q = search rules in
    name_new old c.insert-3.new.self c.in_ok-name.name c.insert-2.new.self
    (λ q. c.in_ok-insert-3.ensures.updates.0 q ∙ ap (cond (is_at (bytes_cmp c.in_ok-name.name) q) (Some c.insert-2.new.self)) (same q)) c.in_default.ensures.value
