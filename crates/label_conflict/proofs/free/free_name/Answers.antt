use Rattle.std.proofs.Common.{◌++◌, ◌≡◌, ◌<◌, ◌∙◌, sym, subst, ap, true, false}
use Rattle.label_conflict.specs.Merging.{bears, exported}
use Rattle.label_conflict.specs.Names.{bare}
use Rattle.label_conflict.proofs.FreeLemmas.{reach, free_from, next_name, passed_on, stops_at, fewer, longer}
use Rattle.label_conflict.proofs.free.free_name.Goals as goal

pub loop-alloc-init : goal.loop-alloc-init
loop-alloc-init c = next_name (c.args.labels.now ++ bare c.args.renamed.now.keys) c.args.name.now ∙ ap (λ n. free_from (c.args.labels.now ++ bare c.args.renamed.now.keys) n) (sym c.in_ok-free.ensures)

pub loop-alloc-smaller : goal.loop-alloc-smaller
loop-alloc-smaller c =
    let is : c.in_ok-free-2.free ≡ exported c.loop-alloc.free = c.in_ok-free-2.ensures ∙ ap exported c.as_str.ensures in
    let borne : bears (c.args.labels.now ++ bare c.args.renamed.now.keys) c.loop-alloc.free ≡ true = sym c.is_taken.ensures ∙ c.loop-alloc-test.true in
    subst (λ n. reach (c.args.labels.now ++ bare c.args.renamed.now.keys) n < reach (c.args.labels.now ++ bare c.args.renamed.now.keys) c.loop-alloc.free) (sym is) (fewer (c.args.labels.now ++ bare c.args.renamed.now.keys) c.loop-alloc.free (exported c.loop-alloc.free) (longer c.loop-alloc.free) borne)

pub loop-alloc-preserved : goal.loop-alloc-preserved
loop-alloc-preserved c =
    let is : c.in_ok-free-2.free ≡ exported c.loop-alloc.free = c.in_ok-free-2.ensures ∙ ap exported c.as_str.ensures in
    let borne : bears (c.args.labels.now ++ bare c.args.renamed.now.keys) c.loop-alloc.free ≡ true = sym c.is_taken.ensures ∙ c.loop-alloc-test.true in
    c.loop-alloc.invariant ∙ passed_on (c.args.labels.now ++ bare c.args.renamed.now.keys) c.loop-alloc.free borne ∙ ap (λ n. free_from (c.args.labels.now ++ bare c.args.renamed.now.keys) n) (sym is)

pub returns : goal.returns
returns c =
    let unborne : bears (c.args.labels.now ++ bare c.args.renamed.now.keys) c.loop-alloc.free ≡ false = sym c.is_taken.ensures ∙ c.loop-alloc-test.false in
    c.loop-alloc.invariant ∙ stops_at (c.args.labels.now ++ bare c.args.renamed.now.keys) c.loop-alloc.free unborne
