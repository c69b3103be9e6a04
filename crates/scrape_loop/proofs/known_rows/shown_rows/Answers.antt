use Rattle.std.proofs.Common.{◌≡◌, is_some, sym, ap, ◌∙◌, ℤ, to_z, of_z, w64}
use Rattle.std.proofs.lemmas.Int.{to_z-of_z}
use Rattle.sample_rows.specs.Outcomes.{outcome, rows_or_fault}
use Rattle.scrape_loop.specs.Texts.{texts_by}
use Rattle.scrape_loop.proofs.SettleLemmas.{Leaves, bad_leaves, good_leaves}
use Rattle.scrape_loop.proofs.TextLemmas.{put_since}
use Rattle.scrape_loop.proofs.known_rows.shown_rows.Goals as goal
use Rattle.scrape_loop.proofs.known_rows.shown_rows.Goals.{then-is_some, else-is_some}

shown : (g : _) (c : goal.Joined-is_some g) →
    c.known_rows.new.cache
    ≡ texts_by c.args.terms.now.rules.now c.args.terms.now.metric.now c.args.terms.now.target.now c.args.cache.now (rows_or_fault c.args.terms.now.rules.now c.args.reply.now c.args.took)
shown g c =
    let rules = c.args.terms.now.rules.now in
    c.in-Ok.ensures.cache
    ∙ ap (λ (t : ℤ). texts_by rules c.args.terms.now.metric.now c.args.terms.now.target.now c.args.cache.now (rows_or_fault rules c.args.reply.now t)) (to_z-of_z w64 c.args.took c.ranges.took)

leaves : (g : _) (c : goal.Joined-is_some g) →
    Leaves (texts_by c.args.terms.now.rules.now c.args.terms.now.metric.now c.args.terms.now.target.now c.args.cache.now (rows_or_fault c.args.terms.now.rules.now c.args.reply.now c.args.took))
    c.args.cache.now c.if-is_some.cache c.in-Ok.scrape
leaves g c =
    let rules = c.args.terms.now.rules.now in
    let metric = c.args.terms.now.metric.now in
    let target = c.args.terms.now.target.now in
    let old = c.args.cache.now in
    let texts = texts_by rules metric target old (rows_or_fault rules c.args.reply.now c.args.took) in
    let s = c.in-Ok.scrape in
    let took : to_z w64 (of_z w64 c.args.took) ≡ c.args.took = to_z-of_z w64 c.args.took c.ranges.took in
    let told = c.in-Ok.ensures.outcome ∙ ap (outcome rules metric target c.args.reply.now) took in
    elim c.if-is_some.branch [
      | then-is_some w ↦
          bad_leaves texts old c.if-is_some.cache c.known_rows.new.cache s c.requires.rest (w.cache-is ∙ w.undo-then-is_some.ensures.undone) (shown g c)
          c.known_rows.ensures.undone (sym (c.is_some.ensures ∙ ap is_some c.fault_in.ensures) ∙ w.if-is_some.true)
      | else-is_some w ↦
          good_leaves rules metric target old c.requires.right c.requires.rest c.args.reply.now c.args.took c.if-is_some.cache s (w.cache-is ∙ shown g c) told
          (sym (c.is_some.ensures ∙ ap is_some c.fault_in.ensures) ∙ w.if-is_some.false)
    ]

pub returns-after-is_some-clause-shows : goal.returns-after-is_some-clause-shows
returns-after-is_some-clause-shows g c = (leaves g c).shows

pub returns-after-is_some-clause-cache : goal.returns-after-is_some-clause-cache
returns-after-is_some-clause-cache g c = (leaves g c).cache

pub returns-after-is_some-clause-was : goal.returns-after-is_some-clause-was
returns-after-is_some-clause-was g c = (leaves g c).was

pub returns-after-is_some-clause-runs : goal.returns-after-is_some-clause-runs
returns-after-is_some-clause-runs g c =
    c.put_count-runs.ensures ∙ put_since c.args.cache.now c.known_rows.new.cache _ c.requires.rest c.requires.kept c.known_rows.ensures.undone (shown g c)
