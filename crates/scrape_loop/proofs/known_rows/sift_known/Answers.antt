use Rattle.std.proofs.Common.{◌≡◌, ◌<◌, ◌+◌, List, Ok, ap, ap₂, arith, ◌∙◌, length, refl, sym, subst, subst₂}
use Rattle.std.specs.Prelude.{map, IfSome}
use Rattle.label_set.specs.Borrowed.{pair_of}
use Rattle.label_set.specs.declared.texts.Pair.{Pair}
use Rattle.rule_conf.specs.declared.conf.RuleConf.{RuleConf}
use Rattle.sample_rows.specs.Rows.{row_series}
use Rattle.sample_rows.proofs.RowLemmas.{more_samples, more_fault}
use Rattle.series_cache.specs.Caches.{CacheView, find}
use Rattle.series_cache.specs.declared.known.Known.{Known}
use Rattle.scrape_loop.specs.Texts.{AreRight, shown_row}
use Rattle.scrape_loop.proofs.FreshLemmas.{reply_grows, take_grows}
use Rattle.scrape_loop.proofs.RightLemmas.{shown_right}
use Rattle.scrape_loop.proofs.TextLemmas.{right_at, shown_more}
use Rattle.scrape_loop.proofs.known_rows.sift_known.Goals as goal

pub show_row-requires-clause-right : goal.show_row-requires-clause-right
show_row-requires-clause-right g c =
    let honor = c.args.terms.now.rules.now.honor_labels in
    let rows = c.args.body.now.rows in
    let row = c.row-row.result in
    let within : c.loop-place.place < length rows = omega (arith, c.len-place-end.ensures) in
    let target : c.in_ok-borrowed.borrowed ≡ c.args.terms.now.target.now = c.in_ok-borrowed.ensures ∙ ap (map pair_of) c.as_slice.ensures.value ∙ c.in_ok-labels.ensures.labels in
    subst₂ (λ (rules : List RuleConf) (t : List Pair). IfSome (find row.raw c.loop-place.cache.texts) (λ (k : Known). k.set ≡ row_series honor rules t row))
    (sym c.loop-place.invariant.same) (sym target)
    (right_at honor c.args.terms.now.metric.now c.args.terms.now.target.now c.args.body.now.form c.args.body.now.bytes rows c.row-row.ensures.reading c.loop-place.place row
    within c.row-row.ensures.row c.loop-place.cache.texts c.loop-place.invariant.right)

pub returns-in_err-take-clause-undone : goal.returns-in_err-take-clause-undone
returns-in_err-take-clause-undone g c = c.show_row.ensures.undone ∙ c.loop-place.invariant.undone

pub loop-place-preserved : goal.loop-place-preserved
loop-place-preserved g c =
    let rules = c.args.terms.now.rules.now in
    let metric = c.args.terms.now.metric.now in
    let labels = c.args.terms.now.target.now in
    let i = c.loop-place.place in
    let rows = c.args.body.now.rows in
    let row = c.row-row.result in
    let same = c.loop-place.invariant.same in
    let within : i < length rows = omega (arith, c.len-place-end.ensures) in
    let target : c.in_ok-borrowed.borrowed ≡ labels = c.in_ok-borrowed.ensures ∙ ap (map pair_of) c.as_slice.ensures.value ∙ c.in_ok-labels.ensures.labels in
    let series = c.in_ok-series.ensures.series ∙ ap₂ (λ (r : List RuleConf) (t : List Pair). row_series rules.honor_labels r t row) same target in
    let shown : c.show_row.new.cache ≡ shown_row rules metric labels c.loop-place.cache row =
    c.in_ok-series.ensures.cache ∙ ap₂ (λ (r : List RuleConf) (t : List Pair). shown_row rules r t c.loop-place.cache row) same target in
    record {
      same = c.in_ok-series.ensures.same ∙ same;
      samples = more_samples rules metric labels rows i i row c.in_ok-series.series within c.row-row.ensures.row
          refl series c.loop-place.sifted.samples.items c.take.new.self.samples.items c.loop-place.invariant.samples c.in_ok-take.ensures.samples;
      fault = more_fault rules metric labels rows i i row c.in_ok-series.series within c.row-row.ensures.row
          refl series rules.limits c.loop-place.sifted.fault c.take.new.self.fault c.loop-place.invariant.fault c.in_ok-take.ensures.fault;
      cache = shown ∙ ap (λ (v : CacheView). shown_row rules metric labels v row) c.loop-place.invariant.cache
          ∙ sym (shown_more rules metric labels c.args.cache.now rows i row within c.row-row.ensures.row);
      right = subst (λ (v : CacheView). AreRight rules.honor_labels metric labels v.texts) (sym shown)
          (shown_right rules metric labels c.args.body.now.form c.args.body.now.bytes rows i row c.loop-place.cache c.row-row.ensures.reading within c.row-row.ensures.row c.loop-place.invariant.right);
      undone = c.show_row.ensures.undone ∙ c.loop-place.invariant.undone;
      steps = omega (arith, c.in_ok-series.ensures.steps, c.loop-place.invariant.steps);
      at_least = omega (arith, c.show_row.ensures.at_least, c.loop-place.invariant.at_least);
    }

pub returns-in_err-runner-clause-at_most : goal.returns-in_err-runner-clause-at_most
returns-in_err-runner-clause-at_most g c =
    omega (arith, reply_grows c.args.terms.now.rules.now c.args.terms.now.metric.now c.args.terms.now.target.now c.args.cache.now (Ok c.args.body.now.rows))

pub returns-in_err-labels-clause-at_most : goal.returns-in_err-labels-clause-at_most
returns-in_err-labels-clause-at_most g c =
    omega (arith, reply_grows c.args.terms.now.rules.now c.args.terms.now.metric.now c.args.terms.now.target.now c.args.cache.now (Ok c.args.body.now.rows))

pub returns-in_err-borrowed-clause-at_most : goal.returns-in_err-borrowed-clause-at_most
returns-in_err-borrowed-clause-at_most g c =
    omega (arith, reply_grows c.args.terms.now.rules.now c.args.terms.now.metric.now c.args.terms.now.target.now c.args.cache.now (Ok c.args.body.now.rows))

pub returns-in_err-series-clause-at_most : goal.returns-in_err-series-clause-at_most
returns-in_err-series-clause-at_most g c =
    let rules = c.args.terms.now.rules.now in
    let metric = c.args.terms.now.metric.now in
    let labels = c.args.terms.now.target.now in
    let i = c.loop-place.place in
    let rows = c.args.body.now.rows in
    let row = c.row-row.result in
    let within : i < length rows = omega (arith, c.len-place-end.ensures) in
    let target : c.in_ok-borrowed.borrowed ≡ labels = c.in_ok-borrowed.ensures ∙ ap (map pair_of) c.as_slice.ensures.value ∙ c.in_ok-labels.ensures.labels in
    let len =
    ap₂ (λ (r : List RuleConf) (t : List Pair). length (shown_row rules r t c.loop-place.cache row).texts) c.loop-place.invariant.same target
    ∙ ap (λ (v : CacheView). length (shown_row rules metric labels v row).texts) c.loop-place.invariant.cache
    ∙ ap (λ (v : CacheView). length v.texts) (sym (shown_more rules metric labels c.args.cache.now rows i row within c.row-row.ensures.row))
    in
    omega (arith, c.show_row.ensures.at_most, len, c.loop-place.invariant.steps, take_grows rules metric labels rows (i + 1) c.args.cache.now)

pub returns-in_err-take-clause-at_most : goal.returns-in_err-take-clause-at_most
returns-in_err-take-clause-at_most g c =
    let rules = c.args.terms.now.rules.now in
    let metric = c.args.terms.now.metric.now in
    let labels = c.args.terms.now.target.now in
    let i = c.loop-place.place in
    let rows = c.args.body.now.rows in
    let row = c.row-row.result in
    let within : i < length rows = omega (arith, c.len-place-end.ensures) in
    let target : c.in_ok-borrowed.borrowed ≡ labels = c.in_ok-borrowed.ensures ∙ ap (map pair_of) c.as_slice.ensures.value ∙ c.in_ok-labels.ensures.labels in
    let len =
    ap₂ (λ (r : List RuleConf) (t : List Pair). length (shown_row rules r t c.loop-place.cache row).texts) c.loop-place.invariant.same target
    ∙ ap (λ (v : CacheView). length (shown_row rules metric labels v row).texts) c.loop-place.invariant.cache
    ∙ ap (λ (v : CacheView). length v.texts) (sym (shown_more rules metric labels c.args.cache.now rows i row within c.row-row.ensures.row))
    in
    omega (arith, c.show_row.ensures.at_most, len, c.loop-place.invariant.steps, take_grows rules metric labels rows (i + 1) c.args.cache.now)
