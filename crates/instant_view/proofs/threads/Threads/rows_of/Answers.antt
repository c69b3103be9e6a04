use Rattle.std.proofs.Common.{◌∙◌, sym, subst, refl, suc, length, w64, to_z, of_z}
use Rattle.std.specs.Map.Iter.{deref}
use Rattle.std.proofs.lemmas.Int.{to_z-of_z}
use Rattle.std.proofs.lemmas.Map.Iter.{iter_end, iter_turn}
use Rattle.appender_book.proofs.SeriesLemmas.{length_more}
use Rattle.instant_view.specs.Threads.{IsGatheredTo, IsLastOf, IsSelectedRow}
use Rattle.instant_view.proofs.RowLemmas.{gathered_more, gathered_none, keys_rise}
use Rattle.instant_view.proofs.threads.Threads.rows_of.Goals as goal

pub loop-series-init : goal.loop-series-init
loop-series-init c = record {
  same = refl;
  gathered = gathered_none c.args.self.now.kept.items c.args.selecting.now (to_z w64 (of_z w64 c.args.moment)) c.args.sets.now.keys c.new-rows.result.items c.new-rows.ensures.items;
}

pub loop-series-preserved : goal.loop-series-preserved
loop-series-preserved c =
    let kept = c.args.self.now.kept.items in
    let t = to_z w64 (of_z w64 c.args.moment) in
    let ks = c.args.sets.now.keys in
    let xs = c.loop-series.yielded in
    let series = c.in-Some.series.now in
    let gives = c.into_iter-series-iterator.ensures.into_iter_gives in
    let at =
    iter_turn deref ks xs c.into_iter-series-iterator.result c.loop-series.series-iterator c.next.new.self c.next.result gives.0 c.loop-series.yielded_by
    c.in-Some.series c.in-Some.is c.next.ensures.steps in
    let found : IsSelectedRow kept c.args.selecting.now t series c.in_ok-row.row =
    subst (λ s. IsSelectedRow kept s t series c.in_ok-row.row) c.loop-series.invariant.same c.in_ok-row.ensures.row in
    record {
      same = c.selected_row.ensures.same ∙ c.loop-series.invariant.same;
      gathered =
          subst (λ n. IsGatheredTo kept c.args.selecting.now t (ks, n) c.push_row.new.rows.items) (sym (length_more xs c.in-Some.series))
          (subst (IsGatheredTo kept c.args.selecting.now t (ks, suc (length xs))) (sym c.in_ok-push_row.ensures)
          (gathered_more kept c.requires.rise c.args.selecting.now t ks (length xs) c.loop-series.rows.items c.loop-series.invariant.gathered
          series at.1 (λ i s lt x. keys_rise ks gives.4 i (length xs) s series lt x at.1) c.in_ok-row.row found));
    }

pub selected_row-requires-clause-last : goal.selected_row-requires-clause-last
selected_row-requires-clause-last c =
    let kept = c.args.self.now.kept.items in
    subst (IsLastOf kept c.in-Some.series.now (length kept)) (sym c.end_of-end.ensures) (c.requires.ends c.in-Some.series.now)

pub returns : goal.returns
returns c =
    let kept = c.args.self.now.kept.items in
    let ks = c.args.sets.now.keys in
    let t = to_z w64 (of_z w64 c.args.moment) in
    let gives = c.into_iter-series-iterator.ensures.into_iter_gives in
    let end =
    iter_end deref ks c.loop-series.yielded c.into_iter-series-iterator.result c.loop-series.series-iterator c.next.new.self c.next.result gives.0 c.loop-series.yielded_by
    c.in-None.is c.next.ensures.steps in
    subst (λ n. IsGatheredTo kept c.args.selecting.now n (ks, length ks) c.loop-series.rows.items) (to_z-of_z w64 c.args.moment c.ranges.moment)
    (subst (λ n. IsGatheredTo kept c.args.selecting.now t (ks, n) c.loop-series.rows.items) end.1 c.loop-series.invariant.gathered)
