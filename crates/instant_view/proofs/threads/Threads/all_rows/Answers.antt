use Rattle.std.proofs.Common.{◌≡◌, ◌∙◌, ℕ, List, Some, sym, ap, subst, refl, suc, length, slice_get, unwrap_or, Option, option_map, w64, to_z, of_z}
use Rattle.std.specs.BTreeMap.{keys}
use Rattle.std.specs.Map.Iter.{deref_pair}
use Rattle.std.proofs.lemmas.Int.{to_z-of_z}
use Rattle.std.proofs.lemmas.List.{length-map}
use Rattle.std.proofs.lemmas.Map.Iter.{btree_map_turn, iter_end, iter_turn}
use Rattle.std.proofs.lemmas.Option.{slice_get-map}
use Rattle.label_set.specs.Sets.{sets_total}
use Rattle.label_set.specs.declared.texts.Pair.{Pair}
use Rattle.appender_book.proofs.SeriesLemmas.{length_more}
use Rattle.instant_view.specs.Threads.{IsGatheredTo, IsLastOf, IsSelectedRow}
use Rattle.instant_view.proofs.RowLemmas.{gathered_more, gathered_none, keys_rise}
use Rattle.instant_view.proofs.threads.Threads.all_rows.Goals as goal

pub loop-series-init : goal.loop-series-init
loop-series-init c = record {
  same = refl;
  gathered = gathered_none c.args.self.now.kept.items c.args.selecting.now (to_z w64 (of_z w64 c.args.moment)) (keys c.args.self.now.ends) c.new-rows.result.items c.new-rows.ensures.items;
}

pub loop-series-preserved : goal.loop-series-preserved
loop-series-preserved c =
    let kept = c.args.self.now.kept.items in
    let t = to_z w64 (of_z w64 c.args.moment) in
    let ends = c.args.self.now.ends in
    let xs = c.loop-series.yielded in
    let series = c.in-Some.series.now in
    let gives = c.into_iter-series-iterator.ensures.into_iter_gives in
    let at =
    iter_turn deref_pair ends.entries xs c.into_iter-series-iterator.result c.loop-series.series-iterator c.next.new.self c.next.result gives.0 c.loop-series.yielded_by
    (c.in-Some.series, c.in-Some.end) c.in-Some.is c.next.ensures.steps in
    let key : slice_get (keys ends) (length xs) ≡ Some series =
    slice_get-map (λ (q : List Pair × ℕ). q.0) ends.entries (length xs) ∙ ap (option_map (λ (q : List Pair × ℕ). q.0)) at.1 in
    let found : IsSelectedRow kept c.args.selecting.now t series c.in_ok-row.row =
    subst (λ s. IsSelectedRow kept s t series c.in_ok-row.row) c.loop-series.invariant.same c.in_ok-row.ensures.row in
    record {
      same = c.selected_row.ensures.same ∙ c.loop-series.invariant.same;
      gathered =
          subst (λ n. IsGatheredTo kept c.args.selecting.now t (keys ends, n) c.push_row.new.rows.items) (sym (length_more xs (c.in-Some.series, c.in-Some.end)))
          (subst (IsGatheredTo kept c.args.selecting.now t (keys ends, suc (length xs))) (sym c.in_ok-push_row.ensures)
          (gathered_more kept c.requires.rise c.args.selecting.now t (keys ends) (length xs) c.loop-series.rows.items c.loop-series.invariant.gathered
          series key (λ i s lt x. keys_rise (keys ends) gives.5 i (length xs) s series lt x key) c.in_ok-row.row found));
    }

pub selected_row-requires-clause-last : goal.selected_row-requires-clause-last
selected_row-requires-clause-last c =
    let kept = c.args.self.now.kept.items in
    let gives = c.into_iter-series-iterator.ensures.into_iter_gives in
    let turn =
    btree_map_turn deref_pair c.loop-series.yielded c.into_iter-series-iterator.result c.loop-series.series-iterator c.next.new.self c.next.result (c.in-Some.series, c.in-Some.end)
    c.loop-series.yielded_by c.in-Some.is c.next.ensures.steps sets_total c.args.self.now.ends gives.0 gives.5 in
    subst (IsLastOf kept c.in-Some.series.now (length kept)) (ap (λ (o : Option ℕ). unwrap_or o 0) turn.1) (c.requires.ends c.in-Some.series.now)

pub returns : goal.returns
returns c =
    let kept = c.args.self.now.kept.items in
    let ends = c.args.self.now.ends in
    let t = to_z w64 (of_z w64 c.args.moment) in
    let gives = c.into_iter-series-iterator.ensures.into_iter_gives in
    let end =
    iter_end deref_pair ends.entries c.loop-series.yielded c.into_iter-series-iterator.result c.loop-series.series-iterator c.next.new.self c.next.result gives.0 c.loop-series.yielded_by
    c.in-None.is c.next.ensures.steps in
    let all : length c.loop-series.yielded ≡ length (keys ends) = end.1 ∙ sym (length-map ends.entries (λ (q : List Pair × ℕ). q.0)) in
    subst (λ n. IsGatheredTo kept c.args.selecting.now n (keys ends, length (keys ends)) c.loop-series.rows.items) (to_z-of_z w64 c.args.moment c.ranges.moment)
    (subst (λ n. IsGatheredTo kept c.args.selecting.now t (keys ends, n) c.loop-series.rows.items) all c.loop-series.invariant.gathered)
