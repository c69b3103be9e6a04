use Rattle.std.proofs.Common.{◌≡◌, ◌∙◌, ◌++◌, ◌+◌, List, Some, ap, sym, subst, suc, length, arith}
use Rattle.std.specs.Prelude.{reverse}
use Rattle.std.proofs.lemmas.List.{reverse-reverse}
use Rattle.std.proofs.lemmas.List.Elements.{All-pop, All-weaker}
use Rattle.std.proofs.lemmas.List.Sorted.{All-permutation, length_permutation}
use Rattle.appender_book.proofs.SeriesLemmas.{length_more}
use Rattle.instant_view.specs.declared.rows.Placed.{Placed}
use Rattle.instant_view.specs.Threads.{HasPlace, HasRoom, Rise}
use Rattle.instant_view.proofs.TakeLemmas.{popped, rise_popped}
use Rattle.instant_view.proofs.threads.Threads.take_in.Goals as goal

pub loop-placed-init : goal.loop-placed-init
loop-placed-init c = record {
  joined = ap (λ (l : List Placed). c.args.self.now.kept.items ++ l) (ap reverse c.reverse.ensures.items ∙ reverse-reverse c.args.fresh.items);
  threaded = c.requires.threaded;
  room = subst (λ n. HasRoom n c.args.self.now) (sym (length_permutation c.args.fresh.items c.reverse.new.self.items c.reverse.ensures.permutation)) c.requires.room;
  places = All-permutation (HasPlace c.args.self.now.ends) _ _ c.reverse.ensures.permutation c.requires.places;
}

pub take_one-requires-clause-rise : goal.take_one-requires-clause-rise
take_one-requires-clause-rise c =
    rise_popped c.loop-placed.self.kept.items c.loop-placed.fresh.items c.pop.new.self.items c.in-Some.placed c.in-Some.ensures.items
    (subst Rise (sym c.loop-placed.invariant.joined) c.requires.rise)

pub take_one-requires-clause-place : goal.take_one-requires-clause-place
take_one-requires-clause-place c =
    (All-pop (HasPlace c.loop-placed.self.ends) c.loop-placed.fresh.items c.pop.new.self.items (Some c.in-Some.placed) c.in-Some.ensures.items c.loop-placed.invariant.places).1

pub loop-placed-preserved : goal.loop-placed-preserved
loop-placed-preserved c =
    let fresh = c.loop-placed.fresh.items in
    let rest = c.pop.new.self.items in
    let p = c.in-Some.placed in
    let one : suc (length rest) ≡ length rest + 1 = omega arith in
    let count : length fresh ≡ length rest + 1 = ap length c.in-Some.ensures.items ∙ length_more rest p ∙ one in
    record {
      joined =
          ap (λ (ks : List Placed). ks ++ reverse rest) c.take_one.ensures.kept
          ∙ popped c.loop-placed.self.kept.items fresh rest (c.args.self.now.kept.items ++ c.args.fresh.items) p c.in-Some.ensures.items c.loop-placed.invariant.joined;
      threaded = c.take_one.ensures.threaded;
      room = c.take_one.ensures.room (length rest) (subst (λ n. HasRoom n c.loop-placed.self) count c.loop-placed.invariant.room);
      places =
          All-weaker (HasPlace c.loop-placed.self.ends) (HasPlace c.take_one.new.self.ends) c.take_one.ensures.places rest
          (All-pop (HasPlace c.loop-placed.self.ends) fresh rest (Some p) c.in-Some.ensures.items c.loop-placed.invariant.places).0;
    }
