use Rattle.std.proofs.Common.{arith, ◌≡◌, ◌++◌, [], ◌∙◌, sym, ap, ap₂, length, take, drop, sum_by, subst}
use Rattle.std.specs.Prelude.{filter, List, ℕ}
use Rattle.std.specs.List.{range_with_len}
use Rattle.std.proofs.Math.Seq.{take-append_seam}
use Rattle.std.proofs.lemmas.List.{length-map}
use Rattle.scrape_machine.specs.Lives.{is_open}
use Rattle.scrape_machine.specs.Machine.{world}
use Rattle.scrape_steps.specs.Reloads.{closed_by, begun_by, reload_life, reload_lives, reload_births}
use Rattle.scrape_steps.specs.declared.acts.Transition.{Transition}
use Rattle.scrape_machine.specs.declared.lives.Life.{Life}
use Rattle.scrape_steps.specs.Plans as plan
use Rattle.scrape_steps.specs.Concerned.{places_where, all_transitions, is_open_place}
use Rattle.scrape_steps.specs.Endings.{endings_at, endings_from, waiting, HoldSame}
use Rattle.scrape_steps.proofs.EndingLemmas.{reload_endings}
use Rattle.scrape_steps.proofs.ListedLemmas.{left_open, reload_stays, reload_places}
use Rattle.scrape_steps.proofs.ConcernedLemmas.{places_length, filter_few}
use Rattle.scrape_core.proofs.StateLemmas.{same_change}
use Rattle.scrape_core.specs.Kept.{live}
use Rattle.scrape_core.proofs.changes.reload.Goals as goal

pub apply_all-requires-clause-places : goal.apply_all-requires-clause-places
apply_all-requires-clause-places c =
    c.deref-6.ensures.value ∙ c.in_ok-reserve-2.ensures.items ∙ c.requires.listed.0
    ∙ ap (places_where is_open 0) (sym (c.deref_mut.ensures.value ∙ c.in_ok-reserve.ensures.items))

pub apply_all-requires-clause-each : goal.apply_all-requires-clause-each
apply_all-requires-clause-each c =
    let ls = c.args.state.now.lives.items in
    c.in_ok-change.ensures.each
    ∙ ap (λ (zs : List Life). length (filter is_open zs)) (c.open-lives.ensures.all ∙ c.deref.ensures.value)
    ∙ sym (places_length is_open ls c.deref-6.result.now (c.deref-6.ensures.value ∙ c.in_ok-reserve-2.ensures.items ∙ c.requires.listed.0))

pub push_endings-requires : goal.push_endings-requires
push_endings-requires c =
    let few = ap (λ (ps : List ℕ). length ps) c.deref-7.ensures.value in
    omega (arith, few, c.len-5.ensures, c.reserve-2.new.self.ok.0, c.in_ok-reserve-3.ensures.room)

pub overflow_cast-synced : goal.overflow_cast-synced
overflow_cast-synced c =
    let ls = c.args.state.now.lives.items in
    let transitions = ap (λ (fs : List Transition). length fs) c.deref-5.ensures.value in
    let each = c.in_ok-change.ensures.each ∙ ap (λ (zs : List Life). length (filter is_open zs)) (c.open-lives.ensures.all ∙ c.deref.ensures.value) in
    omega (arith, c.count_closed.ensures.few, transitions, each, filter_few is_open ls, c.requires.few)

pub returns-clause-closed : goal.returns-clause-closed
returns-clause-closed c =
    c.count_closed.ensures.value
    ∙ ap (λ (fs : List Transition). length (filter plan.closes fs)) c.deref-5.ensures.value
    ∙ c.in_ok-change.ensures.closed
    ∙ same_change (λ n o l. closed_by c.args.moment n (world o l [])) _ _ _ _ _ _ c.deref-4.ensures.value c.deref-3.ensures.value (c.open-lives.ensures.all ∙ c.deref.ensures.value)

pub returns-clause-begun : goal.returns-clause-begun
returns-clause-begun c =
    c.len-2.ensures ∙ c.in_ok-change.change.begun.ok.0 ∙ ap (λ (ls : List Life). length ls) c.in_ok-change.ensures.begun
    ∙ same_change (λ n o l. begun_by c.args.moment n (world o l [])) _ _ _ _ _ _ c.deref-4.ensures.value c.deref-3.ensures.value (c.open-lives.ensures.all ∙ c.deref.ensures.value)

-- the lives after what becomes of each
met : (c : goal.After-drop-state) → c.apply_all.new.lives ≡ reload_lives c.args.moment c.args.jobs.items (live c.args.state.now)
met c =
    let m = c.args.moment in
    c.apply_all.ensures
    ∙ ap (λ ls. plan.after_each m (all_transitions is_open c.in_ok-change.change.transitions.items ls) ls)
    (c.deref_mut.ensures.value ∙ c.in_ok-reserve.ensures.items ∙ sym (c.open-lives.ensures.all ∙ c.deref.ensures.value))
    ∙ c.in_ok-change.ensures.lives
    ∙ same_change (λ n o l. reload_lives m n (world o l [])) _ _ _ _ _ _ c.deref-4.ensures.value c.deref-3.ensures.value (c.open-lives.ensures.all ∙ c.deref.ensures.value)

-- those that begin
born : (c : goal.After-drop-state) → c.in_ok-change.change.begun.items ≡ reload_births c.args.moment c.args.jobs.items (live c.args.state.now)
born c =
    let m = c.args.moment in
    c.in_ok-change.ensures.begun
    ∙ same_change (λ n o l. reload_births m n (world o l [])) _ _ _ _ _ _ c.deref-4.ensures.value c.deref-3.ensures.value (c.open-lives.ensures.all ∙ c.deref.ensures.value)

-- and the list of lives before those join
front : (c : goal.After-drop-state) → take c.reserve.new.self.len (c.apply_all.new.lives ++ drop (length c.apply_all.new.lives) c.reserve.new.self.items) ≡ c.apply_all.new.lives
front c =
    let rest = drop (length c.apply_all.new.lives) c.reserve.new.self.items in
    let long : length c.apply_all.new.lives ≡ c.reserve.new.self.len =
    ap (λ (ls : List Life). length ls) (met c) ∙ length-map _ _ ∙ sym (ap (λ (ls : List Life). length ls) c.in_ok-reserve.ensures.items) ∙ sym c.reserve.new.self.ok.0 in
    ap (λ n. take n (c.apply_all.new.lives ++ rest)) (sym long) ∙ take-append_seam c.apply_all.new.lives rest

after : (c : goal.After-drop-state) →
    c.push_lives.new.lives.items ≡ reload_lives c.args.moment c.args.jobs.items (live c.args.state.now) ++ reload_births c.args.moment c.args.jobs.items (live c.args.state.now)
after c = c.push_lives.ensures ∙ ap₂ (λ (xs ys : List Life). xs ++ ys) (front c ∙ met c) (born c)

pub returns-clause-state : goal.returns-clause-state
returns-clause-state c = ap (λ zs. world c.args.jobs.items zs c.args.state.now.started.items) (after c)

pub returns-clause-listed : goal.returns-clause-listed
returns-clause-listed c =
    let m = c.args.moment in
    let s = c.args.state.now in
    let w = live s in
    let js = c.args.jobs.items in
    let left : c.drop_closed.new.places.items ≡ places_where is_open 0 (reload_lives m js w) =
    c.drop_closed.ensures.left
    ∙ ap₂ (λ (ls : List Life) (ps : List ℕ). filter (is_open_place ls) ps) (c.deref-9.ensures.value ∙ front c ∙ met c) (c.in_ok-reserve-2.ensures.items ∙ c.requires.listed.0)
    ∙ left_open s.lives.items (reload_lives m js w) (reload_stays m s.jobs.items js s.lives.items) in
    let first = c.len-first.ensures ∙ s.lives.ok.0 ∙ sym (length-map s.lives.items (reload_life m s.jobs.items js)) in
    let count = c.len-6.ensures ∙ c.in_ok-change.change.begun.ok.0 ∙ ap (λ (ls : List Life). length ls) (born c) in
    let had = waiting c.reserve-3.new.self in
    let joined = endings_at c.deref-8.result.now c.deref-7.result.now in
    let was : HoldSame (endings_from 0 s.lives.items) had = λ f. c.requires.listed.1 f ∙ ap (sum_by f) (sym c.in_ok-reserve-3.ensures.same) in
    let all : joined ≡ endings_at (reload_lives m js w) (places_where is_open 0 s.lives.items) =
    ap₂ endings_at (c.deref-8.ensures.value ∙ front c ∙ met c) (c.deref-7.ensures.value ∙ c.in_ok-reserve-2.ensures.items ∙ c.requires.listed.0) in (
      c.push_places.ensures
          ∙ ap₂ (λ n k. c.drop_closed.new.places.items ++ range_with_len n k) first count
          ∙ reload_places m js w c.drop_closed.new.places.items left
          ∙ ap (places_where is_open 0) (sym (after c)),
      λ f. ap (λ ls. sum_by f (endings_from 0 ls)) (after c) ∙ reload_endings m js w had joined (waiting c.push_endings.new.endings) was c.push_endings.ensures all f,
    )
