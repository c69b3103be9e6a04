use Rattle.std.proofs.Common.{◌≡◌, ◌<◌, ◌≤◌, ℤ, false, length, set, sym, ap, ◌∙◌, subst, arith, to_z, of_z, w64}
use Rattle.std.specs.Prelude.{Option, Some, None}
use Rattle.std.specs.Option.{option_map_or}
use Rattle.std.proofs.lemmas.Int.{to_z-of_z}
use Rattle.end_of_run.specs.Endings.{EndingView, EndingsView, IsOneEach, ending_of, is_due, is_life_due, swept, swept_life}
use Rattle.end_of_run.proofs.EndingLemmas.{none_swept, none_there, one_swept, place, swept_there, taken_once, there}
use Rattle.end_of_run.proofs.endings.Endings.take.Goals as goal

-- where that life has no ending
none : (c : goal.Then-place-len) → ending_of c.args.life c.args.self.now.endings ≡ None
none c =
    let es = c.self.inside.endings.items in
    let at : c.place_of-place.result ≡ place c.args.life es = c.place_of-place.ensures.value ∙ ap (place c.args.life) c.deref.ensures.value in
    let past : length es ≤ c.place_of-place.result = omega (arith, c.self.inside.endings.ok.0) in
    ap (λ (v : EndingsView). ending_of c.args.life v.endings) (sym c.self.view_is) ∙ none_there c.args.life es c.place_of-place.result at past

pub returns-then-place-len-clause-answer : goal.returns-then-place-len-clause-answer
returns-then-place-len-clause-answer c = ap (λ (o : Option EndingView). option_map_or (is_due c.args.moment) o false) (sym (none c))

pub returns-then-place-len-clause-endings : goal.returns-then-place-len-clause-endings
returns-then-place-len-clause-endings c = sym (none_swept c.args.life c.args.moment c.args.self.now.endings (none c))

-- where it has one
module _ (c : goal.After-self-1) where
  at : c.place_of-place.result ≡ place c.args.life c.self.inside.endings.items
  at = c.place_of-place.ensures.value ∙ ap (place c.args.life) c.deref.ensures.value

  is : ending_of c.args.life c.self.inside.endings.items ≡ Some c.index_mut-ending.result.now
  is =
      let low : c.place_of-place.result < length c.self.inside.endings.items = omega (arith, c.self.inside.endings.ok.0) in
      there c.args.life c.self.inside.endings.items c.place_of-place.result c.index_mut-ending.result.now at low c.index_mut-ending.ensures.value

  moment : to_z w64 (of_z w64 c.args.moment) ≡ c.args.moment
  moment = to_z-of_z w64 c.args.moment c.ranges.moment

  after : set c.self.inside.endings.items c.place_of-place.result c.take.new.self ≡ swept_life c.args.life c.args.moment c.self.inside.endings.items
  after =
      let e = c.index_mut-ending.result.now in
      let new : c.take.new.self ≡ swept c.args.moment e = c.take.ensures.taken ∙ ap (λ (m : ℤ). swept m e) moment in
      swept_there c.args.life c.args.moment c.self.inside.endings.items c.self.invariant c.place_of-place.result e c.take.new.self at is new

  said : c.take.result ≡ is_life_due c.args.life c.args.moment c.self.inside.endings.items
  said =
      c.take.ensures.answer ∙ ap (λ (m : ℤ). is_due m c.index_mut-ending.result.now) moment
      ∙ ap (λ (o : Option EndingView). option_map_or (is_due c.args.moment) o false) (sym is)

pub invariant_of-self : goal.invariant_of-self
invariant_of-self c = subst IsOneEach (sym (after c)) (one_swept c.args.life c.args.moment c.self.inside.endings.items c.self.invariant)

pub returns-clause-answer : goal.returns-clause-answer
returns-clause-answer c = said c ∙ ap (λ (v : EndingsView). is_life_due c.args.life c.args.moment v.endings) c.self.view_is

pub returns-clause-endings : goal.returns-clause-endings
returns-clause-endings c = after c ∙ ap (λ (v : EndingsView). swept_life c.args.life c.args.moment v.endings) c.self.view_is

pub returns-clause-once : goal.returns-clause-once
returns-clause-once c = λ yes later.
    ap (is_life_due c.args.life later) (after c) ∙ taken_once c.args.life c.args.moment later c.self.inside.endings.items (sym (said c) ∙ yes)
