use Rattle.std.proofs.Common.{◌++◌, ◌∙◌, arith, sym, ap, sum_by}
use Rattle.std.specs.Prelude.{filter}
use Rattle.scrape_steps.specs.Endings.{is_due, is_early, waiting}
use Rattle.scrape_steps.proofs.WaitingLemmas.{none_left, none_taken, left_all, left_more, taken_all, taken_more}
use Rattle.scrape_steps.proofs.endings.Endings.take_due.Goals as goal

pub returns-then-not-is_due-clause-due : goal.returns-then-not-is_due-clause-due
returns-then-not-is_due-clause-due c = λ f.
    none_taken c.args.moment (waiting c.args.self.now) (sym c.is_due.ensures ∙ c.if-not-is_due.true) f ∙ ap (sum_by f) (sym c.new.ensures.items)

pub returns-then-not-is_due-clause-left : goal.returns-then-not-is_due-clause-left
returns-then-not-is_due-clause-left c = none_left c.args.moment (waiting c.args.self.now) (sym c.is_due.ensures ∙ c.if-not-is_due.true)

pub loop-ending-preserved : goal.loop-ending-preserved
loop-ending-preserved c =
    let l = c.loop-ending in
    let m = c.args.moment in
    let all = waiting c.args.self.now in
    let had = waiting l.self in
    let rest = waiting c.pop_due.new.self in
    record {
      due = taken_more m had rest c.in-Some.ending c.in-Some.ensures.due c.in-Some.ensures.taken (filter (is_due m) all) l.due.items c.push_reserved.new.self.items l.invariant.due c.push_reserved.ensures.items;
      left = left_more m had rest c.in-Some.ending c.in-Some.ensures.due c.in-Some.ensures.taken (filter (is_early m) all) l.invariant.left;
      len = omega (arith, l.invariant.len, c.in-Some.ensures.less, c.push_reserved.ensures.len);
      capacity = c.pop_due.ensures.capacity ∙ l.invariant.capacity;
      fits = omega (arith, l.invariant.fits, c.push_reserved.ensures.capacity);
    }

pub returns-clause-due : goal.returns-clause-due
returns-clause-due c =
    let l = c.loop-ending in
    let m = c.args.moment in
    taken_all m (waiting c.pop_due.new.self) c.in_default.ensures.none (filter (is_due m) (waiting c.args.self.now)) l.due.items
    (λ f. l.invariant.due f ∙ ap (λ w. sum_by f (l.due.items ++ filter (is_due m) w)) (sym c.in_default.ensures.same))

pub returns-clause-left : goal.returns-clause-left
returns-clause-left c =
    let l = c.loop-ending in
    let m = c.args.moment in
    left_all m (waiting c.pop_due.new.self) c.in_default.ensures.none (filter (is_early m) (waiting c.args.self.now))
    (λ f. l.invariant.left f ∙ ap (λ w. sum_by f (filter (is_early m) w)) (sym c.in_default.ensures.same))
