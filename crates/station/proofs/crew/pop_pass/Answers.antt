use Rattle.std.proofs.Common.{◌≡◌, ◌+◌, ℕ, length, subst, arith, vec_len}
use Rattle.run_lock.specs.Seats.{AreFresh, IsOwn}
use Rattle.station.proofs.CrewLemmas.{fresh_front}
use Rattle.station.proofs.crew.pop_pass.Goals as goal

pub returns-clause-fresh : goal.returns-clause-fresh
returns-clause-fresh g c =
    (fresh_front c.args.lock.now 2 c.pop.new.self.items c.in-Some.pass (subst (AreFresh c.args.lock.now 2) c.in-Some.ensures.items c.requires.fresh)).0

pub returns-clause-own : goal.returns-clause-own
returns-clause-own g c =
    let r = fresh_front c.args.lock.now 2 c.pop.new.self.items c.in-Some.pass (subst (AreFresh c.args.lock.now 2) c.in-Some.ensures.items c.requires.fresh) in
    let many : 2 + length c.pop.new.self.items ≡ 2 + vec_len c.args.fetchers.now = omega (arith, c.pop.new.self.ok.0, c.requires.len, c.in-Some.ensures.len) in
    subst (λ (k : ℕ). IsOwn c.args.lock.now k c.in-Some.pass) many r.1

pub returns-clause-none : goal.returns-clause-none
returns-clause-none g c =
    (fresh_front c.args.lock.now 2 c.pop.new.self.items c.in-Some.pass (subst (AreFresh c.args.lock.now 2) c.in-Some.ensures.items c.requires.fresh)).2
