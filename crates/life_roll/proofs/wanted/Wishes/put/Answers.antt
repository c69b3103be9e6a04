use Rattle.std.proofs.Common.{rules}
use Rattle.life_roll.specs.Wants as spec
use Rattle.life_roll.proofs.WantLemmas.{first_stands, first_kept}
use Rattle.life_roll.proofs.wanted.Wishes.put.Goals as goal

pub returns-in_ok-insert : goal.returns-in_ok-insert
returns-in_ok-insert c =
    first_stands (spec.found c.args.self.now) (spec.found (record { map = c.insert.new.self })) c.args.seat c.args.terms (search rules) (λ s. c.in_ok-insert.ensures.updates.0 s)

pub returns-else-not-contains_key : goal.returns-else-not-contains_key
returns-else-not-contains_key c = first_kept (spec.found c.args.self.now) c.args.seat c.args.terms (search rules)
