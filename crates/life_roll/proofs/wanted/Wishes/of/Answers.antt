use Rattle.std.proofs.Common.{cond, Some, None, sym, ap₂, ◌∙◌}
use Rattle.std.specs.Option.{option_or}
use Rattle.life_roll.specs.declared.seats.Seat.{Seat}
use Rattle.life_roll.specs.declared.wanted.Terms.{Terms}
use Rattle.life_roll.specs.Wants.{same_seat}
use Rattle.life_roll.proofs.WantLemmas.{terms_more}
use Rattle.life_roll.proofs.wanted.Wishes.of.Goals as goal

pub loop-entry-preserved : goal.loop-entry-preserved
loop-entry-preserved c = λ s.
    let e = terms_more c.args.wanted.now c.loop-entry.entry-index c.entry-item.result s c.loop-entry-test.true c.entry-item.is in
    c.in_ok-put.ensures s
    ∙ (ap₂ option_or (c.loop-entry.invariant s) (ap₂ (λ (k : Seat) (t : Terms). cond (same_seat s k) (Some t) None) c.in_ok-seat.ensures c.terms.ensures)
    ∙ sym e)
