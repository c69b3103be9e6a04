use Rattle.std.proofs.Common.{◌<◌, ◌++◌, ◌∙◌, ◌+◌, ◌-◌, arith, sym, ap, sum_by, length, get_or}
use Rattle.scrape_steps.specs.Endings.{ending_there, waiting}
use Rattle.scrape_steps.proofs.WaitingLemmas.{joined_more, read_number}
use Rattle.scrape_steps.proofs.closings.push_endings.Goals as goal

pub loop-number-preserved : goal.loop-number-preserved
loop-number-preserved c =
    let l = c.loop-number in
    let i = l.number-index in
    let ls = c.args.lives.now in
    let ns = c.args.numbers.now in
    let n = get_or ns i 0 in
    let lt : i < length ns = omega (arith, c.loop-number-test.true) in
    let rest = length ns - (i + 1) in
    record {
      joined = joined_more ls ns i n (waiting c.args.endings.now) (waiting l.endings) (waiting c.push_ending.new.endings) lt (read_number ns i 0 n lt) l.invariant.joined
          (λ f. ap (λ o. sum_by f (ending_there n o ++ waiting l.endings)) (sym c.life_numbered.ensures) ∙ c.push_ending.ensures.added f);
      room = omega (arith, lt, l.invariant.room, c.push_ending.ensures.room rest (omega (arith, lt, l.invariant.room)));
    }
