use Rattle.life_roll.specs.Seats.{has_seat}
use Rattle.life_roll.specs.Wants.{found}
use Rattle.life_roll.proofs.RollLemmas.{same_terms, same_news}
use Rattle.life_roll.proofs.roll.news.Goals as goal

pub returns : goal.returns
returns c =
    let same = same_terms c.args.wanted.now (found c.args.wishes.now) c.requires.wishes in
    let news =
    same_news c.args.moment c.args.wanted.now c.args.lives.now (found c.args.wishes.now) (has_seat c.in_ok-taken.taken)
    same c.in_ok-taken.ensures in
    rw news at c.begun.ensures
