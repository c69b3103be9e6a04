use Rattle.std.proofs.Common.{List, length, filter, map, ap, ap₂, ◌∙◌, Option, ◌++◌}
use Rattle.life_roll.specs.declared.lives.Life.{Life}
use Rattle.life_roll.specs.declared.seats.Seat.{Seat}
use Rattle.life_roll.specs.declared.wanted.Terms.{Terms}
use Rattle.life_roll.specs.Wants.{found}
use Rattle.life_roll.specs.Rolls as spec
use Rattle.life_roll.proofs.RollLemmas.{same_terms}
use Rattle.life_roll.proofs.roll.sync.Goals as goal

pub returns-clause-lives : goal.returns-clause-lives
returns-clause-lives c =
    let ls = c.args.lives.now.items in
    let same = same_terms c.args.wanted.now (found c.in_ok-wishes.wishes) c.in_ok-wishes.ensures in
    c.in_ok-commit.ensures.ok
    ∙ ap₂ ◌++◌ (ap (λ (t : Seat → Option Terms). map (spec.life_after c.args.moment t) ls) same)
    (c.in_ok-news.ensures ∙ ap (spec.news_after c.args.moment c.args.wanted.now) c.deref.ensures.value)

pub returns-clause-closed : goal.returns-clause-closed
returns-clause-closed c =
    let same = same_terms c.args.wanted.now (found c.in_ok-wishes.wishes) c.in_ok-wishes.ensures in
    c.in_ok-synced.ensures.closed
    ∙ (c.count_closed.ensures
    ∙ ap₂ (λ (t : Seat → Option Terms) (ls : List Life). length (filter (spec.closes t) ls)) same c.deref-2.ensures.value)

pub returns-clause-begun : goal.returns-clause-begun
returns-clause-begun c =
    let is = ap length (c.in_ok-news.ensures ∙ ap (spec.news_after c.args.moment c.args.wanted.now) c.deref.ensures.value) in
    c.in_ok-synced.ensures.begun ∙ (c.len.ensures ∙ (c.in_ok-news.news.ok.0 ∙ is))
