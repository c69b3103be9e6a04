use Rattle.std.proofs.Common.{◌≤◌, ◌∙◌, List, Some, arith, sym, ap, ap₂, length, get_or}
use Rattle.std.specs.Prelude.{filter, option_map}
use Rattle.std.proofs.lemmas.Option.{slice_get_past, slice_get_read}
use Rattle.scrape_machine.specs.declared.lives.Life.{Life}
use Rattle.scrape_machine.specs.Lives.{is_open}
use Rattle.scrape_steps.specs.Concerned.{concerns}
use Rattle.scrape_core.specs.OpenLives.{Shown, shown}
use Rattle.scrape_core.proofs.open_lives.open_life_in.Goals as goal

pub returns : goal.returns
returns c =
    let opens = filter is_open c.args.state.now.lives.items in
    let same = ap₂ (λ o (ls : List Life). filter (concerns o) ls) c.open-lives.ensures.moment (c.open-lives.ensures.all ∙ c.deref.ensures.value) in
    let there = slice_get_read opens c.count.result c.args.place c.at.result.now (c.count.ensures ∙ ap length same) c.if-count-place.false
    (c.at.ensures ∙ ap (λ (ls : List Life). get_or ls c.args.place c.at.result.now) same) in
    (λ i. Some (let s : Shown = record { life = c.number.ensures i; labels = c.target.ensures.labels i; health = c.health.ensures i } in s))
    ∙ sym (ap (option_map shown) there)

pub returns-then-count-place : goal.returns-then-count-place
returns-then-count-place c =
    let opens = filter is_open c.args.state.now.lives.items in
    let same = ap₂ (λ o (ls : List Life). filter (concerns o) ls) c.open-lives.ensures.moment (c.open-lives.ensures.all ∙ c.deref.ensures.value) in
    sym (ap (option_map shown) (slice_get_past opens c.args.place (omega (arith, c.count.ensures, ap length same, c.if-count-place.true))))
