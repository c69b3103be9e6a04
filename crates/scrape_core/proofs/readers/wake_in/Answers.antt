use Rattle.std.proofs.Common.{ℕ, ◌∙◌, ◌||◌, List, sym, ap, ap₂}
use Rattle.std.specs.Prelude.{filter}
use Rattle.std.specs.List.{list_any}
use Rattle.scrape_machine.specs.declared.lives.Life.{Life}
use Rattle.scrape_steps.specs.Concerned.{concerns}
use Rattle.scrape_core.specs.Readers.{acts, due_in}
use Rattle.scrape_core.specs.Wakes.{reached}
use Rattle.scrape_core.proofs.ReaderLemmas.{due_parts, sooner_reached, wake_same}
use Rattle.scrape_core.proofs.readers.wake_in.Goals as goal

pub returns : goal.returns
returns c =
    let s = c.args.state.now in
    wake_same (λ n. reached n c.sooner.result) (due_in s) c.args.now c.wake_from.result
    (λ (n : ℕ).
    due_parts s n c.if-state.false c.requires.listed
    ∙ ap₂ (λ a b. a || b)
    (sym (ap₂ (λ o (ls : List Life). list_any (acts n) (filter (concerns o) ls)) c.open-lives.ensures.moment (c.open-lives.ensures.all ∙ c.deref.ensures.value)) ∙ c.first_wake.ensures n) (c.first.ensures n)
    ∙ sooner_reached n c.first_wake.result c.first.result ∙ ap (reached n) (sym c.sooner.ensures))
    c.wake_from.ensures
