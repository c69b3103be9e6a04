use Rattle.std.proofs.Common.{◌≡◌, ℕ, List, IfOk, sym, subst}
use Rattle.journal_text.specs.Faults.{Spells}
use Rattle.journal_text.specs.declared.events.Event.{Event}
use Rattle.journal_text.specs.declared.versions.Version.TheVariants.{One}
use Rattle.synth.specs.declared.scripts.Plan.{Plan}
use Rattle.synth.specs.Scripts.{plan, script_events}
use Rattle.scrape_commands.specs.Synths.{summary_with_runs, synth_text}
use Rattle.scrape_commands.proofs.commands.summary_for.Goals as goal

-- the script that is made spells the journal that is replayed, and no other
pub returns-in-Ok : goal.returns-in-Ok
returns-in-Ok c =
    let made = script_events (plan c.seed.result c.targets.result c.scrapes.result) in
    let spelt = subst (λ (b : List ℕ). Spells One made b) (sym c.as_slice.ensures) c.in_ok-script.ensures.spells in
    let journal = c.in-Ok.ensures.replayed.only One made spelt in
    let asked : plan c.seed.result c.targets.result c.scrapes.result ≡ c.args.load.now = λ i. plan (c.seed.ensures i) (c.targets.ensures.targets i) (c.scrapes.ensures.scrapes i) in
    subst (λ (p : Plan). IfOk c.summary_with_runs-text.result (λ text. text.items ≡ synth_text p)) asked
    (subst (λ (es : List Event). IfOk c.summary_with_runs-text.result (λ text. text.items ≡ summary_with_runs es)) (sym journal.1) c.summary_with_runs-text.ensures)
