use Rattle.std.proofs.Common.{rules, ◌≡◌, ◌∙◌, ◌++◌, [], Bool, ℤ, pos, List, ap, sym, to_z, of_z, w64}
use Rattle.std.specs.Prelude.{if◌then◌else◌}
use Rattle.report_samples.specs.declared.entries.Entry.{Entry}
use Rattle.sample_rows.specs.Outcomes.{forced}
use Rattle.sample_rows.specs.declared.scrape.RowRules.{RowRules}
use Rattle.scrape_loop.specs.Entries.{entries_of, extra_of}
use Rattle.scrape_machine.specs.Lives.{rules_of}
use Rattle.scrape_steps.proofs.acts.push_forced.Goals as goal

pub returns-in_ok-append : goal.returns-in_ok-append
returns-in_ok-append c =
    let entries : ℤ → List Entry = λ m. entries_of c.args.life.now.state (extra_of (rules_of c.args.life.now.settings) (pos 0)) forced m (pos 0) in
    let rules_are : c.rules_of.result ≡ rules_of c.args.life.now.settings = search rules in
    let moment : to_z w64 (of_z w64 c.ms.result) ≡ c.args.moment = search rules in
    let due = sym c.forces.ensures ∙ c.if-forces.true in
    c.in_ok-append.ensures.items
    ∙ ap (λ (es : List Entry). c.args.entries.now.items ++ es)
    (c.more.view_is ∙ c.in_ok-more.ensures.entries
    ∙ ap (λ (r : RowRules). entries_of c.args.life.now.state (extra_of r (pos 0)) forced (to_z w64 (of_z w64 c.ms.result)) (pos 0)) rules_are ∙ ap entries moment ∙ sym (ap (λ (b : Bool). if b then entries c.args.moment else []) due))
