use Rattle.std.proofs.Common.{rules, ◌≡◌, ◌∙◌, ◌++◌, to_z, of_z, w64}
use Rattle.std.proofs.lemmas.Int.{to_z-of_z}
use Rattle.sample_rows.specs.Outcomes.{outcome}
use Rattle.scrape_loop.specs.Entries.{entries_of, extra_for}
use Rattle.scrape_machine.specs.Lives.{outcome_for, rules_of}
use Rattle.scrape_steps.proofs.finishes.count.Goals as goal

pub returns-clause-book : goal.returns-clause-book
unfolding outcome_for
returns-clause-book g c =
    let l = c.args.life.now in
    let moment = to_z-of_z w64 c.args.timing.moment (search rules) in
    let took = to_z-of_z w64 c.args.timing.took (search rules) in
    let same : outcome c.rules_of-rules.result c.job-2.result.now.metric_rules l.state.target c.args.reply.now (to_z w64 (of_z w64 c.args.timing.took)) ≡ outcome_for l c.args.timing.took c.args.reply.now =
    search rules in
    let rules_are : c.rules_of-rules.result ≡ rules_of l.settings = search rules in
    c.in_ok-counted.ensures.entries ∙ λ i. c.args.book.now.entries ++ entries_of l.state (extra_for (rules_are i) (same i) c.args.reply.now) (same i) (moment i) (took i)
