use Rattle.std.proofs.Common.{rules, ◌≡◌, [], sym, ◌∙◌}
use Rattle.label_set.proofs.FlatLemmas.{no_labels}
use Rattle.label_set.proofs.labels.LabelsIterator.next.Goals as goal

pub returns-then-is_empty-clause-steps : goal.returns-then-is_empty-clause-steps
returns-then-is_empty-clause-steps c =
    let none : c.args.self.now ≡ [] = sym c.self.view_is ∙ no_labels c.self.inside.rest.now (search rules) in
    (none, none)
