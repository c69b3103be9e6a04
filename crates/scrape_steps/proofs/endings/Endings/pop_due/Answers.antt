use Rattle.std.proofs.Common.{◌∙◌, ◌∷◌, sym}
use Rattle.std.specs.BinaryHeap.{heap_items}
use Rattle.scrape_steps.proofs.WaitingLemmas.{top_due, waits_shuffled}
use Rattle.scrape_steps.proofs.endings.Endings.pop_due.Goals as goal

pub returns-in-Some-clause-due : goal.returns-in-Some-clause-due
returns-in-Some-clause-due c =
    let s = c.args.self.now in
    top_due c.args.moment c.in-Some.field-0 (heap_items s.order) ((c.in-Some.ensures.heap_order s.ordered).1) (sym c.is_due.ensures ∙ c.if-not-is_due.false)

pub returns-in-Some-clause-taken : goal.returns-in-Some-clause-taken
returns-in-Some-clause-taken c = waits_shuffled (heap_items c.args.self.now.order) (c.in-Some.field-0 ∷ heap_items c.pop.new.self) c.in-Some.ensures.permutation
