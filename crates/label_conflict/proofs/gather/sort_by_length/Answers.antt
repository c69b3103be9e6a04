use Rattle.std.proofs.Common.{rules, is_lt}
use Rattle.std.proofs.lemmas.List.Sorted.{answers_always, ranks_by}
use Rattle.label_set.specs.Borrowed.{pair_of}
use Rattle.label_conflict.specs.Orders.{by_length}
use Rattle.label_conflict.proofs.OrderLemmas.{by_length_total}
use Rattle.label_conflict.proofs.gather.sort_by_length.Goals as goal

pub returns-clause-sorted : goal.returns-clause-sorted
returns-clause-sorted c =
    c.sort_unstable_by.ensures.sorted (λ p q. is_lt (by_length (pair_of p) (pair_of q))) (ranks_by by_length_total pair_of) (answers_always _ _ _ (λ f a r g h. search rules))
