use Rattle.std.proofs.Common.{rules, ◌≡◌, List, subst, ◌∙◌}
use Rattle.std.specs.List.Sorted.{IsPermutation}
use Rattle.label_set.specs.declared.texts.Pair.{Pair}
use Rattle.series_cache.specs.Sets.{IsRising}
use Rattle.series_cache.proofs.HashLemmas.{sorted_kept}
use Rattle.series_cache.proofs.VanishLemmas.{rising_rises}
use Rattle.series_cache.proofs.rising.RisingSets.list.Goals as goal

pub returns-in_err-reserve-clause-rising : goal.returns-in_err-reserve-clause-rising
returns-in_err-reserve-clause-rising c = subst IsRising c.self.view_is (rising_rises c.self.inside.sets.keys)

pub returns-in_err-copy-clause-rising : goal.returns-in_err-copy-clause-rising
returns-in_err-copy-clause-rising c = subst IsRising c.self.view_is (rising_rises c.self.inside.sets.keys)

pub returns-clause-list : goal.returns-clause-list
returns-clause-list c =
    let all : c.loop-set.items.items ≡ c.self.inside.sets.keys = search rules in
    let moved = subst (λ (ks : List (List Pair)). IsPermutation ks c.sort_unstable.new.self.items) all c.sort_unstable.ensures.permutation in
    sorted_kept c.self.inside.sets.keys c.sort_unstable.new.self.items moved c.sort_unstable.ensures.sorted c.iter-set-items.ensures.unique ∙ c.self.view_is

pub returns-clause-rising : goal.returns-clause-rising
returns-clause-rising c = subst IsRising c.self.view_is (rising_rises c.self.inside.sets.keys)
