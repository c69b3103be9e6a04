use Rattle.std.proofs.Common.{◌≡◌, List, [], ◌∷◌, refl, sym, subst, arith}
use Rattle.std.specs.List.Sorted.{IsStrictlySortedBy}
use Rattle.label_set.specs.Sets.{set_cmp}
use Rattle.label_set.specs.declared.texts.Pair.{Pair}
use Rattle.tests_deciding.proofs.endings.closing.Goals as goal

-- one set rises
one_rises : (x : List Pair) → IsStrictlySortedBy set_cmp (x ∷ [])
unfolding IsStrictlySortedBy
one_rises x = (tt, tt)

pub returns : goal.returns
returns c =
    let one : c.push_reserved.new.self.items ≡ c.in_ok-set_of.field-0 ∷ [] =
    rw (c.push_reserved.ensures.items, c.in_ok-reserve.ensures.items, c.new-items.ensures.items) refl in
    record {
      no_negatives = (omega arith, omega arith);
      planned_limit = omega arith;
      closed_limit = omega arith;
      interval_limits = (omega arith, omega arith);
      sets_rise = subst (λ (l : List (List Pair)). IsStrictlySortedBy set_cmp l) (sym one) (one_rises c.in_ok-set_of.field-0);
    }
