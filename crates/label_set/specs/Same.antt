-- Sets that comparing doesn't tell apart are the same.
use Rattle.std.specs.Prelude.{◌≡◌, ℕ, Bool, true, ◌&&◌, List, [], ◌∷◌}
use Rattle.std.proofs.Common.{sym, ap, ◌∙◌}
use Rattle.std.specs.Bool.{Decides}
use Rattle.std.specs.Ordering.{eq_by_cmp}
use Rattle.std.specs.Str.{bytes_eq}
use Rattle.std.specs.Cmp.{first_so, second_so, both_tied}
use Rattle.std.specs.Cmp.Lexicographic.{bytes_decides, pointwise_decides, lists_ties, texts_ties, nat_list_eq_equiv}
use Rattle.label_set.specs.Sets.{pair_cmp, set_cmp}
use Rattle.label_set.specs.declared.texts.Pair.{Pair}
use Rattle.label_set.specs.Flat.{flat}

abbrev pub same_pair : Pair → Pair → Bool
same_pair p q = bytes_eq p.name q.name && bytes_eq p.value q.value

abbrev pub label_of : List ℕ → List ℕ → Pair
label_of name value = record { name = name; value = value }

pair_ties : (p q : Pair) → same_pair p q ≡ eq_by_cmp pair_cmp p q
pair_ties p q = both_tied _ _ _ _ (texts_ties p.name q.name) (texts_ties p.value q.value)

same_label : (p q : Pair) → p.name ≡ q.name → p.value ≡ q.value → p ≡ q
same_label p q a b = λ i. label_of (a i) (b i)

pair_itself : (p : Pair) → same_pair p p ≡ true
pair_itself p = λ i. nat_list_eq_equiv.refl p.name i && nat_list_eq_equiv.refl p.value i

pair_decides : (p q : Pair) → Decides (same_pair p q) (p ≡ q)
pair_decides p q = (
  (λ e. same_label p q ((bytes_decides p.name q.name).0 (first_so _ _ e)) ((bytes_decides p.value q.value).0 (second_so _ _ e))),
  (λ e. ap (same_pair p) (sym e) ∙ pair_itself p),
)

pub sets_decide : (x y : List Pair) → Decides (eq_by_cmp set_cmp x y) (x ≡ y)
sets_decide x y = (
  (λ e. (pointwise_decides pair_decides x y).0 (lists_ties pair_cmp pair_ties x y ∙ e)),
  (λ e. sym (lists_ties pair_cmp pair_ties x y) ∙ (pointwise_decides pair_decides x y).1 e),
)

-- what a hasher is fed of a set: its bytes, at once
abbrev pub set_input : List Pair → List (List ℕ)
set_input set = flat set ∷ []

pub same_input : (x y : List Pair) → eq_by_cmp set_cmp x y ≡ true → set_input x ≡ set_input y
same_input x y e = ap set_input ((sets_decide x y).0 e)
