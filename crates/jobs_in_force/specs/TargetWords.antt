-- Kept targets: whether one of an identity is among them, and that their labels have no `__name__`.
use Rattle.std.specs.Prelude.{◌≡◌, Bool, false, List}
use Rattle.std.specs.List.{list_any}
use Rattle.std.specs.Ordering.{is_eq}
use Rattle.label_set.specs.Sets.{set_cmp}
use Rattle.label_set.specs.SetText.{metric_label}
use Rattle.label_set.specs.declared.texts.Pair.{Pair}
use Rattle.label_conflict.specs.Merging.{bears}
use Rattle.target_set.specs.declared.targets.Target.{Target}

-- a target has this identity
abbrev pub is_target : List Pair → Target → Bool
is_target identity t = is_eq (set_cmp identity t.identity)

-- hashed identities say which targets there are
abbrev pub IsIndexed : List Target → List (List Pair) → Type 0
IsIndexed targets keys = (identity : List Pair) → list_any (λ (x : List Pair). is_eq (set_cmp identity x)) keys ≡ list_any (is_target identity) targets

-- the labels of a target have no `__name__`
abbrev pub HasNoName : Target → Type 0
HasNoName t = bears t.labels metric_label ≡ false
