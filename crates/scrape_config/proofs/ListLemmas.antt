-- Lists of JSON, item by item.
use Rattle.std.proofs.Common.{◌≡◌, ℕ, suc, ◌+◌, ◌<◌, List, ◌∷◌, ◌++◌, length, drop, sym, ap, ◌∙◌, get_or, Option, add-one, drop-cons}
use Rattle.serde_json.specs.declared.value.Value.{Value}
use Rattle.config_fields.specs.Faults.{best}
use Rattle.config_fields.specs.declared.fault.ConfFault.{ConfFault}
use Rattle.config_fields.proofs.FaultLemmas.{best_after}

-- the items from a place on begin with the item at the place
pub next_item : (vs : List Value) (i : ℕ) (v : Value) → v ≡ get_or vs i v → i < length vs → drop i vs ≡ v ∷ drop (i + 1) vs
next_item vs i v at inside = rw (add-one, drop-cons vs i v) (ap (λ (x : Value). x ∷ drop (suc i) vs) (sym at))

-- the fault of three lists
pub three_parts : (found : Option ConfFault) (fs gs hs : List ConfFault) → best found (fs ++ (gs ++ hs)) ≡ best (best (best found fs) gs) hs
three_parts found fs gs hs = best_after found fs (gs ++ hs) ∙ best_after (best found fs) gs hs

-- one more list, where the ones after it are walked
pub told_next : (found now : Option ConfFault) (fs gs all : List ConfFault) → now ≡ best found fs → all ≡ fs ++ gs → best now gs ≡ best found all
told_next found now fs gs all is_now is_all = rw (is_now, is_all) (sym (best_after found fs gs))
