-- Relabelling brings in no label without a name: its rules set only label names.
use Rattle.std.proofs.Common.{◌≡◌, Bool, true, false, not, ℕ, List, [], ◌∷◌, map, All, IfSome, Option, Some, None, option_and_then, bytes_eq, refl}
use Rattle.std.specs.Prelude.{if◌then◌else◌}
use Rattle.std.specs.Char.{to_ascii_lowercase, to_ascii_uppercase}
use Rattle.std.specs.List.{list_all}
use Rattle.std.proofs.lemmas.Bool.{true≢false}
use Rattle.std.proofs.lemmas.List.Elements.{All-head, All-tail, All-filter}
use Rattle.label_set.specs.Bytes.{is_label_name}
use Rattle.label_set.specs.Sets.{with_label}
use Rattle.label_set.specs.declared.texts.Pair.{Pair}
use Rattle.pattern_rule.specs.Patterns.{expansion, matches}
use Rattle.relabel.specs.Relabelling.{after_rule, by_action, joined_text, mapped, relabelled, shard_of, value_or_empty, with_expanded}
use Rattle.rule_conf.specs.Refusals.{HasNoBadField, has_bad_modulus, has_bad_target}
use Rattle.rule_conf.specs.declared.conf.Action.{Action}
use Rattle.rule_conf.specs.declared.conf.Action.TheVariants as action
use Rattle.rule_conf.specs.declared.conf.RuleConf.{RuleConf}
use Rattle.rule_conf.specs.declared.conf.RuleField.{RuleField}
use Rattle.rule_conf.specs.declared.conf.RuleField.TheVariants.{Sources, Modulus, Target}
use Rattle.named_series.specs.Named.{HasLabels}
use Rattle.named_series.proofs.LabelLemmas.{IsFilled, IsLabelled, label-with, name-filled}

-- an expanded name is set only where it is a label name
expanded-labels : (set : List Pair) → HasLabels set → (name value : Option (List ℕ)) →
    HasLabels (with_expanded set name value)
expanded-labels set h None value = h
expanded-labels set h (Some name) None = h
expanded-labels set h (Some name) (Some value) = by (is_label_name name) refl
  where
    by : (b : Bool) → is_label_name name ≡ b → HasLabels (if b then with_label set name value else set)
    by true e = label-with set name value (name-filled name e) h
    by false e = h

mapped-labels : (r : RuleConf) (ps set : List Pair) → HasLabels set → HasLabels (mapped r ps set)
mapped-labels r [] set h = h
mapped-labels r (p ∷ ps) set h =
    mapped-labels r ps (with_expanded set (expansion r.regex r.replacement p.name) (Some p.value))
    (expanded-labels set h (expansion r.regex r.replacement p.name) (Some p.value))

-- the target of a rule that isn't refused
abbrev first-bad : Bool → Bool → Bool → Option RuleField
first-bad a b c = if a then Some Sources else if b then Some Modulus else if c then Some Target else None

target-good : (a b c : Bool) → first-bad a b c ≡ None → c ≡ false
target-good true b c e = absurd cc
target-good false true c e = absurd cc
target-good false false true e = absurd cc
target-good false false false e = refl

no-bad-target : (r : RuleConf) → HasNoBadField r → has_bad_target r.action r.target ≡ false
no-bad-target r e =
    target-good (not (list_all is_label_name r.sources)) (has_bad_modulus r.action r.modulus)
    (has_bad_target r.action r.target) e

named : (name : List ℕ) → not (is_label_name name) ≡ false → IsFilled name
named name e = name-filled name (by (is_label_name name) e)
  where
    by : (b : Bool) → not b ≡ false → b ≡ true
    by true e = refl
    by false e = absurd (true≢false e)

-- one rule, by its action
module _ (r : RuleConf) (set : List Pair) (h : HasLabels set) where
  kept-if : (b : Bool) → IfSome (if b then Some set else None) HasLabels
  kept-if true = h
  kept-if false = tt

  dropped-if : (b : Bool) → IfSome (if b then None else Some set) HasLabels
  dropped-if true = tt
  dropped-if false = h

  action-labels : (a : Action) → has_bad_target a r.target ≡ false → IfSome (by_action a r set) HasLabels
  action-labels action.Replace e =
      expanded-labels set h (expansion r.regex r.target (joined_text r set))
      (expansion r.regex r.replacement (joined_text r set))
  action-labels action.Keep e = kept-if (matches r.regex (joined_text r set))
  action-labels action.Drop e = dropped-if (matches r.regex (joined_text r set))
  action-labels action.KeepEqual e = kept-if (bytes_eq (joined_text r set) (value_or_empty set r.target))
  action-labels action.DropEqual e = dropped-if (bytes_eq (joined_text r set) (value_or_empty set r.target))
  action-labels action.HashMod e = label-with set r.target (shard_of (joined_text r set) r.modulus) (named r.target e) h
  action-labels action.LabelMap e = mapped-labels r set set h
  action-labels action.LabelDrop e = All-filter (λ (p : Pair). not (matches r.regex p.name)) IsLabelled set h
  action-labels action.LabelKeep e = All-filter (λ (p : Pair). matches r.regex p.name) IsLabelled set h
  action-labels action.Lowercase e =
      label-with set r.target (map to_ascii_lowercase (joined_text r set)) (named r.target e) h
  action-labels action.Uppercase e =
      label-with set r.target (map to_ascii_uppercase (joined_text r set)) (named r.target e) h

  rule-labels : HasNoBadField r → IfSome (after_rule r set) HasLabels
  unfolding after_rule
  rule-labels good = action-labels r.action (no-bad-target r good)

-- rules, one after another
and-then : (o : Option (List Pair)) (more : List Pair → Option (List Pair)) →
    ((s : List Pair) → HasLabels s → IfSome (more s) HasLabels) →
    IfSome o HasLabels → IfSome (option_and_then more o) HasLabels
and-then None more f h = tt
and-then (Some s) more f h = f s h

pub rules-labels : (rs : List RuleConf) (set : List Pair) → All HasNoBadField rs → HasLabels set →
    IfSome (relabelled rs set) HasLabels
rules-labels [] set good h = h
rules-labels (r ∷ rs) set good h =
    and-then (after_rule r set) (relabelled rs) (λ s k. rules-labels rs s (All-tail HasNoBadField r rs good) k)
    (rule-labels r set h (All-head HasNoBadField r rs good))
