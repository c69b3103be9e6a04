-- Which fields of a rule are refused ("Configuration", relabel_config).
use Rattle.std.specs.Prelude.{◌≡◌, ℕ, ◌+◌, Bool, false, List, [], ◌∷◌, length, not, ◌==◌, Option, None, Some, option_map, if◌then◌else◌}
use Rattle.std.specs.Option.{option_or}
use Rattle.std.specs.List.{list_all}
use Rattle.label_set.specs.Bytes.{is_label_name}
use Rattle.rule_conf.specs.declared.conf.Action.{Action}
use Rattle.rule_conf.specs.declared.conf.Action.TheVariants as action
use Rattle.rule_conf.specs.declared.conf.RuleConf.{RuleConf}
use Rattle.rule_conf.specs.declared.conf.RuleField.{RuleField}
use Rattle.rule_conf.specs.declared.conf.RuleField.TheVariants.{Sources, Modulus, Target}

-- `hashmod` needs a modulus that isn't 0
abbrev pub has_bad_modulus : Action → ℕ → Bool
has_bad_modulus action.HashMod modulus = modulus == 0
has_bad_modulus _ modulus = false

-- `replace` needs a target; the actions that set or compare one label need a label name
abbrev pub has_bad_target : Action → List ℕ → Bool
has_bad_target action.Replace target = length target == 0
has_bad_target action.KeepEqual target = not (is_label_name target)
has_bad_target action.DropEqual target = not (is_label_name target)
has_bad_target action.HashMod target = not (is_label_name target)
has_bad_target action.Lowercase target = not (is_label_name target)
has_bad_target action.Uppercase target = not (is_label_name target)
has_bad_target _ target = false

-- the first field of a rule that is refused: a source that is no label name, the modulus, the target
abbrev pub rule_fault : RuleConf → Option RuleField
rule_fault r =
    if not (list_all is_label_name r.sources) then Some Sources
    else if has_bad_modulus r.action r.modulus then Some Modulus
    else if has_bad_target r.action r.target then Some Target
    else None

abbrev pub HasNoBadField : RuleConf → Type 0
HasNoBadField r = rule_fault r ≡ None

-- the first rule with such a field, by its number, where the first rule has number n
abbrev pub first_bad_rule : ℕ → List RuleConf → Option (ℕ × RuleField)
first_bad_rule n [] = None
first_bad_rule n (r ∷ rs) = option_or (option_map (λ field. (n, field)) (rule_fault r)) (first_bad_rule (n + 1) rs)
