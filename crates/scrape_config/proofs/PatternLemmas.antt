-- The first pattern that isn't one.
use Rattle.std.proofs.Common.{◌≡◌, ℕ, List, Option, Some, None, refl, sym, ap, subst, codes}
use Rattle.std.specs.Prelude.{option_map}
use Rattle.std.specs.Option.{option_or}
use Rattle.relabel.specs.Refusals.{first_bad_pattern, rules_fault}
use Rattle.rule_conf.specs.Refusals.{first_bad_rule}
use Rattle.rule_conf.specs.declared.conf.RuleConf.{RuleConf}
use Rattle.rule_conf.specs.declared.conf.RuleField.{RuleField}
use Rattle.rule_conf.specs.declared.conf.RuleFault.{RuleFault}
use Rattle.rule_conf.specs.declared.conf.RuleFault.TheVariants.{BadRule, BadPattern}
use Rattle.config_fields.specs.Places.{field_place, item_place}
use Rattle.scrape_config.specs.Reading.{rules_pattern, IsPatternCause}
use Rattle.scrape_config.specs.declared.fault.ConfError.{ConfError}
use Rattle.scrape_config.specs.declared.fault.ConfError.TheVariants.{Bad, NoMemory}

-- what rules are refused for, by their two parts
abbrev fault_of : Option (ℕ × RuleField) → Option ℕ → Option RuleFault
fault_of a b = option_or (option_map (λ bad. BadRule bad.0 bad.1) a) (option_map (λ n. BadPattern n) b)

none_at : (a : Option (ℕ × RuleField)) (b : Option ℕ) → fault_of a b ≡ None → b ≡ None
none_at None None e = refl
none_at None (Some n) e = absurd cc
none_at (Some x) b e = absurd cc

pub rules_none : (list : List ℕ) (rules : List RuleConf) → rules_fault rules ≡ None → rules_pattern list rules ≡ None
rules_none list rules e =
    ap (option_map (λ n. field_place (item_place list n) (codes "regex"))) (none_at (first_bad_rule 0 rules) (first_bad_pattern 0 rules) e)

-- the first of two
pub cause_first : (a b : Option (List ℕ)) (e : ConfError) → IsPatternCause a e → IsPatternCause (option_or a b) e
cause_first None b (Bad fault) h = absurd cc
cause_first (Some place) b (Bad fault) h = h
cause_first None b NoMemory h = h
cause_first (Some place) b NoMemory h = h

pub cause_second : (a b : Option (List ℕ)) (e : ConfError) → a ≡ None → IsPatternCause b e → IsPatternCause (option_or a b) e
cause_second a b e n h = subst (λ o. IsPatternCause (option_or o b) e) (sym n) h
