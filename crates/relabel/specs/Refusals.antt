-- Why rules are refused: a field of theirs, or a pattern ("Configuration", relabel_config).
use Rattle.std.specs.Prelude.{◌≡◌, ℕ, ◌+◌, IsSomeAnd, slice_get, List, [], ◌∷◌, Option, None, Some, option_map, if◌then◌else◌}
use Rattle.std.specs.Option.{option_or}
use Rattle.pattern_rule.specs.Patterns.{is_pattern, IsPattern, MayBeRefused}
use Rattle.rule_conf.specs.Refusals.{first_bad_rule}
use Rattle.rule_conf.specs.declared.conf.RuleConf.{RuleConf}
use Rattle.rule_conf.specs.declared.conf.RuleFault.{RuleFault}
use Rattle.rule_conf.specs.declared.conf.RuleFault.TheVariants.{BadRule, BadPattern, NoMemory}

-- the pattern of a rule is one, also where its action doesn't use it
unfoldable pub HasPattern : RuleConf → Type 0
HasPattern r = IsPattern r.regex

-- it may be refused
unfoldable pub HasBadPattern : RuleConf → Type 0
HasBadPattern r = MayBeRefused r.regex

-- what a refusal says: the first bad field of the first bad rule; or a pattern, where no field is refused
abbrev pub IsFaultOf : List RuleConf → RuleFault → Type 0
IsFaultOf rules (BadRule n field) = first_bad_rule 0 rules ≡ Some (n, field)
IsFaultOf rules (BadPattern n) = (first_bad_rule 0 rules ≡ None) × IsSomeAnd (slice_get rules n) HasBadPattern
IsFaultOf rules NoMemory = Unit {0}

-- the first rule whose pattern isn't one, also where its action doesn't use it
abbrev pub first_bad_pattern : ℕ → List RuleConf → Option ℕ
first_bad_pattern n [] = None
first_bad_pattern n (r ∷ rs) = if is_pattern r.regex then first_bad_pattern (n + 1) rs else Some n

-- why rules are refused: the first bad field of the first bad rule; where no field is refused, the first pattern that isn't one
abbrev pub rules_fault : List RuleConf → Option RuleFault
rules_fault rules =
    option_or (option_map (λ bad. BadRule bad.0 bad.1) (first_bad_rule 0 rules)) (option_map (λ n. BadPattern n) (first_bad_pattern 0 rules))

-- what is reported is the first fault, unless memory runs out
abbrev pub IsFirstFault : List RuleConf → RuleFault → Type 0
IsFirstFault rules (BadRule n field) = rules_fault rules ≡ Some (BadRule n field)
IsFirstFault rules (BadPattern n) = rules_fault rules ≡ Some (BadPattern n)
IsFirstFault rules NoMemory = Unit {0}
