-- What the rules do to a label set ("Configuration", relabel_config).
use Rattle.std.specs.Prelude.{ℕ, ◌%◌, List, [], ◌∷◌, ◌++◌, map, filter, flat_map, drop, not, decimal, Option, None, Some, option_and_then, if◌then◌else◌}
use Rattle.std.specs.Option.{option_map_or}
use Rattle.std.specs.Str.{bytes_eq}
use Rattle.std.specs.Char.{to_ascii_lowercase, to_ascii_uppercase}
use Rattle.std.specs.Int.{w64, from_be_bytes}
use Rattle.md5.specs.Md5.{md5}
use Rattle.label_set.specs.Bytes.{is_label_name}
use Rattle.label_set.specs.Sets.{value_of, with_label}
use Rattle.label_set.specs.declared.texts.Pair.{Pair}
use Rattle.pattern_rule.specs.Patterns.{matches, expansion}
use Rattle.rule_conf.specs.declared.conf.Action.{Action}
use Rattle.rule_conf.specs.declared.conf.Action.TheVariants as action
use Rattle.rule_conf.specs.declared.conf.RuleConf.{RuleConf}

-- the value of a label, empty where there is none
abbrev pub value_or_empty : List Pair → List ℕ → List ℕ
value_or_empty set name = option_map_or (λ v. v) (value_of set name) []

-- texts with a separator between them
abbrev pub joined_by : List ℕ → List (List ℕ) → List ℕ
joined_by separator [] = []
joined_by separator (v ∷ vs) = v ++ flat_map (λ (w : List ℕ). separator ++ w) vs

-- the joined text: the values of the source labels with the separator between them
unfoldable pub joined_text : RuleConf → List Pair → List ℕ
joined_text r set = joined_by r.separator (map (value_or_empty set) r.sources)

-- the last 8 bytes of the MD5 of a text as a big-endian number, modulo the modulus, in decimal digits
unfoldable pub shard_of : List ℕ → ℕ → List ℕ
shard_of text modulus = decimal (from_be_bytes w64 (drop 8 (md5 text)) % modulus)

-- sets an expanded name to an expanded value, where the name is a label name; an empty value removes the label
abbrev pub with_expanded : List Pair → Option (List ℕ) → Option (List ℕ) → List Pair
with_expanded set (Some name) (Some value) = if is_label_name name then with_label set name value else set
with_expanded set (Some name) None = set
with_expanded set None value = set

-- `replace`: where the pattern matches the joined text, the expanded target gets the expanded replacement
abbrev pub replaced : RuleConf → List Pair → List Pair
replaced r set = with_expanded set (expansion r.regex r.target (joined_text r set)) (expansion r.regex r.replacement (joined_text r set))

-- `labelmap`: for each label given, by rising name, whose name matches, the expanded replacement gets the label's value; a later one overwrites
abbrev pub mapped : RuleConf → List Pair → List Pair → List Pair
mapped r [] set = set
mapped r (p ∷ ps) set = mapped r ps (with_expanded set (expansion r.regex r.replacement p.name) (Some p.value))

-- the set after a rule, or `None` where the rule drops it
abbrev pub by_action : Action → RuleConf → List Pair → Option (List Pair)
by_action action.Replace r set = Some (replaced r set)
by_action action.Keep r set = if matches r.regex (joined_text r set) then Some set else None
by_action action.Drop r set = if matches r.regex (joined_text r set) then None else Some set
by_action action.KeepEqual r set = if bytes_eq (joined_text r set) (value_or_empty set r.target) then Some set else None
by_action action.DropEqual r set = if bytes_eq (joined_text r set) (value_or_empty set r.target) then None else Some set
by_action action.HashMod r set = Some (with_label set r.target (shard_of (joined_text r set) r.modulus))
by_action action.LabelMap r set = Some (mapped r set set)
by_action action.LabelDrop r set = Some (filter (λ (p : Pair). not (matches r.regex p.name)) set)
by_action action.LabelKeep r set = Some (filter (λ (p : Pair). matches r.regex p.name) set)
by_action action.Lowercase r set = Some (with_label set r.target (map to_ascii_lowercase (joined_text r set)))
by_action action.Uppercase r set = Some (with_label set r.target (map to_ascii_uppercase (joined_text r set)))

unfoldable pub after_rule : RuleConf → List Pair → Option (List Pair)
after_rule r set = by_action r.action r set

-- the set after the rules, one after another
abbrev pub relabelled : List RuleConf → List Pair → Option (List Pair)
relabelled [] set = Some set
relabelled (r ∷ rs) set = option_and_then (relabelled rs) (after_rule r set)
