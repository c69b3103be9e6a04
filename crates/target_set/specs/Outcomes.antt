-- What becomes of a listed target ("Configuration", relabel_config; the causes of a refusal are this project's).
use Rattle.std.specs.Prelude.{ℕ, Bool, not, ◌||◌, List, [], ◌++◌, filter, take, length, codes, ◌==◌, Option, Some, None, unwrap_or, is_ok, if◌then◌else◌}
use Rattle.std.specs.List.{list_any}
use Rattle.std.specs.Str.{bytes_eq}
use Rattle.url.specs.Parser.{Parsed, parse_url}
use Rattle.url.specs.Parts.{Parts}
use Rattle.label_set.specs.Sets.{value_of}
use Rattle.label_set.specs.declared.texts.Pair.{Pair}
use Rattle.outside.specs.Schemes.{is_scheme}
use Rattle.relabel.specs.Relabelling.{relabelled}
use Rattle.rule_conf.specs.declared.conf.RuleConf.{RuleConf}
use Rattle.scrape_config.specs.declared.conf.Group.{Group}
use Rattle.scrape_config.specs.declared.conf.JobConf.{JobConf}
use Rattle.target_set.specs.Prepared.{address_label, scheme_label, with_default, prepared}
use Rattle.target_set.specs.declared.targets.TargetCause.{TargetCause}
use Rattle.target_set.specs.declared.targets.TargetCause.TheVariants.{NoAddress, BadAddress, BadScheme, BadUrl}
use Rattle.target_set.specs.declared.targets.Outcome.{Outcome}
use Rattle.target_set.specs.declared.targets.Outcome.TheVariants.{Dropped, Refused, Kept}

-- the bytes `/ ? # @ \`, which an address may not hold
unfoldable pub is_url_mark : ℕ → Bool
is_url_mark b = (b == 47) || ((b == 63) || ((b == 35) || ((b == 64) || (b == 92))))

-- the URL of a scheme and an address: what is read from the scheme, `://`, the address and `/`
unfoldable pub url_of : List ℕ → List ℕ → Parsed Parts
url_of scheme address = parse_url None (scheme ++ (codes "://" ++ (address ++ codes "/")))

-- why a target with an address is refused, by its scheme
abbrev pub scheme_cause : List ℕ → Option (List ℕ) → Option TargetCause
scheme_cause address None = Some BadScheme
scheme_cause address (Some scheme) = if is_scheme scheme then (if is_ok (url_of scheme address) then None else Some BadUrl) else Some BadScheme

-- why a target is refused, by its address and its scheme; the first cause that holds
abbrev pub address_cause : Option (List ℕ) → Option (List ℕ) → Option TargetCause
address_cause None scheme = Some NoAddress
address_cause (Some address) scheme = if list_any is_url_mark address then Some BadAddress else scheme_cause address scheme

-- why a label set is no target
unfoldable pub cause_of : List Pair → Option TargetCause
cause_of set = address_cause (value_of set address_label) (value_of set scheme_label)

-- whether a text begins with another
unfoldable pub begins_with : List ℕ → List ℕ → Bool
begins_with front text = bytes_eq (take (length front) text) front

-- the labels whose names don't begin so
unfoldable pub without_front : List ℕ → List Pair → List Pair
without_front front set = filter (λ (p : Pair). not (begins_with front p.name)) set

-- the identity of a target: its set with an `instance`, the address where none is set, and without the names that begin with `__meta_`
unfoldable pub identity_of : List Pair → List Pair
identity_of set = without_front (codes "__meta_") (with_default set (codes "instance") (unwrap_or (value_of set address_label) []))

-- the labels that a target's samples bear: its identity without the names that begin with `__`
unfoldable pub labels_of : List Pair → List Pair
labels_of identity = without_front (codes "__") identity

-- a set that the rules leave is refused or kept
abbrev pub judged_by : List Pair → Option TargetCause → Outcome
judged_by set None = Kept (identity_of set)
judged_by set (Some cause) = Refused cause

-- a set after the rules, or none where one drops it
abbrev pub judged : Option (List Pair) → Outcome
judged None = Dropped
judged (Some set) = judged_by set (cause_of set)

-- what becomes of a target that a group of a job lists
unfoldable pub outcome_of : JobConf → List RuleConf → Group → List ℕ → Outcome
outcome_of conf rules group text = judged (relabelled rules (prepared conf group text))
