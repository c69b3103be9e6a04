-- What is the same by its fields is the same.
use Rattle.std.proofs.Common.{◌≡◌, ℕ, Bool, true, false, List, Some, Decides, refl, sym, ap, ◌∙◌}
use Rattle.std.specs.Str.{bytes_eq}
use Rattle.std.specs.Cmp.Lexicographic.{pointwise_decides, bytes_decides}
use Rattle.std.proofs.lemmas.Bool.{and_parts}
use Rattle.std.proofs.lemmas.Bool.Decides.{Decides-and, Decides-like, Decides-eqb, Decides-int_eq}
use Rattle.rule_conf.specs.declared.conf.Action.{Action}
use Rattle.rule_conf.specs.declared.conf.Action.TheVariants as action
use Rattle.rule_conf.specs.declared.conf.RuleConf.{RuleConf}
use Rattle.scrape_limits.specs.declared.limits.Limits.{Limits}
use Rattle.config_fields.specs.Forms.{action_of}
use Rattle.outside.specs.declared.requests.Scheme.{Scheme}
use Rattle.outside.specs.declared.requests.Scheme.TheVariants as scheme
use Rattle.scrape_config.specs.declared.conf.Param.{Param}
use Rattle.scrape_config.specs.declared.conf.JobConf.{JobConf}
use Rattle.scrape_config.specs.Settings.{HasSameReach, HasSameLists, Compatible, Same, agree, are_same_texts, action_name, is_same_action, is_same_rule, is_same_param, is_same_scheme, are_same_limits, has_same_reach, has_same_lists, is_compatible, is_same}

truths : (a b : Bool) → Decides (agree a b) (a ≡ b)
truths true true = (λ e. refl, λ e. refl)
truths true false = (λ e. absurd cc, λ e. absurd cc)
truths false true = (λ e. absurd cc, λ e. absurd cc)
truths false false = (λ e. refl, λ e. refl)

schemes : (a b : Scheme) → Decides (is_same_scheme a b) (a ≡ b)
schemes scheme.Http scheme.Http = (λ e. refl, λ e. refl)
schemes scheme.Http scheme.Https = (λ e. absurd cc, λ e. absurd cc)
schemes scheme.Https scheme.Http = (λ e. absurd cc, λ e. absurd cc)
schemes scheme.Https scheme.Https = (λ e. refl, λ e. refl)

-- an action is reported by its name
named : (a : Action) → action_of (action_name a) ≡ Some a
unfolding action_of
named action.Replace = refl
named action.Keep = refl
named action.Drop = refl
named action.KeepEqual = refl
named action.DropEqual = refl
named action.HashMod = refl
named action.LabelMap = refl
named action.LabelDrop = refl
named action.LabelKeep = refl
named action.Lowercase = refl
named action.Uppercase = refl

same_said : (a b : Action) → Some a ≡ Some b → a ≡ b
same_said a b e = cc

actions : (a b : Action) → Decides (is_same_action a b) (a ≡ b)
unfolding is_same_action
actions a b =
    Decides-like (bytes_eq (action_name a) (action_name b)) (λ e. same_said a b (sym (named a) ∙ ap action_of e ∙ named b)) (ap action_name)
    (bytes_decides (action_name a) (action_name b))

texts : (a b : List (List ℕ)) → Decides (are_same_texts a b) (a ≡ b)
texts = pointwise_decides bytes_decides

abbrev AllOfRule : RuleConf → RuleConf → Type 0
AllOfRule a b =
    (a.sources ≡ b.sources)
    × ((a.separator ≡ b.separator) × ((a.regex ≡ b.regex) × ((a.modulus ≡ b.modulus) × ((a.target ≡ b.target) × ((a.replacement ≡ b.replacement) × (a.action ≡ b.action))))))

abbrev rule_of : List (List ℕ) → List ℕ → List ℕ → ℕ → List ℕ → List ℕ → Action → RuleConf
rule_of sources separator regex modulus target replacement action =
    record { sources = sources; separator = separator; regex = regex; modulus = modulus; target = target; replacement = replacement; action = action }

one_rule : (a b : RuleConf) → AllOfRule a b → a ≡ b
one_rule a b h =
    λ i. rule_of (h.0 i) (h.1.0 i) (h.1.1.0 i) (h.1.1.1.0 i) (h.1.1.1.1.0 i) (h.1.1.1.1.1.0 i) (h.1.1.1.1.1.1 i)

rule_parts : (a b : RuleConf) → a ≡ b → AllOfRule a b
rule_parts a b e = (
  ap (λ (r : RuleConf). r.sources) e,
  (
    ap (λ (r : RuleConf). r.separator) e,
    (
      ap (λ (r : RuleConf). r.regex) e,
      (
        ap (λ (r : RuleConf). r.modulus) e,
        (
          ap (λ (r : RuleConf). r.target) e,
          (ap (λ (r : RuleConf). r.replacement) e, ap (λ (r : RuleConf). r.action) e),
        ),
      ),
    ),
  ),
)

rules : (a b : RuleConf) → Decides (is_same_rule a b) (a ≡ b)
unfolding is_same_rule
rules a b =
    Decides-like _ (one_rule a b) (rule_parts a b)
    (Decides-and _ _ (texts a.sources b.sources)
    (Decides-and _ _ (bytes_decides a.separator b.separator)
    (Decides-and _ _ (bytes_decides a.regex b.regex)
    (Decides-and _ _ (Decides-eqb a.modulus b.modulus)
    (Decides-and _ _ (bytes_decides a.target b.target)
    (Decides-and _ _ (bytes_decides a.replacement b.replacement) (actions a.action b.action)))))))

abbrev AllOfParam : Param → Param → Type 0
AllOfParam a b = (a.name ≡ b.name) × (a.values ≡ b.values)

abbrev param_of : List ℕ → List (List ℕ) → Param
param_of name values = record { name = name; values = values }

one_param : (a b : Param) → AllOfParam a b → a ≡ b
one_param a b h = λ i. param_of (h.0 i) (h.1 i)

params : (a b : Param) → Decides (is_same_param a b) (a ≡ b)
unfolding is_same_param
params a b =
    Decides-like _ (one_param a b) (λ e. (ap (λ (p : Param). p.name) e, ap (λ (p : Param). p.values) e))
    (Decides-and _ _ (bytes_decides a.name b.name) (texts a.values b.values))

abbrev AllOfLimits : Limits → Limits → Type 0
AllOfLimits a b =
    (a.sample ≡ b.sample)
    × ((a.label ≡ b.label) × ((a.name_length ≡ b.name_length) × ((a.value_length ≡ b.value_length) × ((a.body_size ≡ b.body_size) × (a.target ≡ b.target)))))

abbrev limits_of : ℕ → ℕ → ℕ → ℕ → ℕ → ℕ → Limits
limits_of sample label name_length value_length body_size target =
    record { sample = sample; label = label; name_length = name_length; value_length = value_length; body_size = body_size; target = target }

one_limits : (a b : Limits) → AllOfLimits a b → a ≡ b
one_limits a b h = λ i. limits_of (h.0 i) (h.1.0 i) (h.1.1.0 i) (h.1.1.1.0 i) (h.1.1.1.1.0 i) (h.1.1.1.1.1 i)

limit_parts : (a b : Limits) → a ≡ b → AllOfLimits a b
limit_parts a b e = (
  ap (λ (l : Limits). l.sample) e,
  (
    ap (λ (l : Limits). l.label) e,
    (
      ap (λ (l : Limits). l.name_length) e,
      (ap (λ (l : Limits). l.value_length) e, (ap (λ (l : Limits). l.body_size) e, ap (λ (l : Limits). l.target) e)),
    ),
  ),
)

limits : (a b : Limits) → Decides (are_same_limits a b) (a ≡ b)
unfolding are_same_limits
limits a b =
    Decides-like _ (one_limits a b) (limit_parts a b)
    (Decides-and _ _ (Decides-eqb a.sample b.sample)
    (Decides-and _ _ (Decides-eqb a.label b.label)
    (Decides-and _ _ (Decides-eqb a.name_length b.name_length)
    (Decides-and _ _ (Decides-eqb a.value_length b.value_length)
    (Decides-and _ _ (Decides-eqb a.body_size b.body_size) (Decides-eqb a.target b.target))))))

reach : (a b : JobConf) → Decides (has_same_reach a b) (HasSameReach a b)
unfolding has_same_reach
reach a b =
    Decides-like _ (λ h. (h.0, h.1.0, h.1.1.0, h.1.1.1.0, h.1.1.1.1.0, h.1.1.1.1.1.0, h.1.1.1.1.1.1))
    (λ h. (h.0, (h.1, (h.2, (h.3, (h.4, (h.5, h.6)))))))
    (Decides-and _ _ (bytes_decides a.job_name b.job_name)
    (Decides-and _ _ (truths a.honor_labels b.honor_labels)
    (Decides-and _ _ (truths a.honor_timestamps b.honor_timestamps)
    (Decides-and _ _ (truths a.track_timestamps_staleness b.track_timestamps_staleness)
    (Decides-and _ _ (truths a.extra_scrape_metrics b.extra_scrape_metrics)
    (Decides-and _ _ (bytes_decides a.metrics_path b.metrics_path) (schemes a.scheme b.scheme)))))))

lists : (a b : JobConf) → Decides (has_same_lists a b) (HasSameLists a b)
unfolding has_same_lists
lists a b =
    Decides-like _ (λ h. (h.0, h.1.0, h.1.1)) (λ h. (h.0, (h.1, h.2)))
    (Decides-and _ _ (pointwise_decides params a.params b.params)
    (Decides-and _ _ (pointwise_decides rules a.relabel b.relabel) (pointwise_decides rules a.metric_relabel b.metric_relabel)))

pub compatible_is_decided : (a b : JobConf) → Decides (is_compatible a b) (Compatible a b)
unfolding is_compatible Compatible
compatible_is_decided a b = Decides-and (has_same_reach a b) (has_same_lists a b) (reach a b) (lists a b)

pub same_is_decided : (a b : JobConf) → Decides (is_same a b) (Same a b)
unfolding is_same Same
same_is_decided a b =
    Decides-like _ (λ h. (h.0, h.1.0, h.1.1.0, h.1.1.1)) (λ h. (h.0, (h.1, (h.2, h.3))))
    (Decides-and _ _ (compatible_is_decided a b)
    (Decides-and _ _ (Decides-int_eq a.scrape_interval b.scrape_interval)
    (Decides-and _ _ (Decides-int_eq a.scrape_timeout b.scrape_timeout) (limits a.limits b.limits))))

pub same_is_compatible : (a b : JobConf) → is_same a b ≡ true → is_compatible a b ≡ true
unfolding is_same
same_is_compatible a b e = (and_parts (is_compatible a b) _ e).0
