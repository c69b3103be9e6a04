-- What a configuration, or the list of a file, keeps to that is read: its rules have no field that is refused, and
-- the labels of its groups have names.
use Rattle.std.proofs.Common.{◌≡◌, ℕ, ◌+◌, true, List, [], All, IfOk, Option, Some, None, Result, Ok, Err, option_map, codes, get_or, refl}
use Rattle.std.proofs.lemmas.List.Elements.{All-nil, All-cons, All-weaker}
use Rattle.label_set.specs.Bytes.{is_label_name}
use Rattle.label_set.specs.declared.texts.Pair.{Pair}
use Rattle.serde_json.specs.Data.{Data, Items, no_items, item}
use Rattle.relabel.proofs.FaultLemmas.{all_fine}
use Rattle.rule_conf.specs.Refusals.{HasNoBadField}
use Rattle.config_fields.specs.Faults.{reported}
use Rattle.config_fields.specs.Places.{item_place}
use Rattle.config_fields.specs.declared.fault.ConfFault.{ConfFault}
use Rattle.config_fields.specs.declared.fault.ConfFault.TheVariants.{Rule}
use Rattle.config_fields.proofs.FaultLemmas.{reported-none}
use Rattle.scrape_config.specs.Bounds.{HasLabelNames, IsSound}
use Rattle.scrape_config.specs.Defaults.{base_of, list_under}
use Rattle.scrape_config.specs.Lists.{conf_faults, groups_faults, jobs_walk}
use Rattle.scrape_config.specs.Reading.{conf_in, groups_in, groups_reading, jobs_pattern, jobs_place, json_of, reading, unless_fault, whole_reading, with_patterns}
use Rattle.scrape_config.specs.Values.{built, conf_of, file_groups_of, job_of, jobs_of}
use Rattle.scrape_config.specs.declared.conf.Conf.{Conf}
use Rattle.scrape_config.specs.declared.conf.Group.{Group}
use Rattle.scrape_config.specs.declared.conf.Job.{Job}
use Rattle.scrape_config.specs.declared.defaults.Base.{Base}
use Rattle.scrape_config.proofs.JobLemmas.{job_first, jobs_clean, metric_fine, target_fine}
use Rattle.scrape_config.proofs.SoundLemmas.{conf_sound, groups_sound}
use Rattle.named_series.specs.Named.{HasLabels}
use Rattle.named_series.proofs.LabelLemmas.{IsLabelled, name-filled}

-- the labels of a group have names
abbrev pub GroupLabelled : Group → Type 0
GroupLabelled g = HasLabels g.labels

named-group : (g : Group) → HasLabelNames g → GroupLabelled g
named-group g h =
    All-weaker (λ (p : Pair). is_label_name p.name ≡ true) IsLabelled (λ p e. name-filled p.name e) g.labels h.0

named-groups : (gs : List Group) → All HasLabelNames gs → All GroupLabelled gs
named-groups gs h = All-weaker HasLabelNames GroupLabelled named-group gs h

-- no field of a job's rules is refused
abbrev pub HasGoodRules : Job → Type 0
HasGoodRules j = All HasNoBadField j.target_rules × All HasNoBadField j.metric_rules

jobs-good : (base : Base) (place : List ℕ) (n : ℕ) (ds : Items) → jobs_walk base place n ds ≡ [] →
    All HasGoodRules (jobs_of base ds)
unfolding built
jobs-good base place n no_items clean = All-nil HasGoodRules
jobs-good base place n (item d ds) clean =
    let parts = job_first base place n d ds clean in
    All-cons HasGoodRules (built (job_of base d)) (jobs_of base ds) (
      all_fine 0 (job_of base d).relabel (target_fine base (item_place place n) d parts.0),
      all_fine 0 (job_of base d).metric_relabel (metric_fine base (item_place place n) d parts.0),
    )
    (jobs-good base place (n + 1) ds parts.1)

conf-good : (d : Data) → conf_faults d ≡ [] → All HasGoodRules (conf_of d).jobs
unfolding conf_of
conf-good d clean = jobs-good (base_of d) jobs_place 0 (list_under (codes "scrape_configs") d) (jobs_clean d clean)

-- both of a job
abbrev pub JobLabelled : Job → Type 0
JobLabelled j = HasGoodRules j × All GroupLabelled j.conf.groups

abbrev pub ConfLabelled : Conf → Type 0
ConfLabelled c = All JobLabelled c.jobs

both : (js : List Job) → All HasGoodRules js → All IsSound js → All JobLabelled js
both js good sound k d lt = (good k d lt, named-groups (get_or js k d).conf.groups (sound k d lt).1)

-- what a reading gives where it finds no fault
if-clean : {A : Type 0} (P : A → Type 0) (o : Option ConfFault) (a : A) → (o ≡ None → P a) → IfOk (unless_fault o a) P
if-clean P None a f = f refl
if-clean P (Some fault) a f = tt

conf-by : (text : List ℕ) (o : Option Data) → json_of text ≡ o → IfOk (conf_in o) ConfLabelled
conf-by text None e = tt
conf-by text (Some d) e =
    if-clean ConfLabelled (reported (conf_faults d)) (conf_of d)
    (λ none. both (conf_of d).jobs (conf-good d (reported-none (conf_faults d) none))
    (conf_sound text d e (reported-none (conf_faults d) none)))

pattern-labels : (r : Result Conf ConfFault) → IfOk r ConfLabelled → IfOk (with_patterns r) ConfLabelled
pattern-labels (Err fault) h = tt
pattern-labels (Ok c) h = if-clean ConfLabelled (option_map (λ place. Rule place) (jobs_pattern 0 c.jobs)) c (λ none. h)

pub conf-labels : (text : List ℕ) → IfOk (whole_reading text) ConfLabelled
unfolding whole_reading reading
conf-labels text = pattern-labels (reading text) (conf-by text (json_of text) refl)

groups-by : (file text : List ℕ) (o : Option Data) → json_of text ≡ o → IfOk (groups_in file o) (All GroupLabelled)
groups-by file text None e = tt
groups-by file text (Some d) e =
    if-clean (All GroupLabelled) (reported (groups_faults d)) (file_groups_of file d)
    (λ none. named-groups (file_groups_of file d) (groups_sound text file d e (reported-none (groups_faults d) none)))

pub groups-labels : (file text : List ℕ) → IfOk (groups_reading file text) (All GroupLabelled)
unfolding groups_reading
groups-labels file text = groups-by file text (json_of text) refl
