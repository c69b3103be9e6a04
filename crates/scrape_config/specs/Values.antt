-- The configuration that a text without faults gives.
use Rattle.std.specs.Prelude.{ℕ, ℤ, true, false, List, [], ◌∷◌, ◌++◌, codes, Option, Some, None, option_map, option_and_then, option_to_list, unwrap_or}
use Rattle.serde_json.specs.Data.{Data, Items, no_items, item, Members, no_members, member}
use Rattle.serde_json.specs.Find.{get, as_str, as_array, as_object}
use Rattle.label_set.specs.declared.texts.Pair.{Pair}
use Rattle.rule_conf.specs.declared.conf.Action.TheVariants as action
use Rattle.rule_conf.specs.declared.conf.RuleConf.{RuleConf}
use Rattle.scrape_config.specs.Defaults.{text_under, truth_under, whole_under, list_under, texts_of, texts_under, files_in, action_in, interval_in, timeout_or, limits_or, base_of}
use Rattle.scrape_config.specs.declared.defaults.Base.{Base}
use Rattle.outside.specs.Schemes.{scheme_of}
use Rattle.outside.specs.declared.requests.Scheme.{Scheme}
use Rattle.outside.specs.declared.requests.Scheme.TheVariants as scheme
use Rattle.scrape_config.specs.declared.conf.Param.{Param}
use Rattle.scrape_config.specs.declared.conf.Group.{Group}
use Rattle.scrape_config.specs.declared.conf.JobConf.{JobConf}
use Rattle.scrape_config.specs.declared.conf.Job.{Job}
use Rattle.scrape_config.specs.declared.conf.Conf.{Conf}

-- a text with its default
unfoldable pub text_or : List ℕ → List ℕ → Data → List ℕ
text_or default key d = unwrap_or (text_under key d) default

-- a rule
unfoldable pub rule_of : Data → RuleConf
rule_of d =
    record {
      sources = texts_under (codes "source_labels") d;
      separator = text_or (codes ";") (codes "separator") d;
      regex = text_or (codes "(.*)") (codes "regex") d;
      modulus = unwrap_or (whole_under (codes "modulus") d) 0;
      target = text_or [] (codes "target_label") d;
      replacement = text_or (codes "$1") (codes "replacement") d;
      action = unwrap_or (action_in d) action.Replace;
    }

abbrev pub rules_of : Items → List RuleConf
rules_of no_items = []
rules_of (item d ds) = rule_of d ∷ rules_of ds

-- the fields of an object
unfoldable pub members_under : List ℕ → Data → Members
members_under key d = unwrap_or (option_and_then as_object (get key d)) no_members

-- the labels of a group, by rising name
abbrev pub pairs_of : Members → List Pair
pairs_of no_members = []
pairs_of (member name d ms) = option_to_list (option_map (λ value. record { name = name; value = value }) (as_str d)) ++ pairs_of ms

-- a group, of a file or not
unfoldable pub group_of : Option (List ℕ) → Data → Group
group_of file d = record { labels = pairs_of (members_under (codes "labels") d); targets = texts_under (codes "targets") d; file = file }

abbrev pub groups_of : Option (List ℕ) → Items → List Group
groups_of file no_items = []
groups_of file (item d ds) = group_of file d ∷ groups_of file ds

-- the parameters of the URL, by rising name
abbrev pub params_of : Members → List Param
params_of no_members = []
params_of (member name d ms) = record { name = name; values = texts_of (unwrap_or (as_array d) no_items) } ∷ params_of ms

-- the timeout of a job
unfoldable pub timeout_in : Base → Data → ℤ
timeout_in base d = timeout_or base.timeout (interval_in base d) d

-- the scheme of a job, `http` where it says none
unfoldable pub scheme_in : Data → Scheme
scheme_in d = unwrap_or (option_and_then scheme_of (text_under (codes "scheme") d)) scheme.Http

-- a job
unfoldable pub job_of : Base → Data → JobConf
job_of base d =
    record {
      job_name = text_or [] (codes "job_name") d;
      scrape_interval = interval_in base d;
      scrape_timeout = timeout_in base d;
      metrics_path = text_or (codes "/metrics") (codes "metrics_path") d;
      scheme = scheme_in d;
      honor_labels = unwrap_or (truth_under (codes "honor_labels") d) false;
      honor_timestamps = unwrap_or (truth_under (codes "honor_timestamps") d) true;
      track_timestamps_staleness = unwrap_or (truth_under (codes "track_timestamps_staleness") d) false;
      extra_scrape_metrics = unwrap_or (truth_under (codes "extra_scrape_metrics") d) false;
      params = params_of (members_under (codes "params") d);
      relabel = rules_of (list_under (codes "relabel_configs") d);
      metric_relabel = rules_of (list_under (codes "metric_relabel_configs") d);
      limits = limits_or base.limits d;
      groups = groups_of None (list_under (codes "static_configs") d);
      files = files_in (list_under (codes "file_sd_configs") d);
    }

-- a job with its rules
unfoldable pub built : JobConf → Job
built conf = record { conf = conf; target_rules = conf.relabel; metric_rules = conf.metric_relabel }

abbrev pub jobs_of : Base → Items → List Job
jobs_of base no_items = []
jobs_of base (item d ds) = built (job_of base d) ∷ jobs_of base ds

-- the configuration
unfoldable pub conf_of : Data → Conf
conf_of d = record { jobs = jobs_of (base_of d) (list_under (codes "scrape_configs") d) }

-- the groups of the list of a file
unfoldable pub file_groups_of : List ℕ → Data → List Group
file_groups_of file d = groups_of (Some file) (unwrap_or (as_array d) no_items)
