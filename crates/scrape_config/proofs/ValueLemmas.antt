-- A job put together from its fields.
use Rattle.std.proofs.Common.{◌≡◌, ℕ, ℤ, Bool, true, false, List, [], codes, refl}
use Rattle.std.specs.Prelude.{Option, None, unwrap_or}
use Rattle.serde_json.specs.Data.{Data, Items}
use Rattle.rule_conf.specs.declared.conf.RuleConf.{RuleConf}
use Rattle.scrape_limits.specs.declared.limits.Limits.{Limits}
use Rattle.scrape_config.specs.Defaults.{truth_under, list_under, files_in, interval_in, limits_or}
use Rattle.scrape_config.specs.Values.{text_or, rules_of, members_under, groups_of, params_of, timeout_in, scheme_in, job_of}
use Rattle.scrape_config.specs.declared.defaults.Base.{Base}
use Rattle.outside.specs.declared.requests.Scheme.{Scheme}
use Rattle.scrape_config.specs.declared.conf.Param.{Param}
use Rattle.scrape_config.specs.declared.conf.Group.{Group}

-- the fields that the definition names
job_fields : (base : Base) (d : Data) →
    record {
      job_name = text_or [] (codes "job_name") d;
      scrape_interval = interval_in base d;
      scrape_timeout = timeout_in base d;
      metrics_path = text_or (codes "/metrics") (codes "metrics_path") d;
      scheme = scheme_in d;
      honor_labels = unwrap_or (truth_under (codes "honor_labels") d) false;
      honor_timestamps = unwrap_or (truth_under (codes "honor_timestamps") d) true;
      track_timestamps_staleness = unwrap_or (truth_under (codes "track_timestamps_staleness") d) false;
      extra_scrape_metrics = unwrap_or (truth_under (codes "extra_scrape_metrics") d) false;
      params = params_of (members_under (codes "params") d);
      relabel = rules_of (list_under (codes "relabel_configs") d);
      metric_relabel = rules_of (list_under (codes "metric_relabel_configs") d);
      limits = limits_or base.limits d;
      groups = groups_of None (list_under (codes "static_configs") d);
      files = files_in (list_under (codes "file_sd_configs") d);
    } ≡ job_of base d
unfolding job_of
job_fields base d = refl

-- what was computed for each field gives the job
pub job_built : (base : Base) (d : Data) (name path : List ℕ) (interval timeout : ℤ) (scheme : Scheme) (labels stamps tracks extra : Option Bool)
    (params : List Param) (relabel metric_relabel : List RuleConf) (limits : Limits) (groups : List Group) (files : List (List ℕ)) (rs ms gs fs : Items) →
    name ≡ text_or [] (codes "job_name") d → path ≡ text_or (codes "/metrics") (codes "metrics_path") d →
    interval ≡ interval_in base d → timeout ≡ timeout_in base d → scheme ≡ scheme_in d →
    labels ≡ truth_under (codes "honor_labels") d → stamps ≡ truth_under (codes "honor_timestamps") d →
    tracks ≡ truth_under (codes "track_timestamps_staleness") d → extra ≡ truth_under (codes "extra_scrape_metrics") d →
    params ≡ params_of (members_under (codes "params") d) →
    rs ≡ list_under (codes "relabel_configs") d → ms ≡ list_under (codes "metric_relabel_configs") d →
    gs ≡ list_under (codes "static_configs") d → fs ≡ list_under (codes "file_sd_configs") d →
    relabel ≡ rules_of rs → metric_relabel ≡ rules_of ms → limits ≡ limits_or base.limits d → groups ≡ groups_of None gs → files ≡ files_in fs →
    record {
      job_name = name;
      scrape_interval = interval;
      scrape_timeout = timeout;
      metrics_path = path;
      scheme = scheme;
      honor_labels = unwrap_or labels false;
      honor_timestamps = unwrap_or stamps true;
      track_timestamps_staleness = unwrap_or tracks false;
      extra_scrape_metrics = unwrap_or extra false;
      params = params;
      relabel = relabel;
      metric_relabel = metric_relabel;
      limits = limits;
      groups = groups;
      files = files;
    } ≡ job_of base d
job_built base d name path interval timeout scheme labels stamps tracks extra params relabel metric_relabel limits groups files rs ms gs fs
    name_is path_is interval_is timeout_is scheme_is labels_is stamps_is tracks_is extra_is params_is rs_is ms_is gs_is fs_is relabel_is metric_is limits_is groups_is files_is =
    rw (
      name_is,
      path_is,
      interval_is,
      timeout_is,
      scheme_is,
      labels_is,
      stamps_is,
      tracks_is,
      extra_is,
      params_is,
      relabel_is,
      metric_is,
      limits_is,
      groups_is,
      files_is,
      rs_is,
      ms_is,
      gs_is,
      fs_is,
    )
    (job_fields base d)
