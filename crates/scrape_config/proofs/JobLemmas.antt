-- What a configuration says in which the walk finds no fault.
use Rattle.std.proofs.Common.{◌≡◌, ℕ, ℤ, ◌+◌, List, [], ◌++◌, refl, sym, ◌∙◌, Option, None, Some, codes}
use Rattle.std.specs.Prelude.{unwrap_or, option_and_then}
use Rattle.serde_json.specs.Data.{Data, Items, no_items, item, Members, no_members, member}
use Rattle.serde_json.specs.Find.{get, as_array, as_object}
use Rattle.rule_conf.specs.Refusals.{first_bad_rule}
use Rattle.config_fields.specs.Places.{field_place, item_place}
use Rattle.config_fields.specs.Tables.{job_field, top_field}
use Rattle.config_fields.specs.Walks.{flaws, missing_before, owed_after}
use Rattle.scrape_config.specs.Defaults.{list_under, item_count, interval_in, base_of}
use Rattle.scrape_config.specs.Lists.{crowd, objects_faults, list_faults, job_field_faults, owed_by_job, job_members_faults, job_faults, jobs_walk, twice_named, name_again, names_of, job_crowd, jobs_faults, top_field_faults, top_members_faults, conf_faults}
use Rattle.scrape_config.specs.Values.{job_of, rules_of}
use Rattle.scrape_config.specs.Reading.{jobs_place}
use Rattle.scrape_config.specs.declared.defaults.Base.{Base}
use Rattle.config_fields.specs.declared.tables.ListKind.TheVariants as list
use Rattle.config_fields.specs.declared.tables.Owed.{Owed}
use Rattle.config_fields.proofs.FaultLemmas.{both_clean, of_shape-clean}
use Rattle.config_fields.proofs.CleanLemmas.{OfEach, get-object, of_found}
use Rattle.scrape_config.proofs.RuleLemmas.{rules_fine}

-- the fields of a job without faults
module _ (most : ℤ) (place : List ℕ) where
  abbrev pub IsCleanJobField : List ℕ → Data → Type 0
  IsCleanJobField key d = job_field_faults (job_field most key) (field_place place key) d ≡ []

  pub job_members-clean : (owed : Owed) (ms : Members) → job_members_faults most place owed ms ≡ [] → OfEach IsCleanJobField ms
  job_members-clean owed no_members e = tt
  job_members-clean owed (member key d ms) e =
      let first = both_clean (missing_before place owed key) _ e in
      let rest = both_clean (job_field_faults (job_field most key) (field_place place key) d) (job_members_faults most place (owed_after owed key) ms) first.1 in
      (rest.0, job_members-clean (owed_after owed key) ms rest.1)

-- the fields of a text without faults
module _ (base : Base) where
  abbrev pub IsCleanTopField : List ℕ → Data → Type 0
  IsCleanTopField key d = top_field_faults base (top_field key) (field_place [] key) d ≡ []

  pub top_members-clean : (ms : Members) → top_members_faults base ms ≡ [] → OfEach IsCleanTopField ms
  top_members-clean no_members e = tt
  top_members-clean (member key d ms) e =
      let parts = both_clean (top_field_faults base (top_field key) (field_place [] key) d) (top_members_faults base ms) e in
      (parts.0, top_members-clean ms parts.1)

-- a list of rules without faults
list_fine : (place : List ℕ) (d : Data) → list_faults list.Rules place d ≡ [] → first_bad_rule 0 (rules_of (unwrap_or (as_array d) no_items)) ≡ None
unfolding list_faults crowd
list_fine place d clean =
    let ds = of_shape-clean place (as_array d) (λ ds. flaws place (crowd list.Rules ds) ++ objects_faults list.Rules place 0 ds) clean in
    rw ds.1 (rules_fine place 0 0 ds.0 ds.2)

-- a job without faults has rules of which no field is refused
module _ (base : Base) (place : List ℕ) (d : Data) (clean : job_faults base place d ≡ []) where
  pub job_field-clean : (key : List ℕ) (e : Data) → get key d ≡ Some e → job_field_faults (job_field (interval_in base d) key) (field_place place key) e ≡ []
  unfolding job_faults
  job_field-clean key e is =
      let ms = of_shape-clean place (as_object d) (job_members_faults (interval_in base d) place owed_by_job) clean in
      of_found (IsCleanJobField (interval_in base d) place) key e ms.0 (job_members-clean (interval_in base d) place owed_by_job ms.0 ms.2)
      (sym (get-object d ms.0 ms.1 key) ∙ is)

  metric_by : (o : Option Data) → get (codes "metric_relabel_configs") d ≡ o → first_bad_rule 0 (rules_of (unwrap_or (option_and_then as_array o) no_items)) ≡ None
  unfolding job_field job_field_faults
  metric_by None e = refl
  metric_by (Some v) e = list_fine (field_place place (codes "metric_relabel_configs")) v (job_field-clean (codes "metric_relabel_configs") v e)

  pub metric_fine : first_bad_rule 0 (job_of base d).metric_relabel ≡ None
  unfolding job_of list_under
  metric_fine = metric_by (get (codes "metric_relabel_configs") d) refl

  target_by : (o : Option Data) → get (codes "relabel_configs") d ≡ o → first_bad_rule 0 (rules_of (unwrap_or (option_and_then as_array o) no_items)) ≡ None
  unfolding job_field job_field_faults
  target_by None e = refl
  target_by (Some v) e = list_fine (field_place place (codes "relabel_configs")) v (job_field-clean (codes "relabel_configs") v e)

  pub target_fine : first_bad_rule 0 (job_of base d).relabel ≡ None
  unfolding job_of list_under
  target_fine = target_by (get (codes "relabel_configs") d) refl

-- a configuration without faults has jobs without faults
module _ (d : Data) (clean : conf_faults d ≡ []) where
  jobs_by : (o : Option Data) → get (codes "scrape_configs") d ≡ o → jobs_walk (base_of d) jobs_place 0 (unwrap_or (option_and_then as_array o) no_items) ≡ []
  unfolding conf_faults top_field top_field_faults jobs_faults jobs_place
  jobs_by None e = refl
  jobs_by (Some v) e =
      let ms = of_shape-clean [] (as_object d) (top_members_faults (base_of d)) clean in
      let field = of_found (IsCleanTopField (base_of d)) (codes "scrape_configs") v ms.0 (top_members-clean (base_of d) ms.0 ms.2)
      (sym (get-object d ms.0 ms.1 (codes "scrape_configs")) ∙ e) in
      let ds = of_shape-clean (field_place [] (codes "scrape_configs")) (as_array v) _ field in
      let rest = both_clean (twice_named (name_again [] (names_of ds.0))) _ ds.2 in
      rw ds.1 (both_clean (flaws (field_place [] (codes "scrape_configs")) (job_crowd (item_count ds.0))) _ rest.1).1

  pub jobs_clean : jobs_walk (base_of d) jobs_place 0 (list_under (codes "scrape_configs") d) ≡ []
  unfolding list_under
  jobs_clean = jobs_by (get (codes "scrape_configs") d) refl

-- the first of some jobs, and the others
pub job_first : (base : Base) (place : List ℕ) (n : ℕ) (d : Data) (ds : Items) → jobs_walk base place n (item d ds) ≡ [] → (job_faults base (item_place place n) d ≡ []) × (jobs_walk base place (n + 1) ds ≡ [])
job_first base place n d ds clean = both_clean (job_faults base (item_place place n) d) (jobs_walk base place (n + 1) ds) clean
