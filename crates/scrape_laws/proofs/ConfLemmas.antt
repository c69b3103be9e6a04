-- What a configuration says of its jobs: no two have one name, and their rules for samples are built from their settings.
use Rattle.std.proofs.Common.{◌≡◌, ℕ, ℤ, ◌+◌, List, [], ◌∷◌, ◌++◌, map, refl, sym, ap, ap₂, ◌∙◌, subst, Option, None, Some, codes}
use Rattle.std.specs.Prelude.{All, Result, Ok, Err, option_map, option_and_then, option_to_list, unwrap_or}
use Rattle.std.proofs.lemmas.List.Elements.{All-nil, All-cons}
use Rattle.serde_json.specs.Data.{Data, Items, no_items, item, Members, no_members, member}
use Rattle.serde_json.specs.Find.{get, as_str, as_array, as_object}
use Rattle.config_fields.specs.Faults.{reported}
use Rattle.config_fields.specs.Places.{field_place, item_place}
use Rattle.config_fields.specs.Tables.{job_field, job_plain_field, top_field, key_text}
use Rattle.config_fields.specs.Walks.{missing_before, owed_after}
use Rattle.config_fields.specs.declared.fault.ConfFault.{ConfFault}
use Rattle.config_fields.specs.declared.fault.ConfFault.TheVariants.{Rule}
use Rattle.config_fields.specs.declared.forms.TextForm.TheVariants as form
use Rattle.config_fields.specs.declared.tables.Owed.{Owed}
use Rattle.config_fields.proofs.CleanLemmas.{AllCome, at_end, at_member, get-object, of_found, text-clean}
use Rattle.config_fields.proofs.FaultLemmas.{both_clean, of_shape-clean, reported-none}
use Rattle.scrape_config.specs.Defaults.{text_under, list_under, interval_in, base_of}
use Rattle.scrape_config.specs.Lists.{job_field_faults, owed_by_job, job_members_faults, job_faults, jobs_walk, name_again, names_of, twice_named, jobs_faults, top_field_faults, top_members_faults, conf_faults}
use Rattle.scrape_config.specs.Reading.{jobs_place, conf_in, json_of, jobs_pattern, reading, unless_fault, whole_reading, with_patterns}
use Rattle.scrape_config.specs.Values.{text_or, job_of, built, jobs_of, conf_of}
use Rattle.scrape_config.specs.declared.conf.Conf.{Conf}
use Rattle.scrape_config.specs.declared.conf.Job.{Job}
use Rattle.scrape_config.specs.declared.defaults.Base.{Base}
use Rattle.scrape_config.proofs.JobLemmas.{IsCleanTopField, job_field-clean, job_first, jobs_clean, top_members-clean}

-- the names of jobs
abbrev pub names_in : List Job → List (List ℕ)
names_in js = map (λ (j : Job). j.conf.job_name) js

-- the rules for samples are those of the settings
abbrev pub IsBuilt : Job → Type 0
IsBuilt j = j.metric_rules ≡ j.conf.metric_relabel

-- the required fields of a job without faults are there
all_come : (most : ℤ) (place : List ℕ) (owed : Owed) (ms : Members) → job_members_faults most place owed ms ≡ [] → AllCome owed ms
all_come most place owed no_members e = at_end place owed e
all_come most place owed (member key d ms) e =
    let first = both_clean (missing_before place owed key) _ e in
    let rest = both_clean (job_field_faults (job_field most key) (field_place place key) d) (job_members_faults most place (owed_after owed key) ms) first.1 in
    at_member place owed key d ms first.0 (all_come most place (owed_after owed key) ms rest.1)

-- it has a name
name_there : (base : Base) (place : List ℕ) (d : Data) → job_faults base place d ≡ [] → (t : List ℕ) × (text_under (codes "job_name") d ≡ Some t)
unfolding job_faults key_text job_field job_field_faults job_plain_field text_under
name_there base place d clean =
    let ms = of_shape-clean place (as_object d) (job_members_faults (interval_in base d) place owed_by_job) clean in
    let comes = (all_come (interval_in base d) place owed_by_job ms.0 ms.2).0 in
    let is : get (codes "job_name") d ≡ Some comes.0 = get-object d ms.0 ms.1 (codes "job_name") ∙ comes.1 in
    let t = text-clean form.ShortName (field_place place (codes "job_name")) comes.0 (job_field-clean base place d clean (codes "job_name") comes.0 is) in
    (t.0, ap (option_and_then as_str) is ∙ t.1)

-- the names of jobs are those that are compared
named_as : (base : Base) (place : List ℕ) (n : ℕ) (ds : Items) → jobs_walk base place n ds ≡ [] → names_of ds ≡ names_in (jobs_of base ds)
unfolding built job_of text_or
named_as base place n no_items clean = refl
named_as base place n (item d ds) clean =
    let parts = job_first base place n d ds clean in
    let t = name_there base (item_place place n) d parts.0 in
    ap₂ (λ (o : Option (List ℕ)) (names : List (List ℕ)). option_to_list o ++ names) t.1 (named_as base place (n + 1) ds parts.1)
    ∙ sym (ap (λ (o : Option (List ℕ)). unwrap_or o [] ∷ names_in (jobs_of base ds)) t.1)

-- each job is built
jobs_built : (base : Base) (ds : Items) → All IsBuilt (jobs_of base ds)
unfolding built
jobs_built base no_items = All-nil IsBuilt
jobs_built base (item d ds) = All-cons IsBuilt (built (job_of base d)) (jobs_of base ds) refl (jobs_built base ds)

no_name_twice : (o : Option (List ℕ)) → twice_named o ≡ [] → o ≡ None
no_name_twice None e = refl
no_name_twice (Some name) e = absurd cc

-- a configuration without faults has no name twice
module _ (d : Data) (clean : conf_faults d ≡ []) where
  names_by : (o : Option Data) → get (codes "scrape_configs") d ≡ o → name_again [] (names_of (unwrap_or (option_and_then as_array o) no_items)) ≡ None
  unfolding conf_faults top_field top_field_faults jobs_faults
  names_by None e = refl
  names_by (Some v) e =
      let ms = of_shape-clean [] (as_object d) (top_members_faults (base_of d)) clean in
      let field = of_found (IsCleanTopField (base_of d)) (codes "scrape_configs") v ms.0 (top_members-clean (base_of d) ms.0 ms.2)
      (sym (get-object d ms.0 ms.1 (codes "scrape_configs")) ∙ e) in
      let ds = of_shape-clean (field_place [] (codes "scrape_configs")) (as_array v) _ field in
      rw ds.1 (no_name_twice (name_again [] (names_of ds.0)) (both_clean (twice_named (name_again [] (names_of ds.0))) _ ds.2).0)

  names_once : name_again [] (names_of (list_under (codes "scrape_configs") d)) ≡ None
  unfolding list_under
  names_once = names_by (get (codes "scrape_configs") d) refl

  differ : name_again [] (names_in (conf_of d).jobs) ≡ None
  unfolding conf_of
  differ =
      ap (name_again []) (sym (named_as (base_of d) jobs_place 0 (list_under (codes "scrape_configs") d) (jobs_clean d clean))) ∙ names_once

all_built : (d : Data) → All IsBuilt (conf_of d).jobs
unfolding conf_of
all_built d = jobs_built (base_of d) (list_under (codes "scrape_configs") d)

-- what is read
pub no_fault : {A : Type 0} (o : Option ConfFault) (value a : A) → unless_fault o value ≡ Ok a → (o ≡ None) × (value ≡ a)
no_fault None value a e = let same : value ≡ a = cc in (refl, same)
no_fault (Some fault) value a e = absurd cc

without_patterns : (said : Result Conf ConfFault) (c : Conf) → with_patterns said ≡ Ok c → said ≡ Ok c
without_patterns (Err fault) c e = absurd cc
without_patterns (Ok conf) c e = ap Ok (no_fault (option_map (λ place. Rule place) (jobs_pattern 0 conf.jobs)) conf c e).1

-- what the jobs of a read configuration keep to
pub record AreSettled (js : List Job) : Type 0 where
  pub names : name_again [] (names_in js) ≡ None
  pub built : All IsBuilt js

settled_by : (o : Option Data) (c : Conf) → conf_in o ≡ Ok c → AreSettled c.jobs
settled_by None c e = absurd cc
settled_by (Some d) c e =
    let parts = no_fault (reported (conf_faults d)) (conf_of d) c e in
    let clean = reported-none (conf_faults d) parts.0 in
    subst (λ (z : Conf). AreSettled z.jobs) parts.1 (record { names = differ d clean; built = all_built d })

pub settled : (text : List ℕ) (c : Conf) → whole_reading text ≡ Ok c → AreSettled c.jobs
unfolding whole_reading reading
settled text c e = settled_by (json_of text) c (without_patterns (reading text) c e)
