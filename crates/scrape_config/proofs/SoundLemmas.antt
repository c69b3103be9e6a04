-- What a configuration, or the list of a file, keeps to in which the walk finds no fault.
use Rattle.std.proofs.Common.{◌≡◌, ℕ, ◌+◌, Bool, true, false, List, [], refl, Option, None, Some, All, codes}
use Rattle.std.specs.Prelude.{unwrap_or, option_and_then, if◌then◌else◌}
use Rattle.std.specs.Str.{is_utf8}
use Rattle.std.proofs.lemmas.List.Elements.{All-nil, All-cons}
use Rattle.serde_json.specs.Data.{Data, Items, no_items, item}
use Rattle.serde_json.specs.Find.{get, as_array}
use Rattle.serde_json.specs.Read.{read}
use Rattle.config_fields.specs.Places.{field_place, item_place}
use Rattle.config_fields.specs.Tables.{job_field}
use Rattle.scrape_config.specs.Bounds.{HasLabelNames, IsSound}
use Rattle.scrape_config.specs.Defaults.{list_under, base_of}
use Rattle.scrape_config.specs.Lists.{job_field_faults, job_faults, jobs_walk, conf_faults, groups_faults}
use Rattle.scrape_config.specs.Reading.{json_of, jobs_place}
use Rattle.scrape_config.specs.Values.{groups_of, job_of, built, jobs_of, conf_of, file_groups_of}
use Rattle.scrape_config.specs.declared.defaults.Base.{Base}
use Rattle.scrape_config.proofs.BoundLemmas.{HasBounds, base_bounded, job_bounded}
use Rattle.scrape_config.proofs.JobLemmas.{job_field-clean, job_first, jobs_clean}
use Rattle.scrape_config.proofs.LabelLemmas.{static_named, file_named}
use Rattle.scrape_config.proofs.OrderLemmas.{IsOrdered, AreOrdered, read_ordered, array_ordered, field_ordered}

-- a job's groups
module _ (base : Base) (place : List ℕ) (d : Data) (clean : job_faults base place d ≡ []) (ordered : IsOrdered d) where
  groups_by : (o : Option Data) → get (codes "static_configs") d ≡ o → All HasLabelNames (groups_of None (unwrap_or (option_and_then as_array o) no_items))
  unfolding job_field job_field_faults
  groups_by None e = All-nil HasLabelNames
  groups_by (Some v) e =
      static_named (field_place place (codes "static_configs")) v (job_field-clean base place d clean (codes "static_configs") v e)
      (field_ordered (codes "static_configs") d v e ordered)

  job_named : All HasLabelNames (job_of base d).groups
  unfolding job_of list_under
  job_named = groups_by (get (codes "static_configs") d) refl

jobs_sound : (base : Base) → HasBounds base → (place : List ℕ) (n : ℕ) (ds : Items) → jobs_walk base place n ds ≡ [] → AreOrdered ds → All IsSound (jobs_of base ds)
unfolding built
jobs_sound base bounds place n no_items clean h = All-nil IsSound
jobs_sound base bounds place n (item d ds) clean h =
    let parts = job_first base place n d ds clean in
    All-cons IsSound (built (job_of base d)) (jobs_of base ds) (job_bounded base d bounds, job_named base (item_place place n) d parts.0 h.0)
    (jobs_sound base bounds place (n + 1) ds parts.1 h.1)

list_by : (d : Data) (o : Option Data) → get (codes "scrape_configs") d ≡ o → IsOrdered d → AreOrdered (unwrap_or (option_and_then as_array o) no_items)
list_by d None e h = tt
list_by d (Some v) e h = items_by v (as_array v) refl (field_ordered (codes "scrape_configs") d v e h)
  where
    items_by : (v : Data) (o : Option Items) → as_array v ≡ o → IsOrdered v → AreOrdered (unwrap_or o no_items)
    items_by v None e h = tt
    items_by v (Some ds) e h = array_ordered v ds e h

list_ordered : (d : Data) → IsOrdered d → AreOrdered (list_under (codes "scrape_configs") d)
unfolding list_under
list_ordered d h = list_by d (get (codes "scrape_configs") d) refl h

-- what was read has objects whose keys rise
text_ordered : (b : Bool) (bytes : List ℕ) (d : Data) → (if b then read bytes else None) ≡ Some d → IsOrdered d
text_ordered true bytes d e = read_ordered bytes d e
text_ordered false bytes d e = absurd cc

json_ordered : (bytes : List ℕ) (d : Data) → json_of bytes ≡ Some d → IsOrdered d
unfolding json_of
json_ordered bytes d e = text_ordered (is_utf8 bytes) bytes d e

pub conf_sound : (bytes : List ℕ) (d : Data) → json_of bytes ≡ Some d → conf_faults d ≡ [] → All IsSound (conf_of d).jobs
unfolding conf_of
conf_sound bytes d e clean =
    jobs_sound (base_of d) (base_bounded d) jobs_place 0 (list_under (codes "scrape_configs") d) (jobs_clean d clean) (list_ordered d (json_ordered bytes d e))

pub groups_sound : (bytes file : List ℕ) (d : Data) → json_of bytes ≡ Some d → groups_faults d ≡ [] → All HasLabelNames (file_groups_of file d)
unfolding groups_faults file_groups_of
groups_sound bytes file d e clean = file_named file [] d clean (json_ordered bytes d e)
