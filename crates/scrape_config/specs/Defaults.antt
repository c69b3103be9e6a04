-- What a field says, and what stands in its place where it is absent. Each function is total: of a value of another kind than the tables say
-- it takes what an absent field would give, since such a text is refused.
use Rattle.std.specs.Prelude.{ℕ, ◌+◌, ℤ, pos, int_lt, Bool, List, [], ◌∷◌, ◌++◌, codes, ◌==◌, Option, Some, None, option_map, option_and_then, option_to_list, unwrap_or, if◌then◌else◌}
use Rattle.std.specs.List.{list_any}
use Rattle.std.specs.Str.{bytes_eq}
use Rattle.serde_json.specs.Data.{Data, null, Items, no_items, item}
use Rattle.serde_json.specs.Find.{get, as_str, as_bool, as_number, as_u64, as_array}
use Rattle.rule_conf.specs.declared.conf.Action.{Action}
use Rattle.rule_conf.specs.declared.conf.Action.TheVariants as action
use Rattle.scrape_limits.specs.declared.limits.Limits.{Limits}
use Rattle.config_fields.specs.Forms.{millis_of, action_of}
use Rattle.scrape_config.specs.declared.defaults.Base.{Base}

-- the text, the truth value, the whole number of a field
unfoldable pub text_under : List ℕ → Data → Option (List ℕ)
text_under key d = option_and_then as_str (get key d)

unfoldable pub truth_under : List ℕ → Data → Option Bool
truth_under key d = option_and_then as_bool (get key d)

unfoldable pub whole_under : List ℕ → Data → Option ℕ
whole_under key d = option_and_then as_u64 (option_and_then as_number (get key d))

-- the list of a field
unfoldable pub list_under : List ℕ → Data → Items
list_under key d = unwrap_or (option_and_then as_array (get key d)) no_items

-- the texts of a list
abbrev pub texts_of : Items → List (List ℕ)
texts_of no_items = []
texts_of (item d ds) = option_to_list (as_str d) ++ texts_of ds

-- the texts of a field that is a list
unfoldable pub texts_under : List ℕ → Data → List (List ℕ)
texts_under key d = texts_of (list_under key d)

-- how many items a list has
abbrev pub item_count : Items → ℕ
item_count no_items = 0
item_count (item d ds) = 1 + item_count ds

-- how many targets the groups of a list have
abbrev pub target_count : Items → ℕ
target_count no_items = 0
target_count (item d ds) = item_count (list_under (codes "targets") d) + target_count ds

-- the files that the items of `file_sd_configs` list
abbrev pub listed_files : Items → List (List ℕ)
listed_files no_items = []
listed_files (item d ds) = texts_under (codes "files") d ++ listed_files ds

-- each text once, at its first place, after those seen
abbrev pub once : List (List ℕ) → List (List ℕ) → List (List ℕ)
once seen [] = seen
once seen (t ∷ ts) = if list_any (bytes_eq t) seen then once seen ts else once (seen ++ t ∷ []) ts

-- the different files that a job lists
unfoldable pub files_in : Items → List (List ℕ)
files_in ds = once [] (listed_files ds)

-- the action that a rule says, `replace` where it says none
abbrev pub action_said : Option Data → Option Action
action_said None = Some action.Replace
action_said (Some d) = option_and_then action_of (as_str d)

unfoldable pub action_in : Data → Option Action
action_in d = action_said (get (codes "action") d)

-- 0 counts as absent
abbrev pub counted : ℕ → Option ℕ
counted n = if n == 0 then None else Some n

-- the milliseconds of a field with a duration
unfoldable pub duration_under : List ℕ → Data → Option ℕ
duration_under key d = option_and_then counted (option_and_then millis_of (text_under key d))

-- the lesser of two moments
abbrev pub lesser : ℤ → ℤ → ℤ
lesser a b = if int_lt b a then b else a

-- the interval of `global` or a job, where base is what stands in its place
unfoldable pub interval_or : ℤ → Data → ℤ
interval_or base d = unwrap_or (option_map (λ n. pos n) (duration_under (codes "scrape_interval") d)) base

-- the timeout, where base stands in its place unless the interval is less
unfoldable pub timeout_or : ℤ → ℤ → Data → ℤ
timeout_or base interval d = unwrap_or (option_map (λ n. pos n) (duration_under (codes "scrape_timeout") d)) (lesser base interval)

-- a limit of `global` or a job
unfoldable pub limit_or : ℕ → List ℕ → Data → ℕ
limit_or base key d = unwrap_or (option_and_then counted (whole_under key d)) base

unfoldable pub limits_or : Limits → Data → Limits
limits_or base d =
    record {
      sample = limit_or base.sample (codes "sample_limit") d;
      label = limit_or base.label (codes "label_limit") d;
      name_length = limit_or base.name_length (codes "label_name_length_limit") d;
      value_length = limit_or base.value_length (codes "label_value_length_limit") d;
      body_size = limit_or base.body_size (codes "body_size_limit") d;
      target = limit_or base.target (codes "target_limit") d;
    }

-- no limit
abbrev pub unlimited : Limits
unlimited = record { sample = 0; label = 0; name_length = 0; value_length = 0; body_size = 0; target = 0 }

-- what `global` says: a minute, ten seconds and no limits where it says nothing
unfoldable pub global_base : Data → Base
global_base d =
    record { interval = interval_or (pos 60000) d; timeout = timeout_or (pos 10000) (interval_or (pos 60000) d) d; limits = limits_or unlimited d }

-- what a configuration says for all its jobs
unfoldable pub base_of : Data → Base
base_of d = global_base (unwrap_or (get (codes "global") d) null)

-- the interval of a job
unfoldable pub interval_in : Base → Data → ℤ
interval_in base d = interval_or base.interval d
