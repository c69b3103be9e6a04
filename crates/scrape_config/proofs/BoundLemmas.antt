-- The intervals and timeouts of a configuration are in their bounds: a field's duration is, and so is what stands in its place.
use Rattle.std.proofs.Common.{◌≡◌, ℕ, ◌^◌, ℤ, pos, Bool, true, false, List, refl, Option, None, Some, All, nat_le, arith, if◌then◌else◌}
use Rattle.std.specs.Prelude.{◌==◌, unwrap_or, option_map, option_and_then, int_lt, codes}
use Rattle.std.proofs.lemmas.Bool.Decides.{nat_tests}
use Rattle.std.proofs.lemmas.List.Elements.{All-nil, All-cons}
use Rattle.serde_json.specs.Data.{Data, null, Items, no_items, item}
use Rattle.serde_json.specs.Find.{get}
use Rattle.value_text.specs.Durations.{duration}
use Rattle.config_fields.specs.Forms.{millis_of}
use Rattle.scrape_config.specs.Bounds.{IsInterval, IsBounded}
use Rattle.scrape_config.specs.Defaults.{text_under, list_under, counted, duration_under, lesser, interval_or, timeout_or, global_base, base_of, interval_in}
use Rattle.scrape_config.specs.Values.{timeout_in, job_of, built, jobs_of, conf_of}
use Rattle.scrape_config.specs.declared.defaults.Base.{Base}
use Rattle.scrape_config.specs.declared.conf.Job.{Job}

in_bounds : (n : ℕ) → (n == 0) ≡ false → nat_le n (2 ^ 40) ≡ true → IsInterval (pos n)
in_bounds n some e = grind (arith, nat_tests)

module _ (base : ℤ) (is : IsInterval base) where
  counted_by : (n : ℕ) (b : Bool) → (n == 0) ≡ b → nat_le n (2 ^ 40) ≡ true → IsInterval (unwrap_or (option_map (λ m. pos m) (if b then None else Some n)) base)
  counted_by n true z e = is
  counted_by n false z e = in_bounds n z e

  -- a number of milliseconds, where it is at most 2^40, and else what stands in its place
  bounded_by : (n : ℕ) (b : Bool) → nat_le n (2 ^ 40) ≡ b →
      IsInterval (unwrap_or (option_map (λ m. pos m) (option_and_then counted (if b then Some n else None))) base)
  bounded_by n true e = counted_by n (n == 0) refl e
  bounded_by n false e = is

  millis_by : (o : Option ℕ) →
      IsInterval (unwrap_or (option_map (λ m. pos m) (option_and_then counted (option_and_then (λ n. if nat_le n (2 ^ 40) then Some n else None) o))) base)
  millis_by None = is
  millis_by (Some n) = bounded_by n (nat_le n (2 ^ 40)) refl

  text_by : (o : Option (List ℕ)) → IsInterval (unwrap_or (option_map (λ m. pos m) (option_and_then counted (option_and_then millis_of o))) base)
  unfolding millis_of
  text_by None = is
  text_by (Some text) = millis_by (duration text)

  -- what a field says, or what stands in its place
  said : (key : List ℕ) (d : Data) → IsInterval (unwrap_or (option_map (λ m. pos m) (duration_under key d)) base)
  unfolding duration_under
  said key d = text_by (text_under key d)

lesser_by : (a b : ℤ) (c : Bool) → IsInterval a → IsInterval b → IsInterval (if c then b else a)
lesser_by a b true h k = k
lesser_by a b false h k = h

interval_bounded : (base : ℤ) (d : Data) → IsInterval base → IsInterval (interval_or base d)
unfolding interval_or
interval_bounded base d h = said base h (codes "scrape_interval") d

timeout_bounded : (base interval : ℤ) (d : Data) → IsInterval base → IsInterval interval → IsInterval (timeout_or base interval d)
unfolding timeout_or
timeout_bounded base interval d h k = said (lesser base interval) (lesser_by base interval (int_lt interval base) h k) (codes "scrape_timeout") d

minute : IsInterval (pos 60000)
minute = grind arith

ten_seconds : IsInterval (pos 10000)
ten_seconds = grind arith

abbrev pub HasBounds : Base → Type 0
HasBounds base = IsInterval base.interval × IsInterval base.timeout

global_bounded : (d : Data) → HasBounds (global_base d)
unfolding global_base
global_bounded d =
    let interval = interval_bounded (pos 60000) d minute in
    (interval, timeout_bounded (pos 10000) (interval_or (pos 60000) d) d ten_seconds interval)

pub base_bounded : (d : Data) → HasBounds (base_of d)
unfolding base_of
base_bounded d = global_bounded (unwrap_or (get (codes "global") d) null)

pub job_bounded : (base : Base) (d : Data) → HasBounds base → IsBounded (job_of base d)
unfolding job_of timeout_in interval_in
job_bounded base d h =
    let interval = interval_bounded base.interval d h.0 in
    (interval, timeout_bounded base.timeout (interval_or base.interval d) d h.1 interval)

abbrev pub IsBoundedJob : Job → Type 0
IsBoundedJob j = IsBounded j.conf

jobs_bounded : (base : Base) → HasBounds base → (ds : Items) → All IsBoundedJob (jobs_of base ds)
unfolding built
jobs_bounded base h no_items = All-nil IsBoundedJob
jobs_bounded base h (item d ds) = All-cons IsBoundedJob (built (job_of base d)) (jobs_of base ds) (job_bounded base d h) (jobs_bounded base h ds)

-- the jobs of a configuration
pub conf_bounded : (d : Data) → All (λ (j : Job). IsBounded j.conf) (conf_of d).jobs
unfolding conf_of
conf_bounded d = jobs_bounded (base_of d) (base_bounded d) (list_under (codes "scrape_configs") d)
