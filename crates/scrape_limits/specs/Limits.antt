-- The limits of a scrape job (Prometheus documentation, "Configuration", `<scrape_config>`).
use Rattle.std.specs.Prelude.{ℕ, Bool, not, List, length, Option, Some, None, ◌&&◌, ◌==◌, nat_lt, nat_le, if◌then◌else◌}
use Rattle.std.specs.List.{list_any}
use Rattle.label_set.specs.declared.texts.Pair.{Pair}
use Rattle.outside.specs.Sizes.{most_body_bytes}
use Rattle.scrape_limits.specs.declared.limits.Limits.{Limits}
use Rattle.scrape_limits.specs.declared.limits.LimitFault.{LimitFault}
use Rattle.scrape_limits.specs.declared.limits.LimitFault.TheVariants.{Labels, NameLength, ValueLength}

-- whether a count is past a limit; a limit of 0 is none
abbrev pub is_past : ℕ → ℕ → Bool
is_past limit count = not (limit == 0) && nat_lt limit count

-- more labels than `label_limit`; `__name__` is one of them
abbrev pub has_many_labels : Limits → List Pair → Bool
has_many_labels limits labels = is_past limits.label (length labels)

-- a label name of more bytes than `label_name_length_limit`
abbrev pub has_long_name : Limits → List Pair → Bool
has_long_name limits labels = list_any (λ (p : Pair). is_past limits.name_length (length p.name)) labels

-- a label value of more bytes than `label_value_length_limit`
abbrev pub has_long_value : Limits → List Pair → Bool
has_long_value limits labels = list_any (λ (p : Pair). is_past limits.value_length (length p.value)) labels

-- the first of these that holds
unfoldable pub limit_fault : Limits → List Pair → Option LimitFault
limit_fault limits labels =
    if has_many_labels limits labels then Some Labels
    else if has_long_name limits labels then Some NameLength
    else if has_long_value limits labels then Some ValueLength
    else None

-- more samples left than `sample_limit`
abbrev pub has_many_samples : Limits → ℕ → Bool
has_many_samples limits left = is_past limits.sample left

-- how many bytes a body may have: `body_size_limit` where that is from 1 byte to the most, else the most of any body
abbrev pub body_limit : Limits → ℕ
body_limit limits = if nat_lt 0 limits.body_size && nat_le limits.body_size most_body_bytes then limits.body_size else most_body_bytes
