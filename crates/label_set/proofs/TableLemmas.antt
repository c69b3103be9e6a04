-- What stands in the tables of the bytes of names.
use Rattle.std.proofs.Common.{◌≡◌, ℕ, ◌<◌, Bool, false, List, get_or, refl, ap, ◌∙◌, arith}
use Rattle.std.specs.Prelude.{map}
use Rattle.std.specs.List.{range_with_len}
use Rattle.std.proofs.lemmas.List.FromFn.{get_or-map-range_with_len}
use Rattle.label_set.specs.Bytes.{is_name_start, is_name_byte, is_metric_start, is_metric_byte}
use Rattle.label_set.specs.declared.names.TheConstants.{NAME_BYTES, METRIC_BYTES}

-- a table that a test filled
table_at : (p : ℕ → Bool) (table : List Bool) → table ≡ map p (range_with_len 0 256) → (b : ℕ) → b < 256 → get_or table b false ≡ p b
table_at p table e b h = ap (λ t. get_or t b false) e ∙ get_or-map-range_with_len p 0 256 b b false h (omega arith)

names : NAME_BYTES ≡ map is_name_byte (range_with_len 0 256)
unfolding is_name_byte is_name_start
names = refl

metrics : METRIC_BYTES ≡ map is_metric_byte (range_with_len 0 256)
unfolding is_metric_byte is_metric_start is_name_start
metrics = refl

pub name_at : (b : ℕ) → b < 256 → get_or NAME_BYTES b false ≡ is_name_byte b
name_at b h = table_at is_name_byte NAME_BYTES names b h

pub metric_at : (b : ℕ) → b < 256 → get_or METRIC_BYTES b false ≡ is_metric_byte b
metric_at b h = table_at is_metric_byte METRIC_BYTES metrics b h
