-- What a configuration keeps to in which the walk finds no fault.
use Rattle.std.specs.Prelude.{◌≡◌, ◌^◌, ℤ, pos, ◌≤ℤ◌, true, All, map}
use Rattle.std.specs.List.{IsDistinct}
use Rattle.std.specs.Str.{bytes_eq}
use Rattle.label_set.specs.Bytes.{is_label_name}
use Rattle.label_set.specs.declared.texts.Pair.{Pair}
use Rattle.scrape_config.specs.declared.conf.Group.{Group}
use Rattle.scrape_config.specs.declared.conf.JobConf.{JobConf}
use Rattle.scrape_config.specs.declared.conf.Job.{Job}

-- from 1 to 2^40 milliseconds
abbrev pub IsInterval : ℤ → Type 0
IsInterval n = (pos 1 ≤ℤ n) × (n ≤ℤ pos (2 ^ 40))

-- the interval and the timeout of a job are in these bounds
abbrev pub IsBounded : JobConf → Type 0
IsBounded c = IsInterval c.scrape_interval × IsInterval c.scrape_timeout

-- the labels of a group have different names, each of them a label name
abbrev pub HasLabelNames : Group → Type 0
HasLabelNames g = All (λ (p : Pair). is_label_name p.name ≡ true) g.labels × IsDistinct bytes_eq (map (λ (p : Pair). p.name) g.labels)

-- a job has its interval and its timeout in their bounds, and groups with label names
abbrev pub IsSound : Job → Type 0
IsSound j = IsBounded j.conf × All HasLabelNames j.conf.groups
