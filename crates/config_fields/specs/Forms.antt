-- What the value of a field may be, and what is wrong with it otherwise ("Configuration" of the Prometheus documentation).
use Rattle.std.specs.Prelude.{ℕ, ◌^◌, ℤ, pos, Bool, true, false, not, ◌&&◌, ◌==◌, List, length, nat_le, nat_lt, int_le, codes, Option, Some, None, is_some, option_map, option_and_then, if◌then◌else◌}
use Rattle.std.specs.Str.{str_eq_ignore_ascii_case}
use Rattle.label_set.specs.Bytes.{is_label_name}
use Rattle.value_text.specs.Durations.{duration}
use Rattle.outside.specs.Sizes.{most_name_bytes}
use Rattle.outside.specs.Schemes.{is_scheme}
use Rattle.serde_json.specs.Data.{Data, Num}
use Rattle.serde_json.specs.Find.{as_bool, as_str, as_number, as_u64}
use Rattle.rule_conf.specs.declared.conf.Action.{Action}
use Rattle.rule_conf.specs.declared.conf.Action.TheVariants as action
use Rattle.config_fields.specs.declared.fault.Flaw.{Flaw}
use Rattle.config_fields.specs.declared.fault.Flaw.TheVariants as flaw
use Rattle.config_fields.specs.declared.forms.TextForm.{TextForm}
use Rattle.config_fields.specs.declared.forms.TextForm.TheVariants as form
use Rattle.config_fields.specs.declared.forms.Kind.{Kind}
use Rattle.config_fields.specs.declared.forms.Kind.TheVariants as kind

-- the milliseconds of a duration, 2^40 at most
unfoldable pub millis_of : List ℕ → Option ℕ
millis_of text = option_and_then (λ n. if nat_le n (2 ^ 40) then Some n else None) (duration text)

-- a duration of at most so many milliseconds
unfoldable pub is_within : ℤ → List ℕ → Bool
is_within most text = is_some (option_and_then (λ n. if int_le (pos n) most then Some n else None) (millis_of text))

-- a name of a job or a file: a byte or more, up to the most of such a name
unfoldable pub is_short_name : List ℕ → Bool
is_short_name text = nat_le 1 (length text) && nat_le (length text) most_name_bytes

-- the action of a name, the letters of ASCII in any case
unfoldable pub action_of : List ℕ → Option Action
action_of text =
    if str_eq_ignore_ascii_case text (codes "replace") then Some action.Replace
    else if str_eq_ignore_ascii_case text (codes "keep") then Some action.Keep
    else if str_eq_ignore_ascii_case text (codes "drop") then Some action.Drop
    else if str_eq_ignore_ascii_case text (codes "keepequal") then Some action.KeepEqual
    else if str_eq_ignore_ascii_case text (codes "dropequal") then Some action.DropEqual
    else if str_eq_ignore_ascii_case text (codes "hashmod") then Some action.HashMod
    else if str_eq_ignore_ascii_case text (codes "labelmap") then Some action.LabelMap
    else if str_eq_ignore_ascii_case text (codes "labeldrop") then Some action.LabelDrop
    else if str_eq_ignore_ascii_case text (codes "labelkeep") then Some action.LabelKeep
    else if str_eq_ignore_ascii_case text (codes "lowercase") then Some action.Lowercase
    else if str_eq_ignore_ascii_case text (codes "uppercase") then Some action.Uppercase
    else None

-- a whole number up to 2^52 - 1
unfoldable pub is_limit : Num → Bool
is_limit n = is_some (option_and_then (λ m. if nat_lt m (2 ^ 52) then Some m else None) (as_u64 n))

-- a whole number from 1 to 2^64 - 1
unfoldable pub is_modulus : Num → Bool
is_modulus n = is_some (option_and_then (λ m. if nat_lt 0 m then Some m else None) (as_u64 n))

-- whether a text is of a form
unfoldable pub is_text_of : TextForm → List ℕ → Bool
is_text_of form.Any text = true
is_text_of form.Filled text = not (length text == 0)
is_text_of form.ShortName text = is_short_name text
is_text_of form.LabelName text = is_label_name text
is_text_of form.Scheme text = is_scheme text
is_text_of form.Action text = is_some (action_of text)
is_text_of form.Duration text = is_some (millis_of text)
is_text_of (form.Timeout most) text = is_within most text

-- the flaw of a value, of the right kind or not, and then allowed or not
abbrev pub judged : Option Bool → Option Flaw
judged None = Some flaw.Shape
judged (Some true) = None
judged (Some false) = Some flaw.Value

-- what is wrong with a value of a kind
unfoldable pub flaw_of : Kind → Data → Option Flaw
flaw_of kind.Any d = None
flaw_of kind.Truth d = judged (option_map (λ b. true) (as_bool d))
flaw_of kind.Limit d = judged (option_map is_limit (as_number d))
flaw_of kind.Modulus d = judged (option_map is_modulus (as_number d))
flaw_of (kind.Text form) d = judged (option_map (is_text_of form) (as_str d))
