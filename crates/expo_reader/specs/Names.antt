-- The names on a sample line: bare, or in quotes where the form of the body has such (Prometheus documentation, "Exposition formats" and
-- "UTF-8 in Prometheus").
use Rattle.std.specs.Prelude.{ℕ, Bool, not, ◌&&◌, List, length, Option, Some, None, option_map, option_and_then, if◌then◌else◌, codes, ◌==◌}
use Rattle.std.specs.Str.{bytes_eq}
use Rattle.label_set.specs.Bytes.{is_label_name}
use Rattle.label_set.specs.declared.forms.Form.{Form}
use Rattle.label_set.specs.declared.forms.Form.TheVariants.{Plain, Quoted}
use Rattle.expo_reader.specs.Texts.{word_in, mark_in, text_in, text_value}

-- the one, or the other where there is none
abbrev pub or_else : {A : Type 0} → Option A → Option A → Option A
or_else (Some x) other = Some x
or_else None other = other

-- a text in quotes with its escapes resolved, which is UTF-8, and what follows it
abbrev pub resolved_text : Option (List ℕ × List ℕ) → Option (List ℕ × List ℕ)
resolved_text None = None
resolved_text (Some (text, rest)) = option_map (λ (value : List ℕ). (value, rest)) (text_value text)

unfoldable pub quote_in : List ℕ → Option (List ℕ × List ℕ)
quote_in bs = resolved_text (text_in bs)

-- a name that passes a test, and what follows it
abbrev pub passing : (List ℕ → Bool) → Option (List ℕ × List ℕ) → Option (List ℕ × List ℕ)
passing test None = None
passing test (Some (name, rest)) = if test name then Some (name, rest) else None

-- a bare label may have any label name but `__name__`
unfoldable pub is_exposed_name : List ℕ → Bool
is_exposed_name name = is_label_name name && not (bytes_eq name (codes "__name__"))

-- a metric may have any name in quotes but the empty one, a label any of these but `__name__`
unfoldable pub is_quoted_metric : List ℕ → Bool
is_quoted_metric name = not (length name == 0)

unfoldable pub is_quoted_name : List ℕ → Bool
is_quoted_name name = is_quoted_metric name && not (bytes_eq name (codes "__name__"))

-- the name of a label, and what follows it
abbrev pub bare_name : List ℕ → Option (List ℕ × List ℕ)
bare_name bs = passing is_exposed_name (word_in bs)

abbrev pub quoted_name : List ℕ → Option (List ℕ × List ℕ)
quoted_name bs = passing is_quoted_name (quote_in bs)

unfoldable pub name_in : Form → List ℕ → Option (List ℕ × List ℕ)
name_in Plain bs = bare_name bs
name_in Quoted bs = or_else (bare_name bs) (quoted_name bs)

-- the metric name in quotes behind the `{` with which a line begins, and what follows it
unfoldable pub braced_name : List ℕ → Option (List ℕ × List ℕ)
braced_name line = option_and_then (λ (inside : List ℕ). passing is_quoted_metric (quote_in inside)) (mark_in 123 line)
