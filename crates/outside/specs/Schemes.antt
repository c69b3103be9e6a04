-- How a scheme is written ("Configuration" of the Prometheus documentation: `scheme`, and the label `__scheme__`).
use Rattle.std.specs.Prelude.{ℕ, Bool, List, codes, Option, Some, None, is_some, if◌then◌else◌}
use Rattle.std.specs.Str.{bytes_eq}
use Rattle.outside.specs.declared.requests.Scheme.{Scheme}
use Rattle.outside.specs.declared.requests.Scheme.TheVariants.{Http, Https}

abbrev pub scheme_text : Scheme → List ℕ
scheme_text Http = codes "http"
scheme_text Https = codes "https"

-- the scheme that a text names: `http` or `https`, and no other
unfoldable pub scheme_of : List ℕ → Option Scheme
scheme_of text = if bytes_eq text (scheme_text Http) then Some Http else (if bytes_eq text (scheme_text Https) then Some Https else None)

-- a text names a scheme
abbrev pub is_scheme : List ℕ → Bool
is_scheme text = is_some (scheme_of text)
