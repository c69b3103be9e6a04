-- What a request asks a status server for ("HTTP API", "Management API" and "Federation" of the Prometheus documentation; RFC 9112, sections 3, 6
-- and 9 for heads, bodies and connections). A field is its name and its value.
use Rattle.std.specs.Prelude.{ℕ, ◌+◌, Bool, ◌&&◌, ◌||◌, not, ◌==◌, if◌then◌else◌, List, take, drop, map, codes}
use Rattle.std.specs.List.{list_any, prefix_len}
use Rattle.std.specs.Str.{bytes_eq, str_eq_ignore_ascii_case}
use Rattle.httparse.specs.Grammar.{RequestHead}
use Rattle.httparse.specs.Spans.{name_and_value}
use Rattle.request_heads.specs.declared.pages.Page.{Page}
use Rattle.request_heads.specs.declared.pages.Page.TheVariants.{Targets, Federate, Reload, OtherMethod, OtherPath, Body}

-- the texts are the same but for the case of their ASCII letters
unfoldable pub same_word : List ℕ → List ℕ → Bool
same_word one other = str_eq_ignore_ascii_case one other

-- the field says that a body follows, or may follow
unfoldable pub tells_body : List ℕ × List ℕ → Bool
tells_body field = same_word field.0 (codes "transfer-encoding") || (same_word field.0 (codes "content-length") && not (bytes_eq field.1 (codes "0")))

-- the field says that the connection ends behind the reply
unfoldable pub tells_close : List ℕ × List ℕ → Bool
tells_close field = same_word field.0 (codes "connection") && same_word field.1 (codes "close")

-- the path of a request target stands before its first `?`, and its query behind that
abbrev pub path_of : List ℕ → List ℕ
path_of target = take (prefix_len (λ b. not (b == 63)) target) target

abbrev pub query_of : List ℕ → List ℕ
query_of target = drop (prefix_len (λ b. not (b == 63)) target + 1) target

-- a page, where its method is one of its own
abbrev pub page_if : Bool → Page → Page
page_if is_own page = if is_own then page else OtherMethod

-- the page of a path, by a method
unfoldable pub page_by : List ℕ → List ℕ → Page
page_by method path =
    if bytes_eq path (codes "/targets") then page_if (bytes_eq method (codes "GET")) Targets
    else if bytes_eq path (codes "/federate") then page_if (bytes_eq method (codes "GET")) Federate
    else if bytes_eq path (codes "/-/reload") then page_if (bytes_eq method (codes "POST") || bytes_eq method (codes "PUT")) Reload
    else OtherPath

-- what a request asks for, by its method, its target and its fields
abbrev pub asked : List ℕ → List ℕ → List (List ℕ × List ℕ) → Page
asked method target fields = if list_any tells_body fields then Body else page_by method (path_of target)

-- the same of a head
abbrev pub page_of : RequestHead → Page
page_of h = asked h.method h.target (map name_and_value h.fields)

-- whether the connection ends behind its reply
abbrev pub closes : RequestHead → Bool
closes h = list_any tells_close (map name_and_value h.fields)
