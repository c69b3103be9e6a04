-- The request of a scrape ("Configuration", scrape_config: params and metrics_path; relabel_config: the labels `__scheme__`, `__address__`,
-- `__metrics_path__` and `__param_<name>`; what a URL shows is the URL Standard's, and the limit of 64 MiB is this project's).
use Rattle.std.specs.Prelude.{ℕ, List, [], ◌∷◌, ◌++◌, find, map, flat_map, filter_map, fold, drop, length, slice_index, codes, decimal, ◌==◌, Option, Some, None, is_some, option_map, unwrap_or, Ok, Err, if◌then◌else◌}
use Rattle.std.specs.Borrow.{Bor}
use Rattle.std.specs.Str.{bytes_eq}
use Rattle.std.specs.BTreeSet.{insert_key}
use Rattle.url.specs.Parser.{Parsed}
use Rattle.url.specs.Parts.{Parts, nonempty_host}
use Rattle.url.specs.Host.{host_text}
use Rattle.url.specs.Setters as setters
use Rattle.label_set.specs.Bytes.{bytes_cmp}
use Rattle.label_set.specs.Sets.{value_of}
use Rattle.label_set.specs.declared.texts.Pair.{Pair}
use Rattle.outside.specs.Schemes.{scheme_of}
use Rattle.outside.specs.declared.requests.Request.{Request}
use Rattle.outside.specs.declared.requests.Scheme.{Scheme}
use Rattle.outside.specs.declared.requests.Scheme.TheVariants.{Http, Https}
use Rattle.scrape_limits.specs.Limits.{body_limit}
use Rattle.scrape_config.specs.declared.conf.Param.{Param}
use Rattle.scrape_config.specs.declared.conf.JobConf.{JobConf}
use Rattle.target_set.specs.Prepared.{address_label, scheme_label, path_label, param_prefix}
use Rattle.target_set.specs.Outcomes.{begins_with, cause_of, url_of}

-- the value of a label, empty where there is none
abbrev pub text_of : List Pair → List ℕ → List ℕ
text_of set name = unwrap_or (value_of set name) []

-- what a URL is read as, where it is one
abbrev pub if_read : Parsed Parts → Option Parts
if_read (Ok url) = Some url
if_read (Err error) = None

-- the URL of a target's scheme and address; none where the target has a cause
unfoldable pub base_of : List Pair → Option Parts
base_of identity = if is_some (cause_of identity) then None else if_read (url_of (text_of identity scheme_label) (text_of identity address_label))

-- a path with a `/` in front where it has none
abbrev pub with_slash : List ℕ → List ℕ
with_slash path = if slice_index path 0 == 47 then path else codes "/" ++ path

-- the path that is asked for, `/` where none is set
abbrev pub path_from : Option (List ℕ) → List ℕ
path_from None = codes "/"
path_from (Some path) = with_slash path

unfoldable pub path_of : List Pair → List ℕ
path_of identity = path_from (value_of identity path_label)

-- texts put one by one at their places: each once, rising by bytes
abbrev pub put_all : List (List ℕ) → List (List ℕ) → List (List ℕ)
put_all texts more = fold (insert_key bytes_cmp) texts more

-- the name of the parameter that a label sets: what follows `__param_` in the label's name
unfoldable pub param_name : List ℕ → Option (List ℕ)
param_name name = if begins_with param_prefix name then Some (drop (length param_prefix) name) else None

-- the names of a query, each once, rising by bytes: those of the job's parameters and those that labels set
abbrev pub query_names : List Pair → List Param → List (List ℕ)
query_names identity params = put_all (put_all [] (map (λ (p : Param). p.name) params)) (filter_map (λ (p : Pair). param_name p.name) identity)

-- the values that the job lists for a name
abbrev pub listed_values : List Param → List ℕ → List (List ℕ)
listed_values params name = unwrap_or (option_map (λ (p : Param). p.values) (find (λ (p : Param). bytes_eq p.name name) params)) []

-- values with a label's value in place of the first, or as the only one
abbrev pub with_first_value : Option (List ℕ) → List (List ℕ) → List (List ℕ)
with_first_value None values = values
with_first_value (Some value) values = value ∷ drop 1 values

-- the value of the label that sets a parameter
unfoldable pub set_value : List Pair → List ℕ → Option (List ℕ)
set_value identity name = value_of identity (param_prefix ++ name)

-- the values of a name
abbrev pub values_for : List Pair → List Param → List ℕ → List (List ℕ)
values_for identity params name = with_first_value (set_value identity name) (listed_values params name)

-- a pair of texts that are borrowed
abbrev pub texts : Bor (List ℕ) × Bor (List ℕ) → List ℕ × List ℕ
texts p = (p.0.now, p.1.now)

-- a name with each of some values
abbrev pub each_of : List ℕ → List (List ℕ) → List (List ℕ × List ℕ)
each_of name values = map (λ value. (name, value)) values

-- the pairs of a query: each name with each of its values; a name without a value gives none
abbrev pub pairs_under : List Pair → List Param → List (List ℕ) → List (List ℕ × List ℕ)
pairs_under identity params names = flat_map (λ name. each_of name (values_for identity params name)) names

unfoldable pub query_pairs : List Pair → List Param → List (List ℕ × List ℕ)
query_pairs identity params = pairs_under identity params (query_names identity params)

-- a URL with a path and a query of pairs; with no query where there is no pair
abbrev pub page_of : Parts → List ℕ → List (List ℕ × List ℕ) → Parts
page_of base path [] = setters.set_path base path
page_of base path (p ∷ ps) = setters.append_query_pairs (setters.set_path base path) (p ∷ ps)

-- how a target is spoken to
abbrev pub scheme_in : List Pair → Scheme
scheme_in identity = unwrap_or (scheme_of (text_of identity scheme_label)) Http

-- the port of a scheme where a URL shows none
abbrev pub scheme_port : Scheme → ℕ
scheme_port Http = 80
scheme_port Https = 443

-- the host of a URL
unfoldable pub host_of : Parts → List ℕ
host_of url = unwrap_or (option_map host_text (nonempty_host url)) []

-- the host, and a colon and the port where the URL shows one
unfoldable pub authority_of : Parts → List ℕ
authority_of url = host_of url ++ unwrap_or (option_map (λ n. codes ":" ++ decimal n) url.port) []

-- the path, and a `?` and the query where there is one
unfoldable pub target_of : Parts → List ℕ
target_of url = url.path ++ unwrap_or (option_map (λ q. codes "?" ++ q) url.query) []

-- the request for a page
abbrev pub request_for : JobConf → Scheme → Parts → Request
request_for conf scheme page =
    record {
      scheme = scheme;
      authority = authority_of page;
      host = host_of page;
      port = unwrap_or page.port (scheme_port scheme);
      target = target_of page;
      timeout = conf.scrape_timeout;
      limit = body_limit conf.limits;
    }

-- the request of a target of a job at its URL
unfoldable pub request_at : JobConf → List Pair → Parts → Request
request_at conf identity base = request_for conf (scheme_in identity) (page_of base (path_of identity) (query_pairs identity conf.params))

-- the request of a target of a job: none where the target has a cause
unfoldable pub request_of : JobConf → List Pair → Option Request
request_of conf identity = option_map (request_at conf identity) (base_of identity)
