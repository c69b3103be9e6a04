-- The text of a request (RFC 9112, sections 3 and 5), with the fields that a Prometheus server sends for a scrape.
use Rattle.std.specs.Prelude.{ℕ, List, [], ◌∷◌, ◌++◌, codes}
use Rattle.std.specs.List.{flat_map}
use Rattle.value_text.specs.Numbers.{seconds3, number}
use Rattle.outside.specs.declared.requests.Request.{Request}

-- a line, with the carriage return and the line feed that end it
abbrev pub ended_line : List ℕ → List ℕ
ended_line text = text ++ 13 ∷ 10 ∷ []

-- the lines of a request, and the empty line behind them; the timeout is that of the scrape, in seconds with three decimals
abbrev pub request_lines : Request → List (List ℕ)
request_lines r =
    (codes "GET " ++ r.target ++ codes " HTTP/1.1")
    ∷ (codes "Host: " ++ r.authority)
    ∷ codes "Accept: application/openmetrics-text;version=1.0.0;q=1,text/plain;version=1.0.0;escaping=allow-utf-8;q=0.9,text/plain;version=0.0.4;q=0.8,*/*;q=0.1"
    ∷ codes "Accept-Encoding: identity"
    ∷ codes "User-Agent: scrape/1"
    ∷ (codes "X-Prometheus-Scrape-Timeout-Seconds: " ++ seconds3 (number r.timeout))
    ∷ codes "Connection: close"
    ∷ []
    ∷ []

-- the text that asks for a page
unfoldable pub request_text : Request → List ℕ
request_text r = flat_map ended_line (request_lines r)
