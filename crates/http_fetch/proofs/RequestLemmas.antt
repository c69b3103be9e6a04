-- The text of a request, piece by piece.
use Rattle.std.proofs.Common.{◌≡◌, ℕ, List, [], ◌∷◌, ◌++◌, codes, sym, ap, ◌∙◌, append_assoc, append-nil}
use Rattle.std.specs.List.{flat_map}
use Rattle.http_fetch.specs.Requests.{ended_line}

abbrev ends : List ℕ
ends = 13 ∷ 10 ∷ []

-- the lines that each request has, and those that end it
abbrev pub same_lines : List ℕ
same_lines = ended_line (codes "Accept: application/openmetrics-text;version=1.0.0;q=1,text/plain;version=1.0.0;escaping=allow-utf-8;q=0.9,text/plain;version=0.0.4;q=0.8,*/*;q=0.1") ++ ended_line (codes "Accept-Encoding: identity") ++ ended_line (codes "User-Agent: scrape/1")

abbrev pub last_lines : List ℕ
last_lines = ended_line (codes "Connection: close") ++ ended_line []

abbrev timeout_name : List ℕ
timeout_name = codes "X-Prometheus-Scrape-Timeout-Seconds: "

abbrev pub lines : List ℕ → List ℕ → List ℕ → List (List ℕ)
lines target authority seconds =
    (codes "GET " ++ target ++ codes " HTTP/1.1")
    ∷ (codes "Host: " ++ authority)
    ∷ codes "Accept: application/openmetrics-text;version=1.0.0;q=1,text/plain;version=1.0.0;escaping=allow-utf-8;q=0.9,text/plain;version=0.0.4;q=0.8,*/*;q=0.1"
    ∷ codes "Accept-Encoding: identity"
    ∷ codes "User-Agent: scrape/1"
    ∷ (timeout_name ++ seconds)
    ∷ codes "Connection: close"
    ∷ []
    ∷ []

-- the text from the timeout on, and from the host on
abbrev timed : List ℕ → List ℕ
timed seconds = same_lines ++ (timeout_name ++ (seconds ++ (ends ++ last_lines)))

abbrev hosted : List ℕ → List ℕ → List ℕ
hosted authority seconds = codes "Host: " ++ (authority ++ (ends ++ timed seconds))

abbrev whole : List ℕ → List ℕ → List ℕ → List ℕ
whole target authority seconds = codes "GET " ++ (target ++ (codes " HTTP/1.1" ++ (ends ++ hosted authority seconds)))

timed-lines : (seconds : List ℕ) → same_lines ++ (timeout_name ++ ((seconds ++ ends) ++ last_lines)) ≡ timed seconds
timed-lines seconds = ap (λ (x : List ℕ). same_lines ++ (timeout_name ++ x)) (append_assoc seconds ends last_lines)

hosted-lines : (authority rest other : List ℕ) → rest ≡ other → codes "Host: " ++ ((authority ++ ends) ++ rest) ≡ codes "Host: " ++ (authority ++ (ends ++ other))
hosted-lines authority rest other e = ap (λ (x : List ℕ). codes "Host: " ++ x) (append_assoc authority ends rest ∙ ap (λ (x : List ℕ). authority ++ (ends ++ x)) e)

whole-lines : (target rest other : List ℕ) → rest ≡ other →
    codes "GET " ++ (((target ++ codes " HTTP/1.1") ++ ends) ++ rest) ≡ codes "GET " ++ (target ++ (codes " HTTP/1.1" ++ (ends ++ other)))
whole-lines target rest other e =
    ap (λ (x : List ℕ). codes "GET " ++ x)
    (append_assoc (target ++ codes " HTTP/1.1") ends rest ∙ append_assoc target (codes " HTTP/1.1") (ends ++ rest) ∙ ap (λ (x : List ℕ). target ++ (codes " HTTP/1.1" ++ (ends ++ x))) e)

pub flat-lines : (target authority seconds : List ℕ) → flat_map ended_line (lines target authority seconds) ≡ whole target authority seconds
flat-lines target authority seconds = whole-lines target _ _ (hosted-lines authority _ _ (timed-lines seconds))

-- three pieces more, before the rest
next : (t u p v q rest : List ℕ) → u ≡ t ++ p ++ v ++ q → u ++ rest ≡ t ++ (p ++ (v ++ (q ++ rest)))
next t u p v q rest e = ap (λ (x : List ℕ). x ++ rest) e ∙ append_assoc (t ++ p ++ v) q rest ∙ append_assoc (t ++ p) v (q ++ rest) ∙ append_assoc t p (v ++ (q ++ rest))

pub text-is : (target authority seconds s t u v w : List ℕ) → s ≡ [] → t ≡ s ++ codes "GET " ++ target ++ (codes " HTTP/1.1" ++ ends) → u ≡ t ++ codes "Host: " ++ authority ++ ends →
    v ≡ u ++ same_lines ++ timeout_name ++ seconds → w ≡ v ++ ends ++ last_lines ++ [] → w ≡ flat_map ended_line (lines target authority seconds)
text-is target authority seconds s t u v w none a b c d =
    sym (append-nil w)
    ∙ next v w ends last_lines [] [] d
    ∙ next u v same_lines timeout_name seconds (ends ++ last_lines) c
    ∙ next t u (codes "Host: ") authority ends (timed seconds) b
    ∙ next s t (codes "GET ") target (codes " HTTP/1.1" ++ ends) (hosted authority seconds) a
    ∙ ap (λ (x : List ℕ). x ++ whole target authority seconds) none
    ∙ sym (flat-lines target authority seconds)
