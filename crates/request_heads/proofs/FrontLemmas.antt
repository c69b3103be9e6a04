-- What is found at the front of some bytes.
use Rattle.std.proofs.Common.{◌≡◌, ℕ, ◌<◌, ◌≤◌, List, [], ◌∷◌, ◌++◌, length, take, drop, map, refl, ap, arith}
use Rattle.std.proofs.lemmas.List.{length-take-le, length-map}
use Rattle.httparse.specs.Grammar.{RequestHead, Field, LineEnd, crlf, lf, print_end, print_section, print_request, ReadsRequest, HasNoRequest}
use Rattle.httparse.specs.Spans.{RequestOverflows, name_and_value}
use Rattle.httparse.proofs.GrammarLemmas.{request_unique, ReadsRequest-append}
use Rattle.request_heads.specs.Fronts.{NoHead}

-- of two fronts of one text the shorter begins the longer
front-of : (text more front rest : List ℕ) → text ++ more ≡ front ++ rest → length front ≤ length text → text ≡ front ++ drop (length front) text
front-of text more [] rest e h = refl
front-of [] more (c ∷ front) rest e h = absurd (omega arith)
front-of (d ∷ text) more (c ∷ front) rest e h =
    let tails : text ++ more ≡ front ++ rest = cc in
    let r : text ≡ front ++ drop (length front) text = front-of text more front rest tails (omega arith) in
    let first : d ≡ c = cc in
    cc

-- a head has a byte
right-nil : (a b : List ℕ) → a ++ b ≡ [] → b ≡ []
right-nil [] b e = e
right-nil (x ∷ a) b e = absurd cc

end-some : (e : LineEnd) → print_end e ≡ [] → ⊥
end-some crlf h = cc
end-some lf h = cc

some-of : (text : List ℕ) → (text ≡ [] → ⊥) → 0 < length text
some-of [] none = absurd (none refl)
some-of (b ∷ text) none = omega arith

pub request-some : (h : RequestHead) → 0 < length (print_request h)
unfolding print_request
request-some h = some-of (print_request h) (λ e. end-some h.last (right-nil _ (print_end h.last) (right-nil _ (print_section h.fields h.last) e)))

pub head-long : (text : List ℕ) (len : ℕ) (h : RequestHead) → ReadsRequest text h (drop len text) → len ≡ length (print_request h) → 65536 < len → (more : List ℕ) → NoHead (text ++ more)
head-long text len h reads is big more k rest y =
    let same = request_unique (text ++ more) h k (drop len text ++ more) rest (ReadsRequest-append text h (drop len text) more reads) y.reads in
    let one : length (print_request h) ≡ length (print_request k) = ap (λ (m : RequestHead). length (print_request m)) same.0 in
    let short : length (print_request k) ≤ 65536 = y.short in
    omega (arith, one, is, short, big)

pub head-full : (text : List ℕ) → HasNoRequest text → 65536 ≤ length text → (more : List ℕ) → NoHead (text ++ more)
head-full text none full more k rest y =
    let short : length (print_request k) ≤ 65536 = y.short in
    none k (drop (length (print_request k)) text) (y.reads.0, front-of text more (print_request k) rest y.reads.1 (omega (arith, short, full)))

pub head-none : (text : List ℕ) → HasNoRequest text → NoHead text
head-none text none k rest y = none k rest y.reads

pub head-over : (text : List ℕ) → RequestOverflows 64 text → (more : List ℕ) → NoHead (text ++ more)
head-over text over more k rest y = (let big : 64 < length k.fields = over more k rest y.reads in let few : length k.fields ≤ 64 = y.few in omega (arith, big, few))

-- the room for headers bounds the fields
pub fields-few : {A : Type 0} (f : A → List ℕ × List ℕ) (hs : List A) (fields : List Field) (n : ℕ) → map f (take n hs) ≡ map name_and_value fields → n ≤ length hs → length hs ≤ 64 → length fields ≤ 64
fields-few {A} f hs fields n e within room =
    let a : length (map f (take n hs)) ≡ length (take n hs) = length-map (take n hs) f in
    let b : length (map name_and_value fields) ≡ length fields = length-map fields name_and_value in
    let t : length (take n hs) ≡ n = length-take-le n hs within in
    let k : length (map f (take n hs)) ≡ length (map name_and_value fields) = ap length e in
    omega (arith, a, b, t, k, within, room)
