-- What is found at the front of some bytes.
use Rattle.std.proofs.Common.{◌≡◌, ℕ, suc, ◌+◌, ◌<◌, ◌≤◌, Bool, true, false, cond, List, [], ◌∷◌, ◌++◌, length, take, drop, refl, sym, ap, ◌∙◌, subst, arith, length-append, append_assoc, take, add-one}
use Rattle.std.specs.List.{list_all, prefix_len}
use Rattle.std.proofs.lemmas.Bool.Decides.{nat_tests}
use Rattle.httparse.specs.Grammar.{ResponseHead, ChunkLine, status_code, print_response, print_chunk_line, ReadsResponse, HasNoResponse, HasNoChunkLine}
use Rattle.httparse.specs.Spans.{IsChunkLineAt, ResponseOverflows}
use Rattle.http_fetch.specs.declared.fields.Kind.{Kind}
use Rattle.http_fetch.specs.declared.fields.Framing.{Framing}
use Rattle.http_fetch.specs.Replies.{framing_of, kind_of}
use Rattle.http_fetch.specs.Chunks.{is_text, is_blank, HasTrailers}
use Rattle.http_fetch.specs.Reading.{HasHead, NoHead, HasLine, NoLine}
use Rattle.http_fetch.proofs.FrontLemmas.{fronts}
use Rattle.httparse.proofs.GrammarLemmas.{response_unique, ReadsResponse-append}
use Rattle.httparse.proofs.ChunkLemmas.{chunk_line_unique, ReadsChunkLine-append}
use Rattle.http_fetch.proofs.TrailerLemmas.{trailers-behind}
use Rattle.http_fetch.proofs.DecoderLemmas.{print-some, line-some}

-- a front that is no longer than the text begins the text
front-of : (text more front rest : List ℕ) → text ++ more ≡ front ++ rest → length front ≤ length text → text ≡ front ++ drop (length front) text
front-of text more front rest e h = (fronts front text more rest e h).0

-- what is not empty has a byte
pos_of-some : (text : List ℕ) (len : ℕ) → len ≡ length text → (text ≡ [] → ⊥) → 0 < len
pos_of-some [] len e none = absurd (none refl)
pos_of-some (b ∷ text) len e none = omega (arith, e)

-- ---- chunk lines

pub line-found : (text : List ℕ) (len size : ℕ) (l : ChunkLine) → IsChunkLineAt text len size l → len ≤ 256 → HasLine text len size
line-found text len size l w small =
    let all : length text ≡ length (print_chunk_line l) + length (drop len text) = ap length w.reads.1 ∙ length-append (print_chunk_line l) (drop len text) in
    let is : len ≡ length (print_chunk_line l) = w.len_is in
    record {
      line = l;
      reads = record { reads = w.reads; short = omega (arith, is, small) };
      size_is = w.size_is;
      some = pos_of-some (print_chunk_line l) len is (λ e. line-some l [] (ap (λ (t : List ℕ). t ++ []) e));
      within = omega (arith, all, is);
    }

pub line-long : (text : List ℕ) (len size : ℕ) (l : ChunkLine) → IsChunkLineAt text len size l → 256 < len → (more : List ℕ) → NoLine (text ++ more)
line-long text len size l w big more k rest y =
    let same = chunk_line_unique (text ++ more) l k (drop len text ++ more) rest (ReadsChunkLine-append text l (drop len text) more w.reads) y.reads in
    let one : length (print_chunk_line l) ≡ length (print_chunk_line k) = ap (λ (m : ChunkLine). length (print_chunk_line m)) same.0 in
    let is : len ≡ length (print_chunk_line l) = w.len_is in
    let short : length (print_chunk_line k) ≤ 256 = y.short in
    omega (arith, one, is, short, big)

pub line-full : (text : List ℕ) → HasNoChunkLine text → 256 ≤ length text → (more : List ℕ) → NoLine (text ++ more)
line-full text none full more k rest y =
    let short : length (print_chunk_line k) ≤ 256 = y.short in
    none k (drop (length (print_chunk_line k)) text) (y.reads.0, front-of text more (print_chunk_line k) rest y.reads.1 (omega (arith, short, full)))

-- ---- heads

pub head-found : (text : List ℕ) (len code : ℕ) (f : Framing) (kind : Kind) (h : ResponseHead) → ReadsResponse text h (drop len text) → len ≡ length (print_response h) → code ≡ status_code h → f ≡ framing_of h → kind ≡ kind_of h →
    length h.fields ≤ 64 → len ≤ 65536 → HasHead text code len f kind
head-found text len code f kind h reads is status framing says few small =
    let all : length text ≡ length (print_response h) + length (drop len text) = ap length reads.1 ∙ length-append (print_response h) (drop len text) in
    record {
      head = h;
      reads = record { reads = reads; few = few; short = omega (arith, is, small) };
      status_is = status;
      framing_is = framing;
      kind_is = says;
      some = pos_of-some (print_response h) len is (λ e. print-some h [] (ap (λ (t : List ℕ). t ++ []) e));
      within = omega (arith, all, is);
    }

pub head-long : (text : List ℕ) (len : ℕ) (h : ResponseHead) → ReadsResponse text h (drop len text) → len ≡ length (print_response h) → 65536 < len → (more : List ℕ) → NoHead (text ++ more)
head-long text len h reads is big more k rest y =
    let same = response_unique (text ++ more) h k (drop len text ++ more) rest (ReadsResponse-append text h (drop len text) more reads) y.reads in
    let one : length (print_response h) ≡ length (print_response k) = ap (λ (m : ResponseHead). length (print_response m)) same.0 in
    let short : length (print_response k) ≤ 65536 = y.short in
    omega (arith, one, is, short, big)

pub head-full : (text : List ℕ) → HasNoResponse text → 65536 ≤ length text → (more : List ℕ) → NoHead (text ++ more)
head-full text none full more k rest y =
    let short : length (print_response k) ≤ 65536 = y.short in
    none k (drop (length (print_response k)) text) (y.reads.0, front-of text more (print_response k) rest y.reads.1 (omega (arith, short, full)))

pub head-none : (text : List ℕ) → HasNoResponse text → NoHead text
head-none text none k rest y = none k rest y.reads

pub head-over : (text : List ℕ) → ResponseOverflows 64 text → (more : List ℕ) → NoHead (text ++ more)
head-over text over more k rest y = (let big : 64 < length k.fields = over more k rest y.reads in let few : length k.fields ≤ 64 = y.few in omega (arith, big, few))

-- ---- trailer lines

all-text-by : (b : ℕ) (text : List ℕ) (p : Bool) → is_text b ≡ p → cond p (1 + prefix_len is_text text) 0 ≡ length (b ∷ text) → (prefix_len is_text text ≡ length text → list_all is_text text ≡ true) → list_all is_text (b ∷ text) ≡ true
all-text-by b text true p e rest = (let k : prefix_len is_text text ≡ length text = omega (arith, e) in rw p (rest k))
all-text-by b text false p e rest = absurd (omega (arith, e))

pub all-text : (text : List ℕ) → prefix_len is_text text ≡ length text → list_all is_text text ≡ true
all-text [] e = refl
all-text (b ∷ text) e = all-text-by b text (is_text b) refl e (all-text text)

-- the first line, up to its line feed
abbrev IsFirst : List ℕ → ℕ → Type 0
IsFirst text n = (list_all is_text (take n text) ≡ true) × (text ≡ take n text ++ 10 ∷ drop (suc n) text)

feed : (b : ℕ) → is_text b ≡ false → b ≡ 10
feed b e = grind (arith, nat_tests, e)

first-by : (b : ℕ) (text : List ℕ) (p : Bool) → is_text b ≡ p → ((n : ℕ) → n ≡ prefix_len is_text text → n < length text → IsFirst text n) →
    (n : ℕ) → n ≡ cond p (1 + prefix_len is_text text) 0 → n < length (b ∷ text) → IsFirst (b ∷ text) n
first-by b text false p rest n e h = (let zero : n ≡ 0 = e in rw zero (refl, ap (λ (k : ℕ). k ∷ text) (feed b p)))
first-by b text true p rest n e h =
    let m : ℕ = prefix_len is_text text in
    let next : n ≡ suc m = omega (arith, e) in
    let r = rest m refl (omega (arith, next, h)) in
    subst (IsFirst (b ∷ text)) (sym next) (rw p r.0, ap (λ (t : List ℕ). b ∷ t) r.1)

first-line : (text : List ℕ) (n : ℕ) → n ≡ prefix_len is_text text → n < length text → IsFirst text n
first-line [] n e h = absurd (omega (arith, h))
first-line (b ∷ text) n e h = first-by b text (is_text b) refl (first-line text) n e h

pub line-here : (text : List ℕ) (n : ℕ) → n ≡ prefix_len is_text text → n < length text → (list_all is_text (take n text) ≡ true) × (text ≡ take n text ++ 10 ∷ drop (n + 1) text)
line-here text n e h = (let r = first-line text n e h in (r.0, rw add-one r.1))

pub other-trailers : (room : ℕ) (t after text : List ℕ) → list_all is_text t ≡ true → is_blank t ≡ false → text ≡ t ++ 10 ∷ after → room ≤ length t → (more : List ℕ) → HasTrailers room (text ++ more) → ⊥
other-trailers room t after text one some here full more w =
    let r = trailers-behind room t (after ++ more) (text ++ more) one some (ap (λ (x : List ℕ). x ++ more) here ∙ append_assoc t (10 ∷ after) more) w in
    let small : length t < room = r.0 in
    omega (arith, small, full)
