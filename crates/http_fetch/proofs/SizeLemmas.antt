-- How long a whole reply is, and what of it lies in the bytes so far.
use Rattle.std.proofs.Common.{◌≡◌, ◌≢◌, ℕ, ◌+◌, ◌-◌, ◌*◌, ◌^◌, ◌<◌, ◌≤◌, Bool, true, false, nat_lt, List, [], ◌∷◌, ◌++◌, length, drop, refl, sym, ap, ◌∙◌, subst, arith, inl, inr, ⊎_elim, length-append, append_assoc}
use Rattle.std.proofs.lemmas.Bool.Decides.{nat_tests}
use Rattle.httparse.specs.Grammar.{ResponseHead, status_code, ChunkLine, chunk_size, print_response, print_chunk_line, print_end, LineEnd, crlf, lf}
use Rattle.http_fetch.specs.declared.fields.Framing.{Framing}
use Rattle.http_fetch.specs.declared.fields.Framing.TheVariants as framings
use Rattle.outside.specs.declared.replies.Reply.TheVariants.{Garbled}
use Rattle.http_fetch.specs.Replies.{HeadAt, Interims, Reaches, IsBody, Exceeds, framing_of, IsWhole, IsOver, IsEnded, Http}
use Rattle.http_fetch.specs.Chunks.{LineAt, ChunkAt, Parts, joined, Trailers, trailer_len, IsChunked, ExceedsInChunks}
use Rattle.http_fetch.specs.Decoders.{MustEnd}
use Rattle.http_fetch.proofs.FrontLemmas.{fronts}

-- what a text and a front of it leave, where the front ends before what was added
left-of : (b more front rest : List ℕ) → b ++ more ≡ front ++ rest → length more ≤ length rest → (r : List ℕ) × (rest ≡ r ++ more) × (b ≡ front ++ r)
left-of b more front rest e small =
    let n : length b + length more ≡ length front + length rest = sym (length-append b more) ∙ ap length e ∙ length-append front rest in
    let f = fronts front b more rest e (omega (arith, n, small)) in
    (drop (length front) b, f.1, f.0)

-- ---- heads

head-len : {text : List ℕ} {h : ResponseHead} {rest : List ℕ} → HeadAt text h rest → (length text ≤ length rest + 65536) × (length rest ≤ length text)
head-len {text} {h} {rest} w =
    let n : length text ≡ length (print_response h) + length rest = ap length w.reads.1 ∙ length-append (print_response h) rest in
    let short : length (print_response h) ≤ 65536 = w.short in
    (omega (arith, n, short), omega (arith, n))

head-left : {h : ResponseHead} (b more rest : List ℕ) → HeadAt (b ++ more) h rest → length more ≤ length rest → (r : List ℕ) × (rest ≡ r ++ more) × HeadAt b h r
head-left {h} b more rest w small =
    let l = left-of b more (print_response h) rest w.reads.1 small in
    (l.0, l.1, record { reads = (w.reads.0, l.2); few = w.few; short = w.short })

interims-len : (hs : List ResponseHead) (text mid : List ℕ) → Interims hs text mid → (length text ≤ length mid + 65536 * length hs) × (length mid ≤ length text)
interims-len [] text mid w = (let n : length text ≡ length mid = ap length w in (omega (arith, n), omega (arith, n)))
interims-len (h ∷ hs) text mid w =
    let a = head-len w.1 in
    let c = interims-len hs w.0 mid w.3 in
    let a0 : length text ≤ length w.0 + 65536 = a.0 in
    let a1 : length w.0 ≤ length text = a.1 in
    let c0 : length w.0 ≤ length mid + 65536 * length hs = c.0 in
    let c1 : length mid ≤ length w.0 = c.1 in
    (omega (arith, a0, c0), omega (arith, a1, c1))

interims-left : (hs : List ResponseHead) (b more mid : List ℕ) → Interims hs (b ++ more) mid → length more ≤ length mid → (r : List ℕ) × (mid ≡ r ++ more) × Interims hs b r
interims-left [] b more mid w small = (b, sym w, refl)
interims-left (h ∷ hs) b more mid w small =
    let c1 : length mid ≤ length w.0 = (interims-len hs w.0 mid w.3).1 in
    let a = head-left b more w.0 w.1 (omega (arith, c1, small)) in
    let c = interims-left hs a.0 more mid (subst (λ t. Interims hs t mid) a.1 w.3) small in
    (c.0, c.1, (a.0, a.2, w.2, c.2))

reaches-len : {text rest : List ℕ} {h : ResponseHead} → Reaches 8 text h rest → length text ≤ length rest + 589824
reaches-len {text} {rest} {h} w =
    let a : length text ≤ length w.mid + 65536 * length w.interims = (interims-len w.interims text w.mid w.passed).0 in
    let c : length w.mid ≤ length rest + 65536 = (head-len w.head).0 in
    let few : length w.interims ≤ 8 = w.few in
    omega (arith, a, c, few)

reaches-left : {h : ResponseHead} {n : ℕ} (b more rest : List ℕ) → Reaches n (b ++ more) h rest → length more ≤ length rest → (r : List ℕ) × (rest ≡ r ++ more) × Reaches n b h r
reaches-left {h} {n} b more rest w small =
    let c1 : length rest ≤ length w.mid = (head-len w.head).1 in
    let a = interims-left w.interims b more w.mid w.passed (omega (arith, c1, small)) in
    let c = head-left a.0 more rest (subst (λ t. HeadAt t h rest) a.1 w.head) small in
    (c.0, c.1, record { interims = w.interims; few = w.few; mid = a.0; passed = a.2; head = c.2; final = w.final })

-- ---- chunks

line-len : {text : List ℕ} {l : ChunkLine} {rest : List ℕ} → LineAt text l rest → (length text ≤ length rest + 256) × (length rest ≤ length text)
line-len {text} {l} {rest} w =
    let n : length text ≡ length (print_chunk_line l) + length rest = ap length w.reads.1 ∙ length-append (print_chunk_line l) rest in
    let short : length (print_chunk_line l) ≤ 256 = w.short in
    (omega (arith, n, short), omega (arith, n))

line-left : {l : ChunkLine} (b more rest : List ℕ) → LineAt (b ++ more) l rest → length more ≤ length rest → (r : List ℕ) × (rest ≡ r ++ more) × LineAt b l r
line-left {l} b more rest w small =
    let k = left-of b more (print_chunk_line l) rest w.reads.1 small in
    (k.0, k.1, record { reads = (w.reads.0, k.2); short = w.short })

chunk-len : {text bytes rest : List ℕ} → ChunkAt text bytes rest → (length text ≤ length rest + 259 * length bytes) × (length rest ≤ length text)
chunk-len {text} {bytes} {rest} w =
    let l = line-len w.reads in
    let n : length (bytes ++ 13 ∷ 10 ∷ rest) ≡ length bytes + length (13 ∷ 10 ∷ rest) = length-append bytes (13 ∷ 10 ∷ rest) in
    let l0 : length text ≤ length (bytes ++ 13 ∷ 10 ∷ rest) + 256 = l.0 in
    let l1 : length (bytes ++ 13 ∷ 10 ∷ rest) ≤ length text = l.1 in
    let some : 0 < length bytes = w.some in
    (omega (arith, n, l0, some), omega (arith, n, l1))

chunk-left : (b more bytes rest : List ℕ) → ChunkAt (b ++ more) bytes rest → length more ≤ length rest → (r : List ℕ) × (rest ≡ r ++ more) × ChunkAt b bytes r
chunk-left b more bytes rest w small =
    let n : length (bytes ++ 13 ∷ 10 ∷ rest) ≡ length bytes + length (13 ∷ 10 ∷ rest) = length-append bytes (13 ∷ 10 ∷ rest) in
    let l = line-left b more (bytes ++ 13 ∷ 10 ∷ rest) w.reads (omega (arith, n, small)) in
    let e : l.0 ++ more ≡ (bytes ++ 13 ∷ 10 ∷ []) ++ rest = sym l.1 ∙ sym (append_assoc bytes (13 ∷ 10 ∷ []) rest) in
    let k = left-of l.0 more (bytes ++ 13 ∷ 10 ∷ []) rest e small in
    (k.0, k.1, record { line = w.line; reads = subst (LineAt b w.line) (k.2 ∙ append_assoc bytes (13 ∷ 10 ∷ []) k.0) l.2; size = w.size; some = w.some })

parts-len : (ps : List (List ℕ)) (text mid : List ℕ) → Parts ps text mid → (length text ≤ length mid + 259 * length (joined ps)) × (length mid ≤ length text)
parts-len [] text mid w = (let n : length text ≡ length mid = ap length w in (omega (arith, n), omega (arith, n)))
parts-len (p ∷ ps) text mid w =
    let a = chunk-len w.1 in
    let c = parts-len ps w.0 mid w.2 in
    let a0 : length text ≤ length w.0 + 259 * length p = a.0 in
    let a1 : length w.0 ≤ length text = a.1 in
    let c0 : length w.0 ≤ length mid + 259 * length (joined ps) = c.0 in
    let c1 : length mid ≤ length w.0 = c.1 in
    let n : length (p ++ joined ps) ≡ length p + length (joined ps) = length-append p (joined ps) in
    (omega (arith, a0, c0, n), omega (arith, a1, c1))

parts-left : (ps : List (List ℕ)) (b more mid : List ℕ) → Parts ps (b ++ more) mid → length more ≤ length mid → (r : List ℕ) × (mid ≡ r ++ more) × Parts ps b r
parts-left [] b more mid w small = (b, sym w, refl)
parts-left (p ∷ ps) b more mid w small =
    let c1 : length mid ≤ length w.0 = (parts-len ps w.0 mid w.2).1 in
    let a = chunk-left b more p w.0 w.1 (omega (arith, c1, small)) in
    let c = parts-left ps a.0 more mid (subst (λ t. Parts ps t mid) a.1 w.2) small in
    (c.0, c.1, (a.0, a.2, c.2))

-- ---- trailers

end-len : (e : LineEnd) → length (print_end e) ≤ 2
end-len crlf = omega arith
end-len lf = omega arith

trailers-len : (ts : List (List ℕ)) (text rest : List ℕ) → Trailers ts text rest → (length text ≤ length rest + trailer_len ts + 2) × (length rest ≤ length text)
trailers-len [] text rest w =
    let n : length text ≡ length (print_end w.0) + length rest = ap length w.1 ∙ length-append (print_end w.0) rest in
    let short : length (print_end w.0) ≤ 2 = end-len w.0 in
    (omega (arith, n, short), omega (arith, n))
trailers-len (t ∷ ts) text rest w =
    let n : length text ≡ length t + length (10 ∷ w.0) = ap length w.2 ∙ length-append t (10 ∷ w.0) in
    let c = trailers-len ts w.0 rest w.3 in
    let c0 : length w.0 ≤ length rest + trailer_len ts + 2 = c.0 in
    let c1 : length rest ≤ length w.0 = c.1 in
    (omega (arith, n, c0), omega (arith, n, c1))

trailers-left : (ts : List (List ℕ)) (b more rest : List ℕ) → Trailers ts (b ++ more) rest → length more ≤ length rest → (r : List ℕ) × (rest ≡ r ++ more) × Trailers ts b r
trailers-left [] b more rest w small = (let k = left-of b more (print_end w.0) rest w.1 small in (k.0, k.1, (w.0, k.2)))
trailers-left (t ∷ ts) b more rest w small =
    let c1 : length rest ≤ length w.0 = (trailers-len ts w.0 rest w.3).1 in
    let e : b ++ more ≡ (t ++ 10 ∷ []) ++ w.0 = w.2 ∙ sym (append_assoc t (10 ∷ []) w.0) in
    let k = left-of b more (t ++ 10 ∷ []) w.0 e (omega (arith, c1, small)) in
    let c = trailers-left ts k.0 more rest (subst (λ x. Trailers ts x rest) k.1 w.3) small in
    (c.0, c.1, (k.0, w.1, k.2 ∙ append_assoc t (10 ∷ []) k.0, c.2))

-- ---- bodies

chunked-left : (b more bytes : List ℕ) → IsChunked (b ++ more) bytes → 259 * length bytes + 65794 ≤ length b → IsChunked b bytes
chunked-left b more bytes w long =
    let parts = parts-len w.parts (b ++ more) w.mid w.reads in
    let p0 : length (b ++ more) ≤ length w.mid + 259 * length (joined w.parts) = parts.0 in
    let l = line-len w.last in
    let l0 : length w.mid ≤ length w.after + 256 = l.0 in
    let l1 : length w.after ≤ length w.mid = l.1 in
    let t = trailers-len w.trailers.lines w.after w.trailers.rest w.trailers.reads in
    let t0 : length w.after ≤ length w.trailers.rest + trailer_len w.trailers.lines + 2 = t.0 in
    let t1 : length w.trailers.rest ≤ length w.after = t.1 in
    let few : trailer_len w.trailers.lines ≤ 65536 = w.trailers.short in
    let all : length bytes ≡ length (joined w.parts) = ap length w.all in
    let n : length (b ++ more) ≡ length b + length more = length-append b more in
    let last : length more ≤ length w.trailers.rest = omega (arith, p0, l0, t0, few, all, n, long) in
    let a = parts-left w.parts b more w.mid w.reads (omega (arith, last, t1, l1)) in
    let c = line-left a.0 more w.after (subst (λ x. LineAt x w.line w.after) a.1 w.last) (omega (arith, last, t1)) in
    let d = trailers-left w.trailers.lines c.0 more w.trailers.rest (subst (λ x. Trailers w.trailers.lines x w.trailers.rest) c.1 w.trailers.reads) last in
    record {
      parts = w.parts;
      mid = a.0;
      reads = a.2;
      line = w.line;
      after = c.0;
      last = c.2;
      empty = w.empty;
      trailers = record { lines = w.trailers.lines; rest = d.0; reads = d.2; short = w.trailers.short };
      all = w.all;
    }

-- the first line at which the sizes are too many
abbrev Early : List ℕ → ℕ → Type 0
Early text room = (e : ExceedsInChunks text room) × (length (joined e.parts) ≤ room)

early-here : {text after : List ℕ} {k : ChunkLine} (room : ℕ) → LineAt text k after → room < chunk_size k → Early text room
early-here {text} {after} {k} room at big = (record { parts = []; mid = text; reads = refl; line = k; after = after; next = at; more = omega (arith, big) }, omega arith)

early-next : {text after : List ℕ} (p : List ℕ) (room : ℕ) → ChunkAt text p after → length p ≤ room → Early after (room - length p) → Early text room
early-next {text} {after} p room at fits e =
    let n : length (p ++ joined e.0.parts) ≡ length p + length (joined e.0.parts) = length-append p (joined e.0.parts) in
    let more : room - length p < length (joined e.0.parts) + chunk_size e.0.line = e.0.more in
    let few : length (joined e.0.parts) ≤ room - length p = e.1 in (
      record { parts = p ∷ e.0.parts; mid = e.0.mid; reads = (after, at, e.0.reads); line = e.0.line; after = e.0.after; next = e.0.next; more = omega (arith, n, more, fits) },
      omega (arith, n, few, fits),
    )

early-pick : {text after : List ℕ} (p : List ℕ) (room : ℕ) (b : Bool) → nat_lt room (length p) ≡ b → ChunkAt text p after → (length p ≤ room → Early after (room - length p)) → Early text room
early-pick p room true e at later = (let big : room < length p = grind (arith, nat_tests, e) in let size : chunk_size at.line ≡ length p = at.size in early-here room at.reads (omega (arith, size, big)))
early-pick p room false e at later = (let fits : length p ≤ room = grind (arith, nat_tests, e) in early-next p room at fits (later fits))

early-by : (ps : List (List ℕ)) (text mid after : List ℕ) (l : ChunkLine) (room : ℕ) → Parts ps text mid → LineAt mid l after → room < length (joined ps) + chunk_size l → Early text room
early-by [] text mid after l room reads next more = early-here room (subst (λ t. LineAt t l after) (sym reads) next) (omega (arith, more))
early-by (p ∷ ps) text mid after l room reads next more =
    early-pick p room (nat_lt room (length p)) refl reads.1
    (λ fits. early-by ps reads.0 mid after l (room - length p) reads.2 next (omega (arith, length-append p (joined ps), more, fits)))

exceeds-left : (b more : List ℕ) (room : ℕ) → ExceedsInChunks (b ++ more) room → 259 * room + 256 ≤ length b → ExceedsInChunks b room
exceeds-left b more room w long =
    let e = early-by w.parts (b ++ more) w.mid w.after w.line room w.reads w.next w.more in
    let few : length (joined e.0.parts) ≤ room = e.1 in
    let p0 : length (b ++ more) ≤ length e.0.mid + 259 * length (joined e.0.parts) = (parts-len e.0.parts (b ++ more) e.0.mid e.0.reads).0 in
    let l = line-len e.0.next in
    let l0 : length e.0.mid ≤ length e.0.after + 256 = l.0 in
    let l1 : length e.0.after ≤ length e.0.mid = l.1 in
    let n : length (b ++ more) ≡ length b + length more = length-append b more in
    let last : length more ≤ length e.0.after = omega (arith, p0, l0, few, n, long) in
    let a = parts-left e.0.parts b more e.0.mid e.0.reads (omega (arith, last, l1)) in
    let c = line-left a.0 more e.0.after (subst (λ x. LineAt x e.0.line e.0.after) a.1 e.0.next) last in
    record { parts = e.0.parts; mid = a.0; reads = a.2; line = e.0.line; after = c.0; next = c.2; more = e.0.more }

-- ---- replies

body-left : (f : Framing) (r more c : List ℕ) (limit : ℕ) → IsBody f (r ++ more) c → length c ≤ limit → 259 * limit + 65794 ≤ length r → IsBody f r c × (f ≢ framings.ToEnd)
body-left framings.Refused r more c limit w small long = absurd w
body-left (framings.Length n) r more c limit w small long =
    let sum : length r + length more ≡ length c + length w.1.0 = sym (length-append r more) ∙ ap length w.1.1 ∙ length-append c w.1.0 in
    let k = left-of r more c w.1.0 w.1.1 (omega (arith, sum, small, long)) in
    ((w.0, (k.0, k.2)), λ e. cc)
body-left framings.Chunks r more c limit w small long = (chunked-left r more c w (omega (arith, small, long)), λ e. cc)
body-left framings.ToEnd r more c limit w small long = (let n : length r + length more ≡ length c = sym (length-append r more) ∙ ap length w in absurd (omega (arith, n, small, long)))

long-left : (f : Framing) (r more : List ℕ) (limit : ℕ) → Exceeds f (r ++ more) limit → 259 * limit + 65794 ≤ length r → Exceeds f r limit
long-left framings.Refused r more limit w long = w
long-left (framings.Length n) r more limit w long = w
long-left framings.Chunks r more limit w long = exceeds-left r more limit w (omega (arith, long))
long-left framings.ToEnd r more limit w long = omega (arith, long)

module _ (limit : ℕ) (b more : List ℕ) (small : limit ≤ 2 ^ 26) (long : 2 ^ 35 ≤ length b) where
  whole-left : (s : ℕ) (c : List ℕ) → IsWhole 8 (b ++ more) limit s c → IsEnded b limit s c
  whole-left s c w =
      let len : length (b ++ more) ≤ length w.rest + 589824 = reaches-len w.reaches in
      let n : length (b ++ more) ≡ length b + length more = length-append b more in
      let a = reaches-left b more w.rest w.reaches (omega (arith, len, n, long)) in
      let m : length w.rest ≡ length a.0 + length more = ap length a.1 ∙ length-append a.0 more in
      let far : 259 * limit + 65794 ≤ length a.0 = omega (arith, len, n, m, long, small) in
      record {
        head = w.head;
        rest = a.0;
        reaches = a.2;
        ends = ⊎_elim
            (λ (o : (status_code w.head ≢ 200) × (c ≡ [])). ((w.whole.0, inl o), inl o.0))
            (λ (o : (status_code w.head ≡ 200) × IsBody (framing_of w.head) w.rest c × (length c ≤ limit)). (
            let k = body-left (framing_of w.head) a.0 more c limit (subst (λ t. IsBody (framing_of w.head) t c) a.1 o.1) o.2 far in
            ((w.whole.0, inr (o.0, k.0, o.2)), inr k.1)))
            w.whole.1;
      }

  over-left : IsOver 8 (b ++ more) limit → IsOver 8 b limit
  over-left w =
      let len : length (b ++ more) ≤ length w.rest + 589824 = reaches-len w.reaches in
      let n : length (b ++ more) ≡ length b + length more = length-append b more in
      let a = reaches-left b more w.rest w.reaches (omega (arith, len, n, long)) in
      let m : length w.rest ≡ length a.0 + length more = ap length a.1 ∙ length-append a.0 more in
      let far : 259 * limit + 65794 ≤ length a.0 = omega (arith, len, n, m, long, small) in
      record { head = w.head; rest = a.0; reaches = a.2; over = (w.over.0, long-left (framing_of w.head) a.0 more limit (subst (λ t. Exceeds (framing_of w.head) t limit) a.1 w.over.1) far) }

  pub no-later : (MustEnd b limit → ⊥) → Http (b ++ more) limit Garbled
  no-later going = (Garbled, (λ s c w. going (inl (s, c, whole-left s c w)), λ w. going (inr (over-left w))), refl)
