-- The bytes give one reply.
use Rattle.std.proofs.Common.{◌≡◌, ◌≢◌, ℕ, ◌+◌, ◌<◌, ◌≤◌, List, [], ◌∷◌, ◌++◌, length, drop, refl, sym, ap, ap₂, ◌∙◌, subst, arith, ⊎_elim, length-append, append-nil}
use Rattle.std.proofs.lemmas.List.{nil_from_length}
use Rattle.httparse.specs.Grammar.{ResponseHead, status_code, ChunkLine, chunk_size}
use Rattle.http_fetch.specs.declared.fields.Framing.{Framing}
use Rattle.http_fetch.specs.declared.fields.Framing.TheVariants as framings
use Rattle.outside.specs.declared.replies.Reply.{Reply}
use Rattle.outside.specs.declared.replies.Reply.TheVariants.{Body, Quoted, Lost, Garbled, Unsent, Oversize}
use Rattle.http_fetch.specs.Replies.{HeadAt, Interims, Reaches, IsBody, Exceeds, framing_of, WholeAfter, OverAfter, IsWhole, IsOver, Came}
use Rattle.http_fetch.specs.Chunks.{LineAt, ChunkAt, Parts, joined}
use Rattle.http_fetch.proofs.FrontLemmas.{fronts, head-unique, line-unique}

-- two fronts of one length are one
same-front : (a b x y : List ℕ) → a ++ x ≡ b ++ y → length a ≡ length b → (a ≡ b) × (x ≡ y)
same-front a b x y e n =
    let f = fronts b a x y e (omega (arith, n)) in
    let rest : length a ≡ length b + length (drop (length b) a) = ap length f.0 ∙ length-append b (drop (length b) a) in
    let none : drop (length b) a ≡ [] = nil_from_length (drop (length b) a) (omega (arith, n, rest)) in
    (f.0 ∙ ap (λ (t : List ℕ). b ++ t) none ∙ append-nil b, sym (f.1 ∙ ap (λ (t : List ℕ). t ++ x) none))

-- ---- heads

interims-unique : {h k : ResponseHead} {r q mid end : List ℕ} (hs ks : List ResponseHead) (text : List ℕ) → Interims hs text mid → HeadAt mid h r → 200 ≤ status_code h → Interims ks text end → HeadAt end k q → 200 ≤ status_code k → (h ≡ k) × (r ≡ q)
interims-unique {h} {k} {r} {q} {mid} {end} [] [] text a at f b there g = head-unique (subst (λ t. HeadAt t h r) (sym a) at) (subst (λ t. HeadAt t k q) (sym b) there)
interims-unique {h} {k} {r} {q} {mid} {end} [] (i ∷ ks) text a at f b there g =
    let same = head-unique (subst (λ t. HeadAt t h r) (sym a) at) b.1 in
    let code : status_code h ≡ status_code i = ap status_code same.0 in
    let small : status_code i < 200 = b.2.1 in
    absurd (omega (arith, code, small, f))
interims-unique {h} {k} {r} {q} {mid} {end} (i ∷ hs) [] text a at f b there g =
    let same = head-unique (subst (λ t. HeadAt t k q) (sym b) there) a.1 in
    let code : status_code k ≡ status_code i = ap status_code same.0 in
    let small : status_code i < 200 = a.2.1 in
    absurd (omega (arith, code, small, g))
interims-unique {h} {k} {r} {q} {mid} {end} (i ∷ hs) (j ∷ ks) text a at f b there g =
    let same = head-unique a.1 b.1 in
    interims-unique hs ks b.0 (subst (λ t. Interims hs t mid) same.1 a.3) at f b.3 there g

pub reaches-unique : {n : ℕ} {text r q : List ℕ} {h k : ResponseHead} → Reaches n text h r → Reaches n text k q → (h ≡ k) × (r ≡ q)
reaches-unique {n} {text} x y = interims-unique x.interims y.interims text x.passed x.head x.final y.passed y.head y.final

-- ---- chunks

chunk-unique : {text a b r q : List ℕ} → ChunkAt text a r → ChunkAt text b q → (a ≡ b) × (r ≡ q)
chunk-unique {text} {a} {b} {r} {q} x y =
    let same = line-unique x.reads y.reads in
    let n : length a ≡ length b = sym x.size ∙ ap chunk_size same.0 ∙ y.size in
    let f = same-front a b (13 ∷ 10 ∷ r) (13 ∷ 10 ∷ q) same.1 n in
    (f.0, (let e : 13 ∷ 10 ∷ r ≡ 13 ∷ 10 ∷ q = f.1 in cc))

no-chunk-at-end : {text bytes r rest : List ℕ} {l : ChunkLine} → ChunkAt text bytes r → LineAt text l rest → chunk_size l ≡ 0 → ⊥
no-chunk-at-end {bytes = bytes} {l = l} x at empty =
    let same = line-unique x.reads at in
    let size : chunk_size x.line ≡ chunk_size l = ap chunk_size same.0 in
    let n : chunk_size x.line ≡ length bytes = x.size in
    let some : 0 < length bytes = x.some in
    omega (arith, size, n, some, empty)

parts-unique : {mid end after rest : List ℕ} {l k : ChunkLine} (ps qs : List (List ℕ)) (text : List ℕ) → Parts ps text mid → LineAt mid l after → chunk_size l ≡ 0 →
    Parts qs text end → LineAt end k rest → chunk_size k ≡ 0 → joined ps ≡ joined qs
parts-unique [] [] text a at e b there g = refl
parts-unique {mid} {end} {after} {rest} {l} {k} [] (q ∷ qs) text a at e b there g = absurd (no-chunk-at-end b.1 (subst (λ t. LineAt t l after) (sym a) at) e)
parts-unique {mid} {end} {after} {rest} {l} {k} (p ∷ ps) [] text a at e b there g = absurd (no-chunk-at-end a.1 (subst (λ t. LineAt t k rest) (sym b) there) g)
parts-unique {mid} {end} {after} {rest} {l} {k} (p ∷ ps) (q ∷ qs) text a at e b there g =
    let same = chunk-unique a.1 b.1 in
    let later : joined ps ≡ joined qs = parts-unique ps qs b.0 (subst (λ t. Parts ps t mid) same.1 a.2) at e b.2 there g in
    ap₂ (λ (x y : List ℕ). x ++ y) same.0 later

-- the sizes that are met are those of the whole
parts-within : {mid end after rest : List ℕ} {l k : ChunkLine} (ps qs : List (List ℕ)) (text : List ℕ) → Parts ps text mid → LineAt mid l after → chunk_size l ≡ 0 →
    Parts qs text end → LineAt end k rest → length (joined qs) + chunk_size k ≤ length (joined ps)
parts-within {mid} {end} {after} {rest} {l} {k} [] [] text a at e b there =
    let same = line-unique (subst (λ t. LineAt t l after) (sym a) at) (subst (λ t. LineAt t k rest) (sym b) there) in
    let size : chunk_size l ≡ chunk_size k = ap chunk_size same.0 in
    omega (arith, size, e)
parts-within {mid} {end} {after} {rest} {l} {k} [] (q ∷ qs) text a at e b there = absurd (no-chunk-at-end b.1 (subst (λ t. LineAt t l after) (sym a) at) e)
parts-within {mid} {end} {after} {rest} {l} {k} (p ∷ ps) [] text a at e b there =
    let same = line-unique a.1.reads (subst (λ t. LineAt t k rest) (sym b) there) in
    let size : chunk_size k ≡ length p = ap chunk_size (sym same.0) ∙ a.1.size in
    let n : length (p ++ joined ps) ≡ length p + length (joined ps) = length-append p (joined ps) in
    omega (arith, size, n)
parts-within {mid} {end} {after} {rest} {l} {k} (p ∷ ps) (q ∷ qs) text a at e b there =
    let same = chunk-unique a.1 b.1 in
    let one : length p ≡ length q = ap length same.0 in
    let later : length (joined qs) + chunk_size k ≤ length (joined ps) = parts-within ps qs b.0 (subst (λ t. Parts ps t mid) same.1 a.2) at e b.2 there in
    omega (arith, one, later, length-append p (joined ps), length-append q (joined qs))

-- ---- replies

body-unique : (f : Framing) (text c d : List ℕ) → IsBody f text c → IsBody f text d → c ≡ d
body-unique framings.Refused text c d x y = absurd x
body-unique (framings.Length n) text c d x y = (same-front c d x.1.0 y.1.0 (sym x.1.1 ∙ y.1.1) (x.0 ∙ sym y.0)).0
body-unique framings.Chunks text c d x y = x.all ∙ parts-unique x.parts y.parts text x.reads x.last x.empty y.reads y.last y.empty ∙ sym y.all
body-unique framings.ToEnd text c d x y = sym x ∙ y

body-within : (f : Framing) (text c : List ℕ) (limit : ℕ) → IsBody f text c → length c ≤ limit → Exceeds f text limit → ⊥
body-within framings.Refused text c limit x small w = x
body-within (framings.Length n) text c limit x small w = (let len : length c ≡ n = x.0 in let big : limit < n = w in omega (arith, len, big, small))
body-within framings.Chunks text c limit x small w =
    let k : length (joined w.parts) + chunk_size w.line ≤ length (joined x.parts) = parts-within x.parts w.parts text x.reads x.last x.empty w.reads w.next in
    let all : length c ≡ length (joined x.parts) = ap length x.all in
    let big : limit < length (joined w.parts) + chunk_size w.line = w.more in
    omega (arith, k, all, big, small)
body-within framings.ToEnd text c limit x small w = (let n : length text ≡ length c = ap length x in let big : limit < length text = w in omega (arith, n, big, small))

after-unique : (code : ℕ) (f : Framing) (text : List ℕ) (limit s t : ℕ) (c d : List ℕ) → WholeAfter code f text limit (s, c) → WholeAfter code f text limit (t, d) → (s ≡ t) × (c ≡ d)
after-unique code f text limit s t c d x y = (
  x.0 ∙ sym y.0,
  ⊎_elim
      (λ (a : (code ≢ 200) × (c ≡ [])). ⊎_elim
      (λ (b : (code ≢ 200) × (d ≡ [])). a.1 ∙ sym b.1)
      (λ (b : (code ≡ 200) × IsBody f text d × (length d ≤ limit)). absurd (a.0 b.0)) y.1)
      (λ (a : (code ≡ 200) × IsBody f text c × (length c ≤ limit)). ⊎_elim
      (λ (b : (code ≢ 200) × (d ≡ [])). absurd (b.0 a.0))
      (λ (b : (code ≡ 200) × IsBody f text d × (length d ≤ limit)). body-unique f text c d a.1 b.1) y.1) x.1,
)

after-within : (code : ℕ) (f : Framing) (text : List ℕ) (limit s : ℕ) (c : List ℕ) → WholeAfter code f text limit (s, c) → OverAfter code f text limit → ⊥
after-within code f text limit s c x w = ⊎_elim
    (λ (a : (code ≢ 200) × (c ≡ [])). a.0 w.0)
    (λ (a : (code ≡ 200) × IsBody f text c × (length c ≤ limit)). body-within f text c limit a.1 a.2 w.1) x.1

whole-unique : {n limit s t : ℕ} {b c d : List ℕ} → IsWhole n b limit s c → IsWhole n b limit t d → (s ≡ t) × (c ≡ d)
whole-unique {n} {limit} {s} {t} {b} {c} {d} x y =
    let same = reaches-unique x.reaches y.reaches in
    after-unique (status_code y.head) (framing_of y.head) y.rest limit s t c d
    (subst (λ (h : ResponseHead). WholeAfter (status_code h) (framing_of h) y.rest limit (s, c)) same.0 (subst (λ r. WholeAfter (status_code x.head) (framing_of x.head) r limit (s, c)) same.1 x.whole)) y.whole

whole-within : {n limit s : ℕ} {b c : List ℕ} → IsWhole n b limit s c → IsOver n b limit → ⊥
whole-within {n} {limit} {s} {b} {c} x w =
    let same = reaches-unique x.reaches w.reaches in
    after-within (status_code w.head) (framing_of w.head) w.rest limit s c
    (subst (λ (h : ResponseHead). WholeAfter (status_code h) (framing_of h) w.rest limit (s, c)) same.0 (subst (λ r. WholeAfter (status_code x.head) (framing_of x.head) r limit (s, c)) same.1 x.whole)) w.over

pub came-one : (limit : ℕ) (b : List ℕ) (r s : Reply) → Came b limit r → Came b limit s → r ≡ s
came-one limit b (Body s c) (Body t d) x y = (let w = whole-unique x y in ap₂ Body w.0 w.1)
came-one limit b (Body s c) Garbled x y = absurd (y.0 s c x)
came-one limit b (Body s c) Oversize x y = absurd (whole-within x y)
came-one limit b Garbled (Body t d) x y = absurd (x.0 t d y)
came-one limit b Garbled Garbled x y = refl
came-one limit b Garbled Oversize x y = absurd (x.1 y)
came-one limit b Oversize (Body t d) x y = absurd (whole-within y x)
came-one limit b Oversize Garbled x y = absurd (y.1 x)
came-one limit b Oversize Oversize x y = refl
came-one limit b (Body s c) (Quoted t d) x y = absurd y
came-one limit b (Body s c) Lost x y = absurd y
came-one limit b (Body s c) Unsent x y = absurd y
came-one limit b Garbled (Quoted t d) x y = absurd y
came-one limit b Garbled Lost x y = absurd y
came-one limit b Garbled Unsent x y = absurd y
came-one limit b Oversize (Quoted t d) x y = absurd y
came-one limit b Oversize Lost x y = absurd y
came-one limit b Oversize Unsent x y = absurd y
came-one limit b (Quoted t c) s x y = absurd x
came-one limit b Lost s x y = absurd x
came-one limit b Unsent s x y = absurd x
