-- Steps over the bytes of a body.
use Rattle.std.proofs.Common.{◌≡◌, ℕ, ◌+◌, ◌-◌, ◌<◌, ◌≤◌, List, [], ◌∷◌, ◌++◌, length, take, drop, refl, sym, ap, ◌∙◌, subst, arith, length-append, append-nil, append_assoc, take-append-drop}
use Rattle.std.proofs.lemmas.List.{nil_from_length, length-take-le}
use Rattle.http_fetch.specs.declared.stages.Stage.{Stage}
use Rattle.http_fetch.specs.declared.stages.Stage.TheVariants.{Length, Data, Open, Whole, Over}
use Rattle.http_fetch.specs.Chunks.{ExceedsInChunks}
use Rattle.http_fetch.specs.Replies.{HasFront}
use Rattle.http_fetch.specs.Stages.{Same, Leads, Fits, decoding}
use Rattle.http_fetch.specs.Expected.{Grown, More, MoreData, ExceedsData}
use Rattle.http_fetch.proofs.FrontLemmas.{fronts}

-- what comes behind u, of what has u in front
module _ (one other : Stage) (limit : ℕ) (got u x : List ℕ) where
  pub grown-part : ((bytes : List ℕ) → More one (u ++ x) bytes → (rest : List ℕ) × (bytes ≡ u ++ rest) × More other x rest) → (s : ℕ) (c : List ℕ) →
      Grown one limit got (u ++ x) (s, c) → Grown other limit (got ++ u) x (s, c)
  grown-part f s c w =
      let p = f w.rest w.more in
      let sum : length w.rest ≡ length u + length p.0 = ap length p.1 ∙ length-append u p.0 in
      let all : length (got ++ u) ≡ length got + length u = length-append got u in
      let few : length w.rest ≤ limit - length got = w.within in
      record { good = w.good; rest = p.0; more = p.2; within = omega (arith, sum, all, few); all = w.all ∙ ap (λ (r : List ℕ). got ++ r) p.1 ∙ sym (append_assoc got u p.0) }

  pub grown-back : length got + length u ≤ limit → ((rest : List ℕ) → More other x rest → More one (u ++ x) (u ++ rest)) → (s : ℕ) (c : List ℕ) →
      Grown other limit (got ++ u) x (s, c) → Grown one limit got (u ++ x) (s, c)
  grown-back fits f s c w =
      let sum : length (u ++ w.rest) ≡ length u + length w.rest = length-append u w.rest in
      let all : length (got ++ u) ≡ length got + length u = length-append got u in
      let few : length w.rest ≤ limit - length (got ++ u) = w.within in
      record { good = w.good; rest = u ++ w.rest; more = f w.rest w.more; within = omega (arith, sum, all, few, fits); all = w.all ∙ append_assoc got u w.rest }

-- a step over u, where what follows is put behind it
abbrev Part : ℕ → Stage → List ℕ → List ℕ → List ℕ → Stage → Type 0
Part limit one got u x other = Same limit (decoding one got (u ++ x)) (decoding other (got ++ u) x)

parts-lead : (limit : ℕ) (one other : Stage) (got u v : List ℕ) → Fits other limit (got ++ u) → ((x : List ℕ) → Part limit one got u x other) → Leads limit (decoding one got (u ++ v)) (decoding other (got ++ u) v)
parts-lead limit one other got u v fits part = record {
  fits = fits;
  same = λ more. subst (λ (t : List ℕ). Same limit (decoding one got t) (decoding other (got ++ u) (v ++ more))) (sym (append_assoc u v more)) (part (v ++ more));
}

-- ---- a body of a length

front-part : (left : ℕ) (u x bytes : List ℕ) → length u ≤ left → length bytes ≡ left → HasFront (u ++ x) bytes → (rest : List ℕ) × (bytes ≡ u ++ rest) × ((length rest ≡ left - length u) × HasFront x rest)
front-part left u x bytes small len w =
    let f = fronts u bytes w.0 x (sym w.1) (omega (arith, len, small)) in
    let rest : List ℕ = drop (length u) bytes in
    let sum : length bytes ≡ length u + length rest = ap length f.0 ∙ length-append u rest in
    (rest, f.0, (omega (arith, sum, len), (w.0, f.1)))

front-back : (left : ℕ) (u x rest : List ℕ) → length u ≤ left → length rest ≡ left - length u → HasFront x rest → (length (u ++ rest) ≡ left) × HasFront (u ++ x) (u ++ rest)
front-back left u x rest small len w =
    (omega (arith, length-append u rest, len, small), (w.0, ap (λ (r : List ℕ). u ++ r) w.1 ∙ sym (append_assoc u rest w.0)))

length-more : (limit left : ℕ) (got u x : List ℕ) → length u ≤ left → length got + left ≤ limit → Part limit (Length left) got u x (Length (left - length u))
length-more limit left got u x small fits = record {
  whole = grown-part (Length left) (Length (left - length u)) limit got u x (λ bytes w. front-part left u x bytes small w.0 w.1);
  whole_back = grown-back (Length left) (Length (left - length u)) limit got u x (omega (arith, small, fits)) (λ rest w. front-back left u x rest small w.0 w.1);
  over = λ w. absurd w;
  over_back = λ w. absurd w;
}

length-whole : (limit left : ℕ) (got u x : List ℕ) → length u ≡ left → length got + left ≤ limit → Part limit (Length left) got u x (Whole 200)
length-whole limit left got u x all fits = record {
  whole = λ s c w. (
      let p = front-part left u x w.rest (omega (arith, all)) w.more.0 w.more.1 in
      let len : length p.0 ≡ left - length u = p.2.0 in
      let none : p.0 ≡ [] = nil_from_length p.0 (omega (arith, len, all)) in
      (w.good, w.all ∙ ap (λ (r : List ℕ). got ++ r) (p.1 ∙ ap (λ (r : List ℕ). u ++ r) none ∙ append-nil u)));
  whole_back = λ s c w. record { good = w.0; rest = u; more = (all, (x, refl)); within = omega (arith, all, fits); all = w.1 };
  over = λ w. absurd w;
  over_back = λ w. absurd w;
}

-- the front of a text, and what is behind it
parted : (limit used : ℕ) (one other : Stage) (got text : List ℕ) → Leads limit (decoding one got (take used text ++ drop used text)) (decoding other (got ++ take used text) (drop used text)) →
    Leads limit (decoding one got text) (decoding other (got ++ take used text) (drop used text))
parted limit used one other got text l = subst (λ (t : List ℕ). Leads limit (decoding one got t) (decoding other (got ++ take used text) (drop used text))) (take-append-drop used text) l

pub length-whole-lead : (limit left used : ℕ) (got text : List ℕ) → used ≡ left → used ≤ length text → length got + left ≤ limit →
    Leads limit (decoding (Length left) got text) (decoding (Whole 200) (got ++ take used text) (drop used text))
length-whole-lead limit left used got text e within fits =
    let u : List ℕ = take used text in
    let all : length u ≡ left = length-take-le used text within ∙ e in
    parted limit used (Length left) (Whole 200) got text
    (parts-lead limit (Length left) (Whole 200) got u (drop used text) (omega (arith, length-append got u, all, fits)) (λ x. length-whole limit left got u x all fits))

pub length-more-lead : (limit left used : ℕ) (got text : List ℕ) → used < left → used ≤ length text → length got + left ≤ limit →
    Leads limit (decoding (Length left) got text) (decoding (Length (left - used)) (got ++ take used text) (drop used text))
length-more-lead limit left used got text small within fits =
    let u : List ℕ = take used text in
    let len : length u ≡ used = length-take-le used text within in
    parted limit used (Length left) (Length (left - used)) got text
    (parts-lead limit (Length left) (Length (left - used)) got u (drop used text) (omega (arith, small), omega (arith, length-append got u, len, small, fits))
    (λ x. subst (λ n. Part limit (Length left) got u x (Length (left - n))) len (length-more limit left got u x (omega (arith, len, small)) fits)))

-- ---- the bytes of a chunk

data-part : (left : ℕ) (u x bytes : List ℕ) → length u ≤ left → MoreData left (u ++ x) bytes → (rest : List ℕ) × (bytes ≡ u ++ rest) × MoreData (left - length u) x rest
data-part left u x bytes small w =
    let count : length w.front ≡ left = w.count in
    let f = fronts u w.front (13 ∷ 10 ∷ w.after) x (sym w.reads) (omega (arith, count, small)) in
    let front : List ℕ = drop (length u) w.front in
    let sum : length w.front ≡ length u + length front = ap length f.0 ∙ length-append u front in (
      front ++ w.more,
      w.all ∙ ap (λ (r : List ℕ). r ++ w.more) f.0 ∙ append_assoc u front w.more,
      record { front = front; after = w.after; more = w.more; count = omega (arith, sum, count); reads = f.1; chunks = w.chunks; all = refl },
    )

data-back : (left : ℕ) (u x rest : List ℕ) → length u ≤ left → MoreData (left - length u) x rest → MoreData left (u ++ x) (u ++ rest)
data-back left u x rest small w = record {
  front = u ++ w.front;
  after = w.after;
  more = w.more;
  count = (let count : length w.front ≡ left - length u = w.count in omega (arith, length-append u w.front, count, small));
  reads = ap (λ (r : List ℕ). u ++ r) w.reads ∙ sym (append_assoc u w.front (13 ∷ 10 ∷ w.after));
  chunks = w.chunks;
  all = ap (λ (r : List ℕ). u ++ r) w.all ∙ sym (append_assoc u w.front w.more);
}

module _ (limit left : ℕ) (got u x : List ℕ) (small : length u ≤ left) (fits : length got + left ≤ limit) where
  same-room : limit - length got - left ≡ limit - length (got ++ u) - (left - length u)
  same-room = omega (arith, length-append got u, small, fits)

  past-part : ExceedsData left (u ++ x) (limit - length got) → ExceedsData (left - length u) x (limit - length (got ++ u))
  past-part w =
      let count : length w.front ≡ left = w.count in
      let f = fronts u w.front (13 ∷ 10 ∷ w.after) x (sym w.reads) (omega (arith, count, small)) in
      let front : List ℕ = drop (length u) w.front in
      let sum : length w.front ≡ length u + length front = ap length f.0 ∙ length-append u front in
      record { front = front; after = w.after; count = omega (arith, sum, count); reads = f.1; chunks = subst (ExceedsInChunks w.after) same-room w.chunks }

  past-back : ExceedsData (left - length u) x (limit - length (got ++ u)) → ExceedsData left (u ++ x) (limit - length got)
  past-back w = record {
    front = u ++ w.front;
    after = w.after;
    count = (let count : length w.front ≡ left - length u = w.count in omega (arith, length-append u w.front, count, small));
    reads = ap (λ (r : List ℕ). u ++ r) w.reads ∙ sym (append_assoc u w.front (13 ∷ 10 ∷ w.after));
    chunks = subst (ExceedsInChunks w.after) (sym same-room) w.chunks;
  }

  data-more : Part limit (Data left) got u x (Data (left - length u))
  data-more = record {
    whole = grown-part (Data left) (Data (left - length u)) limit got u x (λ bytes w. data-part left u x bytes small w);
    whole_back = grown-back (Data left) (Data (left - length u)) limit got u x (omega (arith, small, fits)) (λ rest w. data-back left u x rest small w);
    over = past-part;
    over_back = past-back;
  }

pub data-lead : (limit left used : ℕ) (got text : List ℕ) → used ≤ left → used ≤ length text → length got + left ≤ limit →
    Leads limit (decoding (Data left) got text) (decoding (Data (left - used)) (got ++ take used text) (drop used text))
data-lead limit left used got text small within fits =
    let u : List ℕ = take used text in
    let len : length u ≡ used = length-take-le used text within in
    parted limit used (Data left) (Data (left - used)) got text
    (parts-lead limit (Data left) (Data (left - used)) got u (drop used text) (omega (arith, length-append got u, len, small, fits))
    (λ x. subst (λ n. Part limit (Data left) got u x (Data (left - n))) len (data-more limit left got u x (omega (arith, len, small)) fits)))

-- ---- a body to the end of the link

open-more : (limit : ℕ) (got u x : List ℕ) → length got + length u ≤ limit → Part limit Open got u x Open
open-more limit got u x fits = record {
  whole = grown-part Open Open limit got u x (λ bytes w. (x, sym w, refl));
  whole_back = grown-back Open Open limit got u x fits (λ rest w. ap (λ (r : List ℕ). u ++ r) w);
  over = λ w. (let k : limit - length got < length (u ++ x) = w in omega (arith, length-append got u, length-append u x, k, fits));
  over_back = λ w. (let k : limit - length (got ++ u) < length x = w in omega (arith, length-append got u, length-append u x, k, fits));
}

open-over : (limit : ℕ) (got u x : List ℕ) → limit - length got < length u → Part limit Open got u x Over
open-over limit got u x big = record {
  whole = λ s c w. (let len : length (u ++ x) ≡ length w.rest = ap length w.more in let few : length w.rest ≤ limit - length got = w.within in absurd (omega (arith, length-append u x, len, few, big)));
  whole_back = λ s c w. absurd w;
  over = λ w. tt;
  over_back = λ w. omega (arith, length-append u x, big);
}

pub open-over-lead : (limit used : ℕ) (got text : List ℕ) → used ≡ length text → limit - length got < used → Leads limit (decoding Open got text) (decoding Over (got ++ take used text) (drop used text))
open-over-lead limit used got text e big =
    let u : List ℕ = take used text in
    let len : length u ≡ used = length-take-le used text (omega (arith, e)) in
    parted limit used Open Over got text (parts-lead limit Open Over got u (drop used text) tt (λ x. open-over limit got u x (omega (arith, len, big))))

pub open-more-lead : (limit used : ℕ) (got text : List ℕ) → used ≡ length text → used ≤ limit - length got → length got ≤ limit → Leads limit (decoding Open got text) (decoding Open (got ++ take used text) (drop used text))
open-more-lead limit used got text e small fits =
    let u : List ℕ = take used text in
    let len : length u ≡ used = length-take-le used text (omega (arith, e)) in
    parted limit used Open Open got text (parts-lead limit Open Open got u (drop used text) (omega (arith, length-append got u, len, small, fits)) (λ x. open-more limit got u x (omega (arith, len, small, fits))))
