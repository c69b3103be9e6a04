-- Steps over chunk lines, the ends of chunks and trailer lines.
use Rattle.std.proofs.Common.{◌≡◌, ℕ, ◌+◌, ◌-◌, ◌<◌, ◌≤◌, ◌⊎◌, Bool, true, false, List, [], ◌∷◌, ◌++◌, length, refl, sym, ap, ◌∙◌, subst, arith, inl, inr, ⊎_elim, nat_lt, ◌==◌, if◌then◌else◌, length-append}
use Rattle.std.proofs.lemmas.Bool.Decides.{nat_tests}
use Rattle.std.proofs.Math.Nat.{sub-zero}
use Rattle.std.proofs.lemmas.List.{nil_from_length}
use Rattle.httparse.specs.Grammar.{ChunkLine, chunk_size}
use Rattle.http_fetch.specs.declared.stages.Stage.{Stage}
use Rattle.http_fetch.specs.declared.stages.Stage.TheVariants.{Line, Data, Trailer, Over}
use Rattle.http_fetch.specs.Chunks.{LineAt, ChunkAt, Parts, joined, IsChunked, ExceedsInChunks, HasTrailers}
use Rattle.http_fetch.specs.Reading.{NoLine, NoEnd}
use Rattle.http_fetch.specs.Stages.{Leads, decoding}
use Rattle.http_fetch.specs.Expected.{Grown, More, MoreData, ExceedsData}
use Rattle.http_fetch.proofs.FrontLemmas.{line-unique, line-append}

-- a reply that only grows goes on where the text does
pub grown : {one other : Stage} {limit : ℕ} {got text rest : List ℕ} → ((bytes : List ℕ) → More one text bytes → More other rest bytes) → (s : ℕ) (c : List ℕ) →
    Grown one limit got text (s, c) → Grown other limit got rest (s, c)
grown f s c w = record { good = w.good; rest = w.rest; more = f w.rest w.more; within = w.within; all = w.all }

-- ---- chunk lines

-- behind the line of an empty chunk come the trailers, behind another its bytes
abbrev After : ℕ → List ℕ → List ℕ → Type 0
After size rest bytes = ((size ≡ 0) × HasTrailers 65536 rest × (bytes ≡ [])) ⊎ ((0 < size) × MoreData size rest bytes)

chunked-by : {text rest mid after bytes : List ℕ} {l line : ChunkLine} (parts : List (List ℕ)) → Parts parts text mid → LineAt mid line after → chunk_size line ≡ 0 →
    HasTrailers 65536 after → bytes ≡ joined parts → LineAt text l rest → After (chunk_size l) rest bytes
chunked-by {after = after} {l = l} {line = line} [] reads last empty trailers all here =
    let same = line-unique (subst (λ t. LineAt t line after) (sym reads) last) here in
    inl (ap chunk_size (sym same.0) ∙ empty, subst (HasTrailers 65536) same.1 trailers, all)
chunked-by {mid = mid} {after = after} {l = l} {line = line} (part ∷ parts) reads last empty trailers all here =
    let same = line-unique here reads.1.reads in
    let size : chunk_size l ≡ length part = ap chunk_size same.0 ∙ reads.1.size in
    let some : 0 < length part = reads.1.some in
    inr (
      omega (arith, size, some),
      record {
        front = part;
        after = reads.0;
        more = joined parts;
        count = sym size;
        reads = same.1;
        chunks = record { parts = parts; mid = mid; reads = reads.2; line = line; after = after; last = last; empty = empty; trailers = trailers; all = refl };
        all = all;
      },
    )

pub chunked-line : {text rest bytes : List ℕ} {l : ChunkLine} → LineAt text l rest → IsChunked text bytes → After (chunk_size l) rest bytes
chunked-line here w = chunked-by w.parts w.reads w.last w.empty w.trailers w.all here

pub chunked-end : {text rest : List ℕ} {l : ChunkLine} → LineAt text l rest → chunk_size l ≡ 0 → HasTrailers 65536 rest → IsChunked text []
chunked-end {text} {rest} {l} here empty trailers = record { parts = []; mid = text; reads = refl; line = l; after = rest; last = here; empty = empty; trailers = trailers; all = refl }

part-at : {text rest : List ℕ} {l : ChunkLine} (front after : List ℕ) → LineAt text l rest → 0 < chunk_size l → length front ≡ chunk_size l → rest ≡ front ++ 13 ∷ 10 ∷ after → ChunkAt text front after
part-at {text} {rest} {l} front after here some count reads = record {
  line = l;
  reads = subst (LineAt text l) reads here;
  size = sym count;
  some = omega (arith, some, count);
}

pub chunked-data : {text rest bytes : List ℕ} {l : ChunkLine} → LineAt text l rest → 0 < chunk_size l → MoreData (chunk_size l) rest bytes → IsChunked text bytes
chunked-data {text} {rest} {bytes} {l} here some w = record {
  parts = w.front ∷ w.chunks.parts;
  mid = w.chunks.mid;
  reads = (w.after, part-at w.front w.after here some w.count w.reads, w.chunks.reads);
  line = w.chunks.line;
  after = w.chunks.after;
  last = w.chunks.last;
  empty = w.chunks.empty;
  trailers = w.chunks.trailers;
  all = w.all ∙ ap (λ m. w.front ++ m) w.chunks.all;
}

exceeds-by : {text rest mid after : List ℕ} {l line : ChunkLine} {room : ℕ} (parts : List (List ℕ)) → Parts parts text mid → LineAt mid line after →
    room < length (joined parts) + chunk_size line → LineAt text l rest → chunk_size l ≤ room → (0 < chunk_size l) × ExceedsData (chunk_size l) rest room
exceeds-by {after = after} {l = l} {line = line} [] reads next more here fits =
    let same = line-unique (subst (λ t. LineAt t line after) (sym reads) next) here in
    let size : chunk_size line ≡ chunk_size l = ap chunk_size same.0 in
    absurd (omega (arith, size, more, fits))
exceeds-by {mid = mid} {after = after} {l = l} {line = line} {room = room} (part ∷ parts) reads next more here fits =
    let same = line-unique here reads.1.reads in
    let size : chunk_size l ≡ length part = ap chunk_size same.0 ∙ reads.1.size in
    let some : 0 < length part = reads.1.some in
    let sum : length (part ++ joined parts) ≡ length part + length (joined parts) = length-append part (joined parts) in (
      omega (arith, size, some),
      record {
        front = part;
        after = reads.0;
        count = sym size;
        reads = same.1;
        chunks = record { parts = parts; mid = mid; reads = reads.2; line = line; after = after; next = next; more = omega (arith, size, sum, more, fits) };
      },
    )

pub exceeds-line : {text rest : List ℕ} {l : ChunkLine} {room : ℕ} → LineAt text l rest → chunk_size l ≤ room → ExceedsInChunks text room → (0 < chunk_size l) × ExceedsData (chunk_size l) rest room
exceeds-line here fits w = exceeds-by w.parts w.reads w.next w.more here fits

pub exceeds-here : {text rest : List ℕ} {l : ChunkLine} {room : ℕ} → LineAt text l rest → room < chunk_size l → ExceedsInChunks text room
exceeds-here {text} {rest} {l} here more = record { parts = []; mid = text; reads = refl; line = l; after = rest; next = here; more = omega (arith, more) }

pub exceeds-data : {text rest : List ℕ} {l : ChunkLine} {room : ℕ} → LineAt text l rest → 0 < chunk_size l → ExceedsData (chunk_size l) rest room → ExceedsInChunks text room
exceeds-data {text} {rest} {l} {room} here some w =
    let more : room - chunk_size l < length (joined w.chunks.parts) + chunk_size w.chunks.line = w.chunks.more in
    let sum : length (w.front ++ joined w.chunks.parts) ≡ length w.front + length (joined w.chunks.parts) = length-append w.front (joined w.chunks.parts) in
    let count : length w.front ≡ chunk_size l = w.count in
    record {
      parts = w.front ∷ w.chunks.parts;
      mid = w.chunks.mid;
      reads = (w.after, part-at w.front w.after here some w.count w.reads, w.chunks.reads);
      line = w.chunks.line;
      after = w.chunks.after;
      next = w.chunks.next;
      more = omega (arith, more, sum, count);
    }

-- nothing comes of a text without a line
none-by : {text mid after : List ℕ} {line : ChunkLine} (parts : List (List ℕ)) → Parts parts text mid → LineAt mid line after → NoLine text → ⊥
none-by {after = after} {line = line} [] reads last none = none line after (subst (λ t. LineAt t line after) (sym reads) last)
none-by (part ∷ parts) reads last none = none reads.1.line _ reads.1.reads

pub no-chunked : {text bytes : List ℕ} → NoLine text → IsChunked text bytes → ⊥
no-chunked none w = none-by w.parts w.reads w.last none

pub no-exceeds : {text : List ℕ} {room : ℕ} → NoLine text → ExceedsInChunks text room → ⊥
no-exceeds none w = none-by w.parts w.reads w.next none

-- the step over a line
module _ (text : List ℕ) (l : ChunkLine) (rest : List ℕ) (here : LineAt text l rest) (limit : ℕ) (got : List ℕ) (fits : length got ≤ limit) where
  line-over : limit - length got < chunk_size l → Leads limit (decoding Line got text) (decoding Over got rest)
  line-over big = record {
    fits = tt;
    same = λ more. record {
      whole = λ s c w. ⊎_elim
          (λ (a : (chunk_size l ≡ 0) × HasTrailers 65536 (rest ++ more) × (w.rest ≡ [])). (let e : chunk_size l ≡ 0 = a.0 in absurd (omega (arith, e, big))))
          (λ (a : (0 < chunk_size l) × MoreData (chunk_size l) (rest ++ more) w.rest). (
          let d = a.1 in
          let sum : length w.rest ≡ length d.front + length d.more = ap length d.all ∙ length-append d.front d.more in
          let count : length d.front ≡ chunk_size l = d.count in
          let few : length w.rest ≤ limit - length got = w.within in
          absurd (omega (arith, sum, count, few, big))))
          (chunked-line (line-append more here) w.more);
      whole_back = λ s c w. absurd w;
      over = λ w. tt;
      over_back = λ w. exceeds-here (line-append more here) big;
    };
  }

  line-last : chunk_size l ≡ 0 → Leads limit (decoding Line got text) (decoding (Trailer 65536) got rest)
  line-last empty = record {
    fits = (fits, omega arith);
    same = λ more. record {
      whole = grown (λ bytes w. ⊎_elim
          (λ (a : (chunk_size l ≡ 0) × HasTrailers 65536 (rest ++ more) × (bytes ≡ [])). (a.1, a.2))
          (λ (a : (0 < chunk_size l) × MoreData (chunk_size l) (rest ++ more) bytes). (let k : 0 < chunk_size l = a.0 in absurd (omega (arith, k, empty))))
          (chunked-line (line-append more here) w));
      whole_back = grown (λ bytes w. subst (IsChunked (text ++ more)) (sym w.1) (chunked-end (line-append more here) empty w.0));
      over = λ w. (let k : 0 < chunk_size l = (exceeds-line (line-append more here) (omega (arith, empty)) w).0 in absurd (omega (arith, k, empty)));
      over_back = λ w. absurd w;
    };
  }

  line-data : 0 < chunk_size l → chunk_size l ≤ limit - length got → Leads limit (decoding Line got text) (decoding (Data (chunk_size l)) got rest)
  line-data some small = record {
    fits = omega (arith, fits, small);
    same = λ more. record {
      whole = grown (λ bytes w. ⊎_elim
          (λ (a : (chunk_size l ≡ 0) × HasTrailers 65536 (rest ++ more) × (bytes ≡ [])). (let k : chunk_size l ≡ 0 = a.0 in absurd (omega (arith, k, some))))
          (λ (a : (0 < chunk_size l) × MoreData (chunk_size l) (rest ++ more) bytes). a.1)
          (chunked-line (line-append more here) w));
      whole_back = grown (λ bytes w. chunked-data (line-append more here) some w);
      over = λ w. (exceeds-line (line-append more here) small w).1;
      over_back = λ w. exceeds-data (line-append more here) some w;
    };
  }

  pub line-next : (over zero : Bool) → nat_lt (limit - length got) (chunk_size l) ≡ over → chunk_size l == 0 ≡ zero →
      Leads limit (decoding Line got text) (decoding (if over then Over else (if zero then Trailer 65536 else Data (chunk_size l))) got rest)
  line-next true zero o z = line-over (grind (arith, nat_tests, o))
  line-next false true o z = line-last (grind (arith, nat_tests, z))
  line-next false false o z = line-data (grind (arith, nat_tests, z)) (grind (arith, nat_tests, o))

-- ---- the ends of chunks

pub end-next : (rest : List ℕ) (limit : ℕ) (got : List ℕ) → length got ≤ limit → Leads limit (decoding (Data 0) got (13 ∷ 10 ∷ rest)) (decoding Line got rest)
end-next rest limit got fits = record {
  fits = fits;
  same = λ more. record {
    whole = grown (λ bytes w. (let none : w.front ≡ [] = nil_from_length w.front w.count in
        let text : 13 ∷ 10 ∷ (rest ++ more) ≡ 13 ∷ 10 ∷ w.after = w.reads ∙ ap (λ (f : List ℕ). f ++ 13 ∷ 10 ∷ w.after) none in
        let tails : w.after ≡ rest ++ more = cc in
        subst (IsChunked (rest ++ more)) (sym (w.all ∙ ap (λ (f : List ℕ). f ++ w.more) none)) (subst (λ t. IsChunked t w.more) tails w.chunks)));
    whole_back = grown (λ bytes w. record { front = []; after = rest ++ more; more = bytes; count = refl; reads = refl; chunks = w; all = refl });
    over = λ w. (let none : w.front ≡ [] = nil_from_length w.front w.count in
        let text : 13 ∷ 10 ∷ (rest ++ more) ≡ 13 ∷ 10 ∷ w.after = w.reads ∙ ap (λ (f : List ℕ). f ++ 13 ∷ 10 ∷ w.after) none in
        let tails : w.after ≡ rest ++ more = cc in
        subst (λ t. ExceedsInChunks t (limit - length got)) tails (subst (ExceedsInChunks w.after) (sub-zero (limit - length got)) w.chunks));
    over_back = λ w. record { front = []; after = rest ++ more; count = refl; reads = refl; chunks = subst (ExceedsInChunks (rest ++ more)) (sym (sub-zero (limit - length got))) w };
  };
}

-- no end, no more
pub no-data : {text bytes : List ℕ} → NoEnd text → MoreData 0 text bytes → ⊥
no-data none w = none w.after (w.reads ∙ ap (λ (f : List ℕ). f ++ 13 ∷ 10 ∷ w.after) (nil_from_length w.front w.count))

pub no-exceeds-data : {text : List ℕ} {room : ℕ} → NoEnd text → ExceedsData 0 text room → ⊥
no-exceeds-data none w = none w.after (w.reads ∙ ap (λ (f : List ℕ). f ++ 13 ∷ 10 ∷ w.after) (nil_from_length w.front w.count))

-- no byte, none of so many
pub none-of-some : {left : ℕ} {text bytes : List ℕ} → 0 < left → text ≡ [] → MoreData left text bytes → ⊥
none-of-some {left} some none w =
    let len : length (w.front ++ 13 ∷ 10 ∷ w.after) ≡ 0 = ap length (sym w.reads ∙ none) in
    let sum : length (w.front ++ 13 ∷ 10 ∷ w.after) ≡ length w.front + length (13 ∷ 10 ∷ w.after) = length-append w.front (13 ∷ 10 ∷ w.after) in
    let count : length w.front ≡ left = w.count in
    omega (arith, len, sum, count, some)

pub none-past-some : {left room : ℕ} {text : List ℕ} → 0 < left → text ≡ [] → ExceedsData left text room → ⊥
none-past-some {left} some none w =
    let len : length (w.front ++ 13 ∷ 10 ∷ w.after) ≡ 0 = ap length (sym w.reads ∙ none) in
    let sum : length (w.front ++ 13 ∷ 10 ∷ w.after) ≡ length w.front + length (13 ∷ 10 ∷ w.after) = length-append w.front (13 ∷ 10 ∷ w.after) in
    let count : length w.front ≡ left = w.count in
    omega (arith, len, sum, count, some)
