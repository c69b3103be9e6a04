-- The steps that the functions answer.
use Rattle.std.proofs.Common.{◌≡◌, ℕ, ◌+◌, ◌-◌, ◌<◌, ◌≤◌, true, false, nat_lt, ◌==◌, List, [], ◌∷◌, ◌++◌, length, take, drop, refl, sym, ap, subst, arith, map}
use Rattle.std.proofs.lemmas.List.{length-take-le, length-map}
use Rattle.httparse.specs.Grammar.{Field, status_code, chunk_size}
use Rattle.httparse.specs.Spans.{name_and_value}
use Rattle.http_fetch.specs.declared.fields.Kind.{Kind}
use Rattle.http_fetch.specs.declared.fields.Framing.{Framing}
use Rattle.http_fetch.specs.declared.stages.Stage.{Stage}
use Rattle.http_fetch.specs.declared.stages.Stage.TheVariants.{Heads, Line, Data, Trailer, Whole, Never}
use Rattle.http_fetch.specs.Replies.{framing_of}
use Rattle.http_fetch.specs.Chunks.{is_blank, HasTrailers}
use Rattle.http_fetch.specs.Reading.{HasHead, NoHead, HasLine, NoLine, NoEnd, HasText}
use Rattle.http_fetch.specs.Stages.{Leads, WholeFrom, OverFrom, decoding}
use Rattle.http_fetch.specs.Steps.{Steps, after_head, after_line}
use Rattle.http_fetch.proofs.HeadLemmas.{head-next, no-whole, no-over}
use Rattle.http_fetch.proofs.ChunkLemmas.{line-next, end-next, no-chunked, no-exceeds, no-data, no-exceeds-data}
use Rattle.http_fetch.proofs.TrailerLemmas.{trailer-next, trailer-last}

-- the room for headers bounds the fields
pub fields-few : {A : Type 0} (f : A → List ℕ × List ℕ) (hs : List A) (fields : List Field) (n : ℕ) → map f (take n hs) ≡ map name_and_value fields → n ≤ length hs → length hs ≤ 64 → length fields ≤ 64
fields-few {A} f hs fields n e within room =
    let a : length (map f (take n hs)) ≡ length (take n hs) = length-map (take n hs) f in
    let b : length (map name_and_value fields) ≡ length fields = length-map fields name_and_value in
    let t : length (take n hs) ≡ n = length-take-le n hs within in
    let k : length (map f (take n hs)) ≡ length (map name_and_value fields) = ap length e in
    omega (arith, a, b, t, k, within, room)

pub never-step : (stage : Stage) (limit count : ℕ) (text : List ℕ) → 0 < length text →
    ((got more : List ℕ) (s : ℕ) (c : List ℕ) → WholeFrom stage limit got (text ++ more) (s, c) → ⊥) → ((got more : List ℕ) → OverFrom stage limit got (text ++ more) → ⊥) →
    Steps stage limit count text (Never, length text)
never-step stage limit count text some whole over = record {
  some = some;
  within = omega arith;
  leads = λ got e f. record {
    fits = tt;
    same = λ more. record {
      whole = λ s c w. whole got more s c w;
      whole_back = λ s c w. absurd w;
      over = λ w. over got more w;
      over_back = λ w. absurd w;
    };
  };
}

head-lead : (text : List ℕ) (status len : ℕ) (f : Framing) (kind : Kind) (limit left : ℕ) (got : List ℕ) → HasHead text status len f kind → got ≡ [] → Leads limit (decoding (Heads left) got text) (decoding (after_head status f left limit) got (drop len text))
head-lead text status len f kind limit left got w none =
    let l : Leads limit (decoding (Heads left) [] text) (decoding (after_head (status_code w.head) (framing_of w.head) left limit) [] (drop len text)) =
    head-next text w.head (drop len text) w.reads left limit (nat_lt (status_code w.head) 100) (nat_lt (status_code w.head) 200) (left == 0) (status_code w.head == 200) refl refl refl refl in
    let a : Leads limit (decoding (Heads left) [] text) (decoding (after_head status (framing_of w.head) left limit) [] (drop len text)) =
    subst (λ n. Leads limit (decoding (Heads left) [] text) (decoding (after_head n (framing_of w.head) left limit) [] (drop len text))) (sym w.status_is) l in
    let b : Leads limit (decoding (Heads left) [] text) (decoding (after_head status f left limit) [] (drop len text)) =
    subst (λ (g : Framing). Leads limit (decoding (Heads left) [] text) (decoding (after_head status g left limit) [] (drop len text))) (sym w.framing_is) a in
    subst (λ (g : List ℕ). Leads limit (decoding (Heads left) g text) (decoding (after_head status f left limit) g (drop len text))) (sym none) b

pub head-step : (text : List ℕ) (status len : ℕ) (f : Framing) (kind : Kind) (limit left count : ℕ) → HasHead text status len f kind → Steps (Heads left) limit count text (after_head status f left limit, len)
head-step text status len f kind limit left count w = record { some = w.some; within = w.within; leads = λ got e none. head-lead text status len f kind limit left got w none }

pub head-never : (text : List ℕ) (limit left count : ℕ) → 0 < length text → ((more : List ℕ) → NoHead (text ++ more)) → Steps (Heads left) limit count text (Never, length text)
head-never text limit left count some none = never-step (Heads left) limit count text some (λ got more s c w. no-whole (none more) w) (λ got more w. no-over (none more) w)

pub line-step : (text : List ℕ) (len size limit count : ℕ) → HasLine text len size → Steps Line limit count text (after_line size (limit - count), len)
line-step text len size limit count w = record {
  some = w.some;
  within = w.within;
  leads = λ got e fits. (
      let l : Leads limit (decoding Line got text) (decoding (after_line (chunk_size w.line) (limit - length got)) got (drop len text)) =
      line-next text w.line (drop len text) w.reads limit got fits (nat_lt (limit - length got) (chunk_size w.line)) (chunk_size w.line == 0) refl refl in
      subst (λ m. Leads limit (decoding Line got text) (decoding (after_line size (limit - m)) got (drop len text))) e
      (subst (λ n. Leads limit (decoding Line got text) (decoding (after_line n (limit - length got)) got (drop len text))) (sym w.size_is) l));
}

pub line-never : (text : List ℕ) (limit count : ℕ) → 0 < length text → ((more : List ℕ) → NoLine (text ++ more)) → Steps Line limit count text (Never, length text)
line-never text limit count some none = never-step Line limit count text some (λ got more s c w. no-chunked (none more) w.more) (λ got more w. no-exceeds (none more) w)

pub end-found : (text : List ℕ) (limit count : ℕ) → text ≡ 13 ∷ 10 ∷ drop 2 text → Steps (Data 0) limit count text (Line, 2)
end-found text limit count e = record {
  some = omega arith;
  within = (let n : length text ≡ length (13 ∷ 10 ∷ drop 2 text) = ap length e in omega (arith, n));
  leads = λ got k fits. (let small : length got + 0 ≤ limit = fits in
      subst (λ (t : List ℕ). Leads limit (decoding (Data 0) got t) (decoding Line got (drop 2 text))) (sym e) (end-next (drop 2 text) limit got (omega (arith, small))));
}

pub end-never : (text : List ℕ) (limit count : ℕ) → 0 < length text → ((more : List ℕ) → NoEnd (text ++ more)) → Steps (Data 0) limit count text (Never, length text)
end-never text limit count some none = never-step (Data 0) limit count text some (λ got more s c w. no-data (none more) w.more) (λ got more w. no-exceeds-data (none more) w)

pub trailer-step : (text : List ℕ) (len room limit count : ℕ) → HasText text len → is_blank (take len text) ≡ false → len < room → Steps (Trailer room) limit count text (Trailer (room - len - 1), len + 1)
trailer-step text len room limit count w some small =
    let inside : len < length text = w.2 in
    let t : length (take len text) ≡ len = length-take-le len text (omega (arith, inside)) in
    record {
      some = omega arith;
      within = omega (arith, inside);
      leads = λ got e fits. subst (λ n. Leads limit (decoding (Trailer room) got text) (decoding (Trailer (room - n - 1)) got (drop (len + 1) text))) t
          (trailer-next (take len text) text (drop (len + 1) text) w.0 w.1 room limit got fits some (omega (arith, t, small)));
    }

pub trailer-end : (text : List ℕ) (len room limit count : ℕ) → HasText text len → is_blank (take len text) ≡ true → Steps (Trailer room) limit count text (Whole 200, len + 1)
trailer-end text len room limit count w blank =
    let inside : len < length text = w.2 in
    record { some = omega arith; within = omega (arith, inside); leads = λ got e fits. trailer-last (take len text) text (drop (len + 1) text) w.0 w.1 room limit got fits blank }

pub trailer-never : (text : List ℕ) (room limit count : ℕ) → 0 < length text → ((more : List ℕ) → HasTrailers room (text ++ more) → ⊥) → Steps (Trailer room) limit count text (Never, length text)
trailer-never text room limit count some none = never-step (Trailer room) limit count text some (λ got more s c w. none more w.more.0) (λ got more w. w)
