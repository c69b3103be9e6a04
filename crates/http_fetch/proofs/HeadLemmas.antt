-- Steps over a head.
use Rattle.std.proofs.Common.{◌≡◌, ◌≢◌, ℕ, ◌-◌, ◌<◌, ◌≤◌, ◌⊎◌, Bool, true, false, List, [], ◌∷◌, ◌++◌, length, refl, sym, ap, ◌∙◌, subst, arith, inl, inr, ⊎_elim, nat_lt, ◌==◌, if◌then◌else◌}
use Rattle.std.proofs.lemmas.Bool.Decides.{nat_tests}
use Rattle.std.proofs.Math.Nat.{sub-zero}
use Rattle.std.proofs.lemmas.List.{nil_from_length}
use Rattle.httparse.specs.Grammar.{ResponseHead, status_code}
use Rattle.http_fetch.specs.declared.fields.Framing.{Framing}
use Rattle.http_fetch.specs.declared.fields.Framing.TheVariants as framings
use Rattle.http_fetch.specs.declared.stages.Stage.{Stage}
use Rattle.http_fetch.specs.declared.stages.Stage.TheVariants.{Heads, Length, Line, Open, Whole, Over, Never}
use Rattle.http_fetch.specs.Replies.{HeadAt, Interims, IsInterim, Reaches, IsWhole, IsOver, WholeAfter, OverAfter, framing_of, IsBody}
use Rattle.http_fetch.specs.Reading.{NoHead}
use Rattle.http_fetch.specs.Stages.{Leads, WholeFrom, OverFrom, Fits, decoding}
use Rattle.http_fetch.specs.Expected.{Grown, More}
use Rattle.http_fetch.specs.Steps.{after_good}
use Rattle.http_fetch.proofs.FrontLemmas.{head-unique, head-append}

-- a head behind which none follows is the one that is reached
final-by : {text mid rest q : List ℕ} {h k : ResponseHead} (hs : List ResponseHead) → Interims hs text mid → HeadAt mid k q → HeadAt text h rest → 200 ≤ status_code h → (k ≡ h) × (q ≡ rest)
final-by {text} {mid} {rest} {q} {h} {k} [] passed at here final = head-unique (subst (λ t. HeadAt t k q) (sym passed) at) here
final-by {h = h} (i ∷ hs) passed at here final =
    let same = head-unique here passed.1 in
    let code : status_code h ≡ status_code i = ap status_code same.0 in
    let small : status_code i < 200 = passed.2.1 in
    absurd (omega (arith, code, small, final))

pub reaches-final : {n : ℕ} {text rest q : List ℕ} {h k : ResponseHead} → HeadAt text h rest → 200 ≤ status_code h → Reaches n text k q → (k ≡ h) × (q ≡ rest)
reaches-final here final r = final-by r.interims r.passed r.head here final

pub reaches-here : {text rest : List ℕ} {h : ResponseHead} (n : ℕ) → HeadAt text h rest → 200 ≤ status_code h → Reaches n text h rest
reaches-here {text} n here final = record { interims = []; few = omega arith; mid = text; passed = refl; head = here; final = final }

-- behind a head of a lower status another is reached
interim-by : {n : ℕ} {text mid rest q : List ℕ} {h k : ResponseHead} (hs : List ResponseHead) → length hs ≤ n → Interims hs text mid → HeadAt mid k q → 200 ≤ status_code k →
    HeadAt text h rest → status_code h < 200 → (100 ≤ status_code h) × (0 < n) × Reaches (n - 1) rest k q
interim-by {n} {text} {mid} {rest} {q} {h} {k} [] few passed at final here low =
    let same = head-unique (subst (λ t. HeadAt t k q) (sym passed) at) here in
    let code : status_code k ≡ status_code h = ap status_code same.0 in
    absurd (omega (arith, code, final, low))
interim-by {n} {text} {mid} {rest} {q} {h} {k} (i ∷ hs) few passed at final here low =
    let same = head-unique here passed.1 in
    let code : status_code h ≡ status_code i = ap status_code same.0 in
    let high : 100 ≤ status_code i = passed.2.0 in (
      omega (arith, code, high),
      omega arith,
      record { interims = hs; few = omega arith; mid = mid; passed = subst (λ t. Interims hs t mid) (sym same.1) passed.3; head = at; final = final },
    )

pub reaches-interim : {n : ℕ} {text rest q : List ℕ} {h k : ResponseHead} → HeadAt text h rest → status_code h < 200 → Reaches n text k q →
    (100 ≤ status_code h) × (0 < n) × Reaches (n - 1) rest k q
reaches-interim here low r = interim-by r.interims r.few r.passed r.head r.final here low

pub reaches-on : {n : ℕ} {text rest q : List ℕ} {h k : ResponseHead} → HeadAt text h rest → IsInterim h → 0 < n → Reaches (n - 1) rest k q → Reaches n text k q
reaches-on {n} {text} {rest} {q} {h} {k} here low some r =
    record { interims = h ∷ r.interims; few = (let f : length r.interims ≤ n - 1 = r.few in omega (arith, f, some)); mid = r.mid; passed = (rest, here, low, r.passed); head = r.head; final = r.final }

-- no head, no reply
none-by : {text mid q : List ℕ} {k : ResponseHead} (hs : List ResponseHead) → Interims hs text mid → HeadAt mid k q → NoHead text → ⊥
none-by {text} {mid} {q} {k} [] passed at none = none k q (subst (λ t. HeadAt t k q) (sym passed) at)
none-by (i ∷ hs) passed at none = none i passed.0 passed.1

pub reaches-none : {n : ℕ} {text q : List ℕ} {k : ResponseHead} → NoHead text → Reaches n text k q → ⊥
reaches-none {n} none r = none-by r.interims r.passed r.head none

-- the places behind a head
good : {limit : ℕ} {text rest : List ℕ} {h : ResponseHead} (n : ℕ) → HeadAt text h rest → 200 ≤ status_code h → (s : ℕ) (c : List ℕ) →
    IsWhole n text limit s c → WholeAfter (status_code h) (framing_of h) rest limit (s, c)
good {limit} n here final s c w =
    let same = reaches-final here final w.reaches in
    subst (λ (k : ResponseHead). WholeAfter (status_code k) (framing_of k) _ limit (s, c)) same.0 (subst (λ t. WholeAfter (status_code w.head) (framing_of w.head) t limit (s, c)) same.1 w.whole)

long : {limit : ℕ} {text rest : List ℕ} {h : ResponseHead} (n : ℕ) → HeadAt text h rest → 200 ≤ status_code h →
    IsOver n text limit → OverAfter (status_code h) (framing_of h) rest limit
long {limit} n here final w =
    let same = reaches-final here final w.reaches in
    subst (λ (k : ResponseHead). OverAfter (status_code k) (framing_of k) _ limit) same.0 (subst (λ t. OverAfter (status_code w.head) (framing_of w.head) t limit) same.1 w.over)

-- a head of a low code
module _ (text : List ℕ) (h : ResponseHead) (rest : List ℕ) (here : HeadAt text h rest) (n limit : ℕ) where
  low-never : status_code h < 200 → (status_code h < 100) ⊎ (n ≡ 0) → Leads limit (decoding (Heads n) [] text) (decoding Never [] rest)
  low-never low why = record {
    fits = tt;
    same = λ more. record {
      whole = λ s c w. (let r = reaches-interim (head-append more here) low w.reaches in ⊎_elim (λ (e : status_code h < 100). (let k : 100 ≤ status_code h = r.0 in absurd (omega (arith, e, k)))) (λ (e : n ≡ 0). (let k : 0 < n = r.1 in absurd (omega (arith, e, k)))) why);
      whole_back = λ s c w. absurd w;
      over = λ w. (let r = reaches-interim (head-append more here) low w.reaches in ⊎_elim (λ (e : status_code h < 100). (let k : 100 ≤ status_code h = r.0 in absurd (omega (arith, e, k)))) (λ (e : n ≡ 0). (let k : 0 < n = r.1 in absurd (omega (arith, e, k)))) why);
      over_back = λ w. absurd w;
    };
  }

  low-next : IsInterim h → 0 < n → Leads limit (decoding (Heads n) [] text) (decoding (Heads (n - 1)) [] rest)
  low-next low some = record {
    fits = refl;
    same = λ more. record {
      whole = λ s c w. record { head = w.head; rest = w.rest; reaches = (reaches-interim (head-append more here) low.1 w.reaches).2; whole = w.whole };
      whole_back = λ s c w. record { head = w.head; rest = w.rest; reaches = reaches-on (head-append more here) low some w.reaches; whole = w.whole };
      over = λ w. record { head = w.head; rest = w.rest; reaches = (reaches-interim (head-append more here) low.1 w.reaches).2; over = w.over };
      over_back = λ w. record { head = w.head; rest = w.rest; reaches = reaches-on (head-append more here) low some w.reaches; over = w.over };
    };
  }

  -- behind the last head the place need only give what follows it
  behind : (next : Stage) → 200 ≤ status_code h → Fits next limit [] →
      ((more : List ℕ) (s : ℕ) (c : List ℕ) → WholeAfter (status_code h) (framing_of h) (rest ++ more) limit (s, c) → WholeFrom next limit [] (rest ++ more) (s, c)) →
      ((more : List ℕ) (s : ℕ) (c : List ℕ) → WholeFrom next limit [] (rest ++ more) (s, c) → WholeAfter (status_code h) (framing_of h) (rest ++ more) limit (s, c)) →
      ((more : List ℕ) → OverAfter (status_code h) (framing_of h) (rest ++ more) limit → OverFrom next limit [] (rest ++ more)) →
      ((more : List ℕ) → OverFrom next limit [] (rest ++ more) → OverAfter (status_code h) (framing_of h) (rest ++ more) limit) →
      Leads limit (decoding (Heads n) [] text) (decoding next [] rest)
  behind next final fits there back longer shorter = record {
    fits = fits;
    same = λ more. record {
      whole = λ s c w. there more s c (good n (head-append more here) final s c w);
      whole_back = λ s c w. record { head = h; rest = rest ++ more; reaches = reaches-here n (head-append more here) final; whole = back more s c w };
      over = λ w. longer more (long n (head-append more here) final w);
      over_back = λ w. record { head = h; rest = rest ++ more; reaches = reaches-here n (head-append more here) final; over = shorter more w };
    };
  }

-- what follows a head, and the place behind it
abbrev Gives : ℕ → Framing → List ℕ → ℕ → Stage → Type 0
Gives code f text limit next =
    ((s : ℕ) (c : List ℕ) → WholeAfter code f text limit (s, c) → WholeFrom next limit [] text (s, c))
    × ((s : ℕ) (c : List ℕ) → WholeFrom next limit [] text (s, c) → WholeAfter code f text limit (s, c))
    × (OverAfter code f text limit → OverFrom next limit [] text)
    × (OverFrom next limit [] text → OverAfter code f text limit)

gives-other : (code : ℕ) (f : Framing) (text : List ℕ) (limit : ℕ) → code ≢ 200 → Gives code f text limit (Whole code)
gives-other code f text limit other = (
  λ s c w. (w.0, ⊎_elim (λ (a : (code ≢ 200) × (c ≡ [])). a.1) (λ (a : (code ≡ 200) × IsBody f text c × (length c ≤ limit)). absurd (other a.0)) w.1),
  λ s c w. (w.0, inl (other, w.1)),
  λ w. other w.0,
  λ w. absurd w,
)

body-of : (code limit : ℕ) (f : Framing) (text c : List ℕ) → code ≡ 200 → ((code ≢ 200) × (c ≡ [])) ⊎ ((code ≡ 200) × IsBody f text c × (length c ≤ limit)) → IsBody f text c × (length c ≤ limit)
body-of code limit f text c e (inl a) = absurd (a.0 e)
body-of code limit f text c e (inr a) = (a.1, a.2)

gives-refused : (code : ℕ) (text : List ℕ) (limit : ℕ) → code ≡ 200 → Gives code framings.Refused text limit Never
gives-refused code text limit e = (
  λ s c w. (body-of code limit framings.Refused text c e w.1).0,
  λ s c w. absurd w,
  λ w. w.1,
  λ w. absurd w,
)

gives-over : (code n : ℕ) (text : List ℕ) (limit : ℕ) → code ≡ 200 → limit < n → Gives code (framings.Length n) text limit Over
gives-over code n text limit e big = (
  λ s c w. (let b = body-of code limit (framings.Length n) text c e w.1 in let len : length c ≡ n = b.0.0 in let few : length c ≤ limit = b.1 in absurd (omega (arith, len, few, big))),
  λ s c w. absurd w,
  λ w. tt,
  λ w. (e, big),
)

gives-none : (code : ℕ) (text : List ℕ) (limit : ℕ) → code ≡ 200 → Gives code (framings.Length 0) text limit (Whole 200)
gives-none code text limit e = (
  λ s c w. (let b = body-of code limit (framings.Length 0) text c e w.1 in (w.0 ∙ e, nil_from_length c b.0.0)),
  λ s c w. (w.0 ∙ sym e, inr (e, (ap length w.1, (text, ap (λ (k : List ℕ). k ++ text) (sym w.1))), (let len : length c ≡ 0 = ap length w.1 in omega (arith, len)))),
  λ w. (let k : limit < 0 = w.1 in absurd (omega (arith, k))),
  λ w. absurd w,
)

grown-whole : (stage : Stage) (code : ℕ) (f : Framing) (text : List ℕ) (limit : ℕ) → code ≡ 200 → ((c : List ℕ) → IsBody f text c → More stage text c) → (s : ℕ) (c : List ℕ) → WholeAfter code f text limit (s, c) → Grown stage limit [] text (s, c)
grown-whole stage code f text limit e there s c w =
    let b = body-of code limit f text c e w.1 in
    record { good = w.0 ∙ e; rest = c; more = there c b.0; within = rw (sub-zero limit) b.1; all = refl }

whole-grown : (stage : Stage) (code : ℕ) (f : Framing) (text : List ℕ) (limit : ℕ) → code ≡ 200 → ((c : List ℕ) → More stage text c → IsBody f text c) → (s : ℕ) (c : List ℕ) → Grown stage limit [] text (s, c) → WholeAfter code f text limit (s, c)
whole-grown stage code f text limit e back s c w =
    let same : w.rest ≡ c = sym w.all in
    (w.good ∙ sym e, inr (e, back c (subst (More stage text) same w.more), subst (λ (k : List ℕ). length k ≤ limit) same (rw (sub-zero limit) at w.within)))

gives-length : (code n : ℕ) (text : List ℕ) (limit : ℕ) → code ≡ 200 → n ≤ limit → Gives code (framings.Length n) text limit (Length n)
gives-length code n text limit e fits = (
  grown-whole (Length n) code (framings.Length n) text limit e (λ c x. x),
  whole-grown (Length n) code (framings.Length n) text limit e (λ c x. x),
  λ w. (let k : limit < n = w.1 in absurd (omega (arith, k, fits))),
  λ w. absurd w,
)

gives-chunks : (code : ℕ) (text : List ℕ) (limit : ℕ) → code ≡ 200 → Gives code framings.Chunks text limit Line
gives-chunks code text limit e = (
  grown-whole Line code framings.Chunks text limit e (λ c x. x),
  whole-grown Line code framings.Chunks text limit e (λ c x. x),
  λ w. rw (sub-zero limit) w.1,
  λ w. (e, rw (sub-zero limit) at w),
)

gives-open : (code : ℕ) (text : List ℕ) (limit : ℕ) → code ≡ 200 → Gives code framings.ToEnd text limit Open
gives-open code text limit e = (
  grown-whole Open code framings.ToEnd text limit e (λ c x. x),
  whole-grown Open code framings.ToEnd text limit e (λ c x. x),
  λ w. rw (sub-zero limit) w.1,
  λ w. (e, rw (sub-zero limit) at w),
)

-- the same, of whole replies and long bodies
pub no-whole : {n limit status : ℕ} {text bytes : List ℕ} → NoHead text → IsWhole n text limit status bytes → ⊥
no-whole none w = reaches-none none w.reaches

pub no-over : {n limit : ℕ} {text : List ℕ} → NoHead text → IsOver n text limit → ⊥
no-over none w = reaches-none none w.reaches

-- the step over a head that was found
module _ (text : List ℕ) (h : ResponseHead) (rest : List ℕ) (here : HeadAt text h rest) (n limit : ℕ) where
  behind-gives : (next : Stage) → 200 ≤ status_code h → Fits next limit [] → ((more : List ℕ) → Gives (status_code h) (framing_of h) (rest ++ more) limit next) → Leads limit (decoding (Heads n) [] text) (decoding next [] rest)
  behind-gives next final fits gives = behind text h rest here n limit next final fits (λ more. (gives more).0) (λ more. (gives more).1) (λ more. (gives more).2) (λ more. (gives more).3)

  good-length : (size : ℕ) (over zero : Bool) → nat_lt limit size ≡ over → size == 0 ≡ zero → status_code h ≡ 200 → framing_of h ≡ framings.Length size →
      Leads limit (decoding (Heads n) [] text) (decoding (if over then Over else (if zero then Whole 200 else Length size)) [] rest)
  good-length size true zero o z e f =
      let big : limit < size = grind (arith, nat_tests, o) in
      behind-gives Over (omega (arith, e)) tt (λ more. subst (λ (g : Framing). Gives (status_code h) g (rest ++ more) limit Over) (sym f) (gives-over (status_code h) size (rest ++ more) limit e big))
  good-length size false true o z e f =
      let none : size ≡ 0 = grind (arith, nat_tests, z) in
      behind-gives (Whole 200) (omega (arith, e)) (omega arith) (λ more. subst (λ (g : Framing). Gives (status_code h) g (rest ++ more) limit (Whole 200)) (sym (f ∙ ap framings.Length none)) (gives-none (status_code h) (rest ++ more) limit e))
  good-length size false false o z e f =
      let fits : size ≤ limit = grind (arith, nat_tests, o) in
      let some : 0 < size = grind (arith, nat_tests, z) in
      behind-gives (Length size) (omega (arith, e)) (some, omega (arith, fits)) (λ more. subst (λ (g : Framing). Gives (status_code h) g (rest ++ more) limit (Length size)) (sym f) (gives-length (status_code h) size (rest ++ more) limit e fits))

  good-next : (f : Framing) → status_code h ≡ 200 → framing_of h ≡ f → Leads limit (decoding (Heads n) [] text) (decoding (after_good f limit) [] rest)
  good-next framings.Refused e f =
      behind-gives Never (omega (arith, e)) tt (λ more. subst (λ (g : Framing). Gives (status_code h) g (rest ++ more) limit Never) (sym f) (gives-refused (status_code h) (rest ++ more) limit e))
  good-next (framings.Length size) e f = good-length size (nat_lt limit size) (size == 0) refl refl e f
  good-next framings.Chunks e f =
      behind-gives Line (omega (arith, e)) (omega arith) (λ more. subst (λ (g : Framing). Gives (status_code h) g (rest ++ more) limit Line) (sym f) (gives-chunks (status_code h) (rest ++ more) limit e))
  good-next framings.ToEnd e f =
      behind-gives Open (omega (arith, e)) (omega arith) (λ more. subst (λ (g : Framing). Gives (status_code h) g (rest ++ more) limit Open) (sym f) (gives-open (status_code h) (rest ++ more) limit e))

  pub head-next : (a b z g : Bool) → nat_lt (status_code h) 100 ≡ a → nat_lt (status_code h) 200 ≡ b → n == 0 ≡ z → status_code h == 200 ≡ g →
      Leads limit (decoding (Heads n) [] text) (decoding (if a then Never else (if b then (if z then Never else Heads (n - 1)) else (if g then after_good (framing_of h) limit else Whole (status_code h)))) [] rest)
  head-next true b z g ea eb ez eg = (let low : status_code h < 100 = grind (arith, nat_tests, ea) in low-never text h rest here n limit (omega (arith, low)) (inl low))
  head-next false true true g ea eb ez eg = (let low : status_code h < 200 = grind (arith, nat_tests, eb) in low-never text h rest here n limit low (inr (grind (arith, nat_tests, ez))))
  head-next false true false g ea eb ez eg =
      (let low : status_code h < 200 = grind (arith, nat_tests, eb) in let high : 100 ≤ status_code h = grind (arith, nat_tests, ea) in
      low-next text h rest here n limit (high, low) (grind (arith, nat_tests, ez)))
  head-next false false z true ea eb ez eg = good-next (framing_of h) (grind (arith, nat_tests, eg)) refl
  head-next false false z false ea eb ez eg =
      (let other : status_code h ≢ 200 = grind (arith, nat_tests, eg) in
      behind-gives (Whole (status_code h)) (grind (arith, nat_tests, eb)) (omega arith) (λ more. gives-other (status_code h) (framing_of h) (rest ++ more) limit other))
