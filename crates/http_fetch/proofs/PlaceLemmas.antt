-- Places of a decoder: one after another, what waits at one, and the reply that it gives.
use Rattle.std.proofs.Common.{◌≡◌, ℕ, ◌+◌, ◌-◌, ◌<◌, true, List, [], ◌++◌, length, refl, sym, ap, ◌∙◌, subst, arith, ⊎_elim, length-append, append-nil}
use Rattle.outside.specs.declared.replies.Reply.{Reply}
use Rattle.outside.specs.declared.replies.Reply.TheVariants.{Body, Quoted, Lost, Garbled, Unsent, Oversize}
use Rattle.http_fetch.specs.declared.stages.Stage.{Stage}
use Rattle.http_fetch.specs.declared.stages.Stage.TheVariants.{Heads, Length, Line, Data, Trailer, Open, Whole, Over, Never}
use Rattle.http_fetch.specs.Replies.{Came, IsWhole, IsOver, HasFront}
use Rattle.http_fetch.specs.Stages.{Same, Leads, Stands, Waits, WholeFrom, OverFrom, Fits, decoding}
use Rattle.http_fetch.specs.Expected.{MoreData, ExceedsData}
use Rattle.http_fetch.specs.Steps.{is_done}
use Rattle.http_fetch.specs.Reading.{NoEnd}
use Rattle.http_fetch.proofs.HeadLemmas.{no-whole, no-over}
use Rattle.http_fetch.proofs.ChunkLemmas.{no-chunked, no-exceeds, no-data, no-exceeds-data, none-of-some, none-past-some}
use Rattle.http_fetch.proofs.TrailerLemmas.{no-trailers}

-- ---- one place after another

pub same-refl : (limit : ℕ) (stage : Stage) (got text : List ℕ) → Same limit (decoding stage got text) (decoding stage got text)
same-refl limit stage got text = record { whole = λ s c w. w; whole_back = λ s c w. w; over = λ w. w; over_back = λ w. w }

pub same-trans : {limit : ℕ} {a b c : Stage} {ga ta gb tb gc tc : List ℕ} → Same limit (decoding a ga ta) (decoding b gb tb) → Same limit (decoding b gb tb) (decoding c gc tc) → Same limit (decoding a ga ta) (decoding c gc tc)
same-trans x y = record {
  whole = λ s c w. y.whole s c (x.whole s c w);
  whole_back = λ s c w. x.whole_back s c (y.whole_back s c w);
  over = λ w. y.over (x.over w);
  over_back = λ w. x.over_back (y.over_back w);
}

pub leads-refl : (limit : ℕ) (stage : Stage) (got text : List ℕ) → Fits stage limit got → Leads limit (decoding stage got text) (decoding stage got text)
leads-refl limit stage got text fits = record { fits = fits; same = λ more. same-refl limit stage got (text ++ more) }

pub leads-trans : {limit : ℕ} {a b c : Stage} {ga ta gb tb gc tc : List ℕ} → Leads limit (decoding a ga ta) (decoding b gb tb) → Leads limit (decoding b gb tb) (decoding c gc tc) → Leads limit (decoding a ga ta) (decoding c gc tc)
leads-trans x y = record { fits = y.fits; same = λ more. same-trans (x.same more) (y.same more) }

-- where nothing changes any more, neither does the text
pub done-same : (stage : Stage) (limit : ℕ) (got text rest : List ℕ) → is_done stage ≡ true → Same limit (decoding stage got text) (decoding stage got rest)
done-same (Whole code) limit got text rest e = record { whole = λ s c w. w; whole_back = λ s c w. w; over = λ w. w; over_back = λ w. w }
done-same Over limit got text rest e = record { whole = λ s c w. w; whole_back = λ s c w. w; over = λ w. w; over_back = λ w. w }
done-same Never limit got text rest e = record { whole = λ s c w. w; whole_back = λ s c w. w; over = λ w. w; over_back = λ w. w }
done-same (Heads left) limit got text rest e = absurd cc
done-same (Length left) limit got text rest e = absurd cc
done-same Line limit got text rest e = absurd cc
done-same (Data left) limit got text rest e = absurd cc
done-same (Trailer room) limit got text rest e = absurd cc
done-same Open limit got text rest e = absurd cc

-- ---- the place waits

-- the status of the reply where the link ends here
abbrev pub Says : Stage → ℕ → Type 0
Says (Heads left) s = ⊥
Says (Length left) s = ⊥
Says Line s = ⊥
Says (Data left) s = ⊥
Says (Trailer room) s = ⊥
Says Open s = s ≡ 200
Says (Whole code) s = s ≡ code
Says Over s = ⊥
Says Never s = ⊥

abbrev pub SaysOver : Stage → Type 0
SaysOver (Heads left) = ⊥
SaysOver (Length left) = ⊥
SaysOver Line = ⊥
SaysOver (Data left) = ⊥
SaysOver (Trailer room) = ⊥
SaysOver Open = ⊥
SaysOver (Whole code) = ⊥
SaysOver Over = Unit {0}
SaysOver Never = ⊥

length-none : {left : ℕ} {text : List ℕ} (bytes : List ℕ) → 0 < left → text ≡ [] → length bytes ≡ left → HasFront text bytes → ⊥
length-none {left} {text} bytes some none len w =
    let sum : 0 ≡ length bytes + length w.0 = ap length (sym none) ∙ ap length w.1 ∙ length-append bytes w.0 in
    omega (arith, sum, len, some)

pub waits-whole : (stage : Stage) (limit : ℕ) (got text : List ℕ) → Fits stage limit got → Waits stage text → (s : ℕ) (c : List ℕ) → WholeFrom stage limit got text (s, c) → Says stage s × (c ≡ got)
waits-whole (Heads left) limit got text fits waits s c w = absurd (no-whole waits w)
waits-whole (Length left) limit got text fits waits s c w = absurd (length-none w.rest fits.0 waits w.more.0 w.more.1)
waits-whole Line limit got text fits waits s c w = absurd (no-chunked waits w.more)
waits-whole (Data left) limit got text fits waits s c w = absurd (⊎_elim
    (λ (a : (0 < left) × (text ≡ [])). none-of-some a.0 a.1 w.more)
    (λ (a : (left ≡ 0) × NoEnd text). no-data a.1 (subst (λ n. MoreData n text w.rest) a.0 w.more)) waits)
waits-whole (Trailer room) limit got text fits waits s c w = absurd (no-trailers waits w.more.0)
waits-whole Open limit got text fits waits s c w = (w.good, w.all ∙ ap (λ (r : List ℕ). got ++ r) (sym w.more ∙ waits) ∙ append-nil got)
waits-whole (Whole code) limit got text fits waits s c w = (w.0, w.1)
waits-whole Over limit got text fits waits s c w = absurd w
waits-whole Never limit got text fits waits s c w = absurd w

pub waits-over : (stage : Stage) (limit : ℕ) (got text : List ℕ) → Fits stage limit got → Waits stage text → OverFrom stage limit got text → SaysOver stage
waits-over (Heads left) limit got text fits waits w = no-over waits w
waits-over (Length left) limit got text fits waits w = w
waits-over Line limit got text fits waits w = no-exceeds waits w
waits-over (Data left) limit got text fits waits w = ⊎_elim
    (λ (a : (0 < left) × (text ≡ [])). none-past-some a.0 a.1 w)
    (λ (a : (left ≡ 0) × NoEnd text). no-exceeds-data a.1 (subst (λ n. ExceedsData n text (limit - length got)) a.0 w)) waits
waits-over (Trailer room) limit got text fits waits w = w
waits-over Open limit got text fits waits w = (let len : length text ≡ 0 = ap length waits in let k : limit - length got < length text = w in omega (arith, len, k))
waits-over (Whole code) limit got text fits waits w = w
waits-over Over limit got text fits waits w = w
waits-over Never limit got text fits waits w = w

-- ---- the reply

module _ (limit : ℕ) (stage : Stage) (got pending b : List ℕ) (st : Stands limit stage got pending b) where
  -- with nothing more
  pub here : Same limit (decoding (Heads 8) [] b) (decoding stage got pending)
  here = subst (λ (t : List ℕ). Same limit (decoding (Heads 8) [] t) (decoding stage got pending)) (append-nil b) (subst (λ (t : List ℕ). Same limit (decoding (Heads 8) [] (b ++ [])) (decoding stage got t)) (append-nil pending) (st.same []))

  pub whole-said : (s : ℕ) (c : List ℕ) → IsWhole 8 b limit s c → Says stage s × (c ≡ got)
  whole-said s c w = waits-whole stage limit got pending st.leads st.waits s c (here.whole s c w)

  pub over-said : IsOver 8 b limit → SaysOver stage
  over-said w = waits-over stage limit got pending st.leads st.waits (here.over w)

-- the reply where the link ends at this place
abbrev pub answer : Stage → List ℕ → Reply
answer (Heads left) got = Garbled
answer (Length left) got = Garbled
answer Line got = Garbled
answer (Data left) got = Garbled
answer (Trailer room) got = Garbled
answer Open got = Body 200 got
answer (Whole code) got = Body code got
answer Over got = Oversize
answer Never got = Garbled

pub http-answer : (limit : ℕ) (stage : Stage) (got pending b : List ℕ) → Stands limit stage got pending b → Came b limit (answer stage got)
http-answer limit (Heads left) got pending b st = (λ s c w. (whole-said limit (Heads left) got pending b st s c w).0, λ w. over-said limit (Heads left) got pending b st w)
http-answer limit (Length left) got pending b st = (λ s c w. (whole-said limit (Length left) got pending b st s c w).0, λ w. over-said limit (Length left) got pending b st w)
http-answer limit Line got pending b st = (λ s c w. (whole-said limit Line got pending b st s c w).0, λ w. over-said limit Line got pending b st w)
http-answer limit (Data left) got pending b st = (λ s c w. (whole-said limit (Data left) got pending b st s c w).0, λ w. over-said limit (Data left) got pending b st w)
http-answer limit (Trailer room) got pending b st = (λ s c w. (whole-said limit (Trailer room) got pending b st s c w).0, λ w. over-said limit (Trailer room) got pending b st w)
http-answer limit Never got pending b st = (λ s c w. (whole-said limit Never got pending b st s c w).0, λ w. over-said limit Never got pending b st w)
http-answer limit Open got pending b st =
    (here limit Open got pending b st).whole_back 200 got (record { good = refl; rest = []; more = st.waits; within = omega arith; all = sym (append-nil got) })
http-answer limit (Whole code) got pending b st = (here limit (Whole code) got pending b st).whole_back code got (refl, refl)
http-answer limit Over got pending b st = (here limit Over got pending b st).over_back tt

body-said : (stage : Stage) (got : List ℕ) (s : ℕ) (c : List ℕ) → Says stage s → c ≡ got → Body s c ≡ answer stage got
body-said (Heads left) got s c x e = absurd x
body-said (Length left) got s c x e = absurd x
body-said Line got s c x e = absurd x
body-said (Data left) got s c x e = absurd x
body-said (Trailer room) got s c x e = absurd x
body-said Open got s c x e = cc
body-said (Whole code) got s c x e = cc
body-said Over got s c x e = absurd x
body-said Never got s c x e = absurd x

long-said : (stage : Stage) (got : List ℕ) → SaysOver stage → Oversize ≡ answer stage got
long-said (Heads left) got x = absurd x
long-said (Length left) got x = absurd x
long-said Line got x = absurd x
long-said (Data left) got x = absurd x
long-said (Trailer room) got x = absurd x
long-said Open got x = absurd x
long-said (Whole code) got x = absurd x
long-said Over got x = refl
long-said Never got x = absurd x

none-said : (limit : ℕ) (b : List ℕ) (stage : Stage) (got : List ℕ) → Came b limit (answer stage got) → Came b limit Garbled → Garbled ≡ answer stage got
none-said limit b (Heads left) got a h = refl
none-said limit b (Length left) got a h = refl
none-said limit b Line got a h = refl
none-said limit b (Data left) got a h = refl
none-said limit b (Trailer room) got a h = refl
none-said limit b Open got a h = absurd (h.0 200 got a)
none-said limit b (Whole code) got a h = absurd (h.0 code got a)
none-said limit b Over got a h = absurd (h.1 a)
none-said limit b Never got a h = refl

pub only-answer : (limit : ℕ) (stage : Stage) (got pending b : List ℕ) → Stands limit stage got pending b → (r : Reply) → Came b limit r → r ≡ answer stage got
only-answer limit stage got pending b st (Body s c) h = (let w = whole-said limit stage got pending b st s c h in body-said stage got s c w.0 w.1)
only-answer limit stage got pending b st Garbled h = none-said limit b stage got (http-answer limit stage got pending b st) h
only-answer limit stage got pending b st Oversize h = long-said stage got (over-said limit stage got pending b st h)
only-answer limit stage got pending b st (Quoted s c) h = absurd h
only-answer limit stage got pending b st Lost h = absurd h
only-answer limit stage got pending b st Unsent h = absurd h
