-- What becomes of what came.
use Rattle.std.proofs.Common.{◌≡◌, ℕ, ◌≤◌, Bool, true, false, ◌==◌, nat_le, List, ◌++◌, length, Result, Ok, Err, refl, sym, ap, ◌∙◌, subst, arith, if◌then◌else◌}
use Rattle.std.proofs.lemmas.Bool.Decides.{nat_tests}
use Rattle.httparse.specs.Grammar.{ResponseHead}
use Rattle.outside.specs.declared.replies.Reply.{Reply}
use Rattle.outside.specs.declared.replies.Reply.TheVariants.{Body, Quoted, Lost, Garbled, Unsent, Oversize}
use Rattle.outside.specs.Fetches.{IsReplyInLimits}
use Rattle.outside.specs.Sizes.{most_body_bytes}
use Rattle.om_reader.specs.Bodies.{converted}
use Rattle.http_fetch.specs.declared.fields.Kind.{Kind}
use Rattle.http_fetch.specs.declared.fields.Kind.TheVariants as kinds
use Rattle.http_fetch.specs.declared.stages.Stage.{Stage}
use Rattle.http_fetch.specs.declared.stages.Stage.TheVariants.{Heads, Length, Line, Data, Trailer, Open, Whole, Over, Never}
use Rattle.http_fetch.specs.Decoders.{IsSettled}
use Rattle.http_fetch.specs.Kinds.{StageKind}
use Rattle.http_fetch.specs.Replies.{Becomes, Came, Http, converted_reply, kind_of, page_of, rendered}
use Rattle.http_fetch.specs.Stages.{Stands}
use Rattle.http_fetch.proofs.DecoderLemmas.{CameSettled, reaches-append}
use Rattle.http_fetch.proofs.LimitLemmas.{came-limits}
use Rattle.http_fetch.proofs.PlaceLemmas.{http-answer}
use Rattle.http_fetch.proofs.UniqueLemmas.{came-one, reaches-unique}

-- one thing becomes of it
becomes-one : (limit : ℕ) (b : List ℕ) (came r s : Reply) → Becomes b limit came r → Becomes b limit came s → r ≡ s
becomes-one limit b (Body status bytes) r s x y = x.3 ∙ ap (λ (h : ResponseHead). rendered (kind_of h) limit status bytes) (reaches-unique x.2 y.2).0 ∙ sym y.3
becomes-one limit b Oversize r s x y = x ∙ sym y
becomes-one limit b Garbled r s x y = x ∙ sym y
becomes-one limit b (Quoted status bytes) r s x y = absurd x
becomes-one limit b Lost r s x y = absurd x
becomes-one limit b Unsent r s x y = absurd x

pub one-reply : (limit : ℕ) (b : List ℕ) (r s : Reply) → Http b limit r → Http b limit s → r ≡ s
one-reply limit b r s x y =
    let same = came-one limit b x.0 y.0 x.1 y.1 in
    becomes-one limit b y.0 r s (subst (λ (c : Reply). Becomes b limit c r) same x.2) y.2

-- it is an answer of the link
abbrev IsAnswer : Reply → Type 0
IsAnswer Lost = ⊥
IsAnswer Unsent = ⊥
IsAnswer (Body status bytes) = Unit {0}
IsAnswer (Quoted status bytes) = Unit {0}
IsAnswer Oversize = Unit {0}
IsAnswer Garbled = Unit {0}

text-answers : (b : Bool) (text : List ℕ) → IsAnswer (if b then Body 200 text else Oversize)
text-answers true text = tt
text-answers false text = tt

converted-answers : (limit : ℕ) (said : Result (List ℕ) ℕ) → IsAnswer (converted_reply limit said)
converted-answers limit (Ok text) = text-answers (nat_le (length text) limit) text
converted-answers limit (Err line) = tt

if-answers : (b : Bool) (r s : Reply) → IsAnswer r → IsAnswer s → IsAnswer (if b then r else s)
if-answers true r s x y = x
if-answers false r s x y = y

page-answers : (kind : Kind) (limit : ℕ) (bytes : List ℕ) → IsAnswer (page_of kind limit bytes)
page-answers kinds.OpenMetrics limit bytes = converted-answers limit (converted bytes)
page-answers kinds.Quoted limit bytes = tt
page-answers kinds.Plain limit bytes = tt

rendered-answers : (kind : Kind) (limit status : ℕ) (bytes : List ℕ) → IsAnswer (rendered kind limit status bytes)
rendered-answers kind limit status bytes = if-answers (status == 200) (page_of kind limit bytes) (Body status bytes) (page-answers kind limit bytes) tt

answers : (limit : ℕ) (b : List ℕ) (came r : Reply) → Becomes b limit came r → IsAnswer r
answers limit b (Body status bytes) r x = subst IsAnswer (sym x.3) (rendered-answers (kind_of x.0) limit status bytes)
answers limit b Oversize r x = subst IsAnswer (sym x) tt
answers limit b Garbled r x = subst IsAnswer (sym x) tt
answers limit b (Quoted status bytes) r x = absurd x
answers limit b Lost r x = absurd x
answers limit b Unsent r x = absurd x

pub no-lost : (limit : ℕ) (b : List ℕ) → Http b limit Lost → ⊥
no-lost limit b x = answers limit b x.0 Lost x.2

pub no-unsent : (limit : ℕ) (b : List ℕ) → Http b limit Unsent → ⊥
no-unsent limit b x = answers limit b x.0 Unsent x.2

-- it keeps the limits
text-limits : (b : Bool) (limit : ℕ) (text : List ℕ) → nat_le (length text) limit ≡ b → limit ≤ most_body_bytes → IsReplyInLimits (if b then Body 200 text else Oversize)
text-limits true limit text e small =
    let within : length text ≤ limit = grind (arith, nat_tests) in
    (omega arith, omega arith, omega (arith, within, small))
text-limits false limit text e small = tt

converted-limits : (limit : ℕ) (said : Result (List ℕ) ℕ) → limit ≤ most_body_bytes → IsReplyInLimits (converted_reply limit said)
converted-limits limit (Ok text) small = text-limits (nat_le (length text) limit) limit text refl small
converted-limits limit (Err line) small = tt

page-limits : (kind : Kind) (limit : ℕ) (bytes : List ℕ) → limit ≤ most_body_bytes → length bytes ≤ most_body_bytes → IsReplyInLimits (page_of kind limit bytes)
page-limits kinds.OpenMetrics limit bytes small few = converted-limits limit (converted bytes) small
page-limits kinds.Quoted limit bytes small few = (omega arith, omega arith, few)
page-limits kinds.Plain limit bytes small few = (omega arith, omega arith, few)

if-limits : (b : Bool) (r s : Reply) → IsReplyInLimits r → IsReplyInLimits s → IsReplyInLimits (if b then r else s)
if-limits true r s x y = x
if-limits false r s x y = y

becomes-limits : (b : List ℕ) (limit : ℕ) (came r : Reply) → limit ≤ most_body_bytes → IsReplyInLimits came → Becomes b limit came r → IsReplyInLimits r
becomes-limits b limit (Body status bytes) r small w x =
    subst IsReplyInLimits (sym x.3)
    (if-limits (status == 200) (page_of (kind_of x.0) limit bytes) (Body status bytes) (page-limits (kind_of x.0) limit bytes small w.2) w)
becomes-limits b limit Oversize r small w x = subst IsReplyInLimits (sym x) tt
becomes-limits b limit Garbled r small w x = subst IsReplyInLimits (sym x) tt
becomes-limits b limit (Quoted status bytes) r small w x = absurd x
becomes-limits b limit Lost r small w x = absurd x
becomes-limits b limit Unsent r small w x = absurd x

pub http-limits : (b : List ℕ) (limit : ℕ) (r : Reply) → limit ≤ most_body_bytes → Http b limit r → IsReplyInLimits r
http-limits b limit r small x = becomes-limits b limit x.0 r small (came-limits b limit x.0 small x.1) x.2

-- where what came is settled, so is the reply
becomes-more : (limit : ℕ) (b more : List ℕ) (came r : Reply) → Becomes b limit came r → Becomes (b ++ more) limit came r
becomes-more limit b more (Body status bytes) r x = (x.0, x.1 ++ more, reaches-append more x.2, x.3)
becomes-more limit b more Oversize r x = x
becomes-more limit b more Garbled r x = x
becomes-more limit b more (Quoted status bytes) r x = x
becomes-more limit b more Lost r x = x
becomes-more limit b more Unsent r x = x

becomes-less : (limit : ℕ) (b more : List ℕ) (came r : Reply) → Came b limit came → Becomes (b ++ more) limit came r → Becomes b limit came r
becomes-less limit b more (Body status bytes) r w x =
    let same = reaches-unique x.2 (reaches-append more w.reaches) in
    (w.head, w.rest, w.reaches, x.3 ∙ ap (λ (h : ResponseHead). rendered (kind_of h) limit status bytes) same.0)
becomes-less limit b more Oversize r w x = x
becomes-less limit b more Garbled r w x = x
becomes-less limit b more (Quoted status bytes) r w x = x
becomes-less limit b more Lost r w x = x
becomes-less limit b more Unsent r w x = x

pub http-settled : (limit : ℕ) (b : List ℕ) → CameSettled b limit → IsSettled b limit
http-settled limit b h = λ more r. (
  λ x. (x.0, (h more x.0).0 x.1, becomes-more limit b more x.0 r x.2),
  λ x. (let came = (h more x.0).1 x.1 in (x.0, came, becomes-less limit b more x.0 r came x.2)),
)

-- the reply where the link ends at a place
abbrev pub final : Stage → Kind → ℕ → List ℕ → Reply
final (Heads left) kind limit got = Garbled
final (Length left) kind limit got = Garbled
final Line kind limit got = Garbled
final (Data left) kind limit got = Garbled
final (Trailer room) kind limit got = Garbled
final Open kind limit got = rendered kind limit 200 got
final (Whole code) kind limit got = rendered kind limit code got
final Over kind limit got = Oversize
final Never kind limit got = Garbled

pub http-final : (limit : ℕ) (stage : Stage) (kind : Kind) (got pending b : List ℕ) → Stands limit stage got pending b → StageKind stage kind 8 b pending → Http b limit (final stage kind limit got)
http-final limit (Heads left) kind got pending b st t = (Garbled, http-answer limit (Heads left) got pending b st, refl)
http-final limit (Length left) kind got pending b st t = (Garbled, http-answer limit (Length left) got pending b st, refl)
http-final limit Line kind got pending b st t = (Garbled, http-answer limit Line got pending b st, refl)
http-final limit (Data left) kind got pending b st t = (Garbled, http-answer limit (Data left) got pending b st, refl)
http-final limit (Trailer room) kind got pending b st t = (Garbled, http-answer limit (Trailer room) got pending b st, refl)
http-final limit Open kind got pending b st t = (Body 200 got, http-answer limit Open got pending b st, (t.0, t.1, t.2, ap (λ m. rendered m limit 200 got) t.3))
http-final limit (Whole code) kind got pending b st t = (Body code got, http-answer limit (Whole code) got pending b st, (t.0, t.1, t.2, ap (λ m. rendered m limit code got) t.3))
http-final limit Over kind got pending b st t = (Oversize, http-answer limit Over got pending b st, refl)
http-final limit Never kind got pending b st t = (Garbled, http-answer limit Never got pending b st, refl)
