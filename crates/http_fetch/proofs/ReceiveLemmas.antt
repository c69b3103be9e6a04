-- What was read of a link.
use Rattle.std.proofs.Common.{◌≡◌, ℕ, ◌+◌, ◌<◌, ◌≤◌, List, [], ◌++◌, length, take, Option, Some, None, IfSome, refl, sym, ap, ◌∙◌, subst, arith, append_assoc, append-nil, length-append}
use Rattle.std.proofs.lemmas.List.{length-take-le}
use Rattle.outside.specs.declared.replies.Reply.{Reply}
use Rattle.outside.specs.declared.replies.Reply.TheVariants.{Body, Quoted, Lost, Garbled, Unsent, Oversize}
use Rattle.outside.specs.Objects.{used, Rose}
use Rattle.outside.specs.Sizes.{most_body_bytes}
use Rattle.outside.specs.Sources.{Gives, IsAtEnd}
use Rattle.outside.specs.Links.{LinkSeen, GaveOfLink, Broke}
use Rattle.http_fetch.specs.declared.decoder.Decoder.{Decoder}
use Rattle.http_fetch.specs.declared.stages.Stage.TheVariants.{Heads}
use Rattle.http_fetch.specs.Replies.{Http}
use Rattle.http_fetch.specs.Decoders.{StandsFor, MustEnd, IsSettled}
use Rattle.http_fetch.specs.Links.{HasRead, IsReplyOf, RepliesTo}
use Rattle.http_fetch.proofs.DecoderLemmas.{must-not-end, stands-new}
use Rattle.http_fetch.proofs.ReplyLemmas.{no-lost, no-unsent}
use Rattle.http_fetch.proofs.SizeLemmas.{no-later}

gives-none : (o : Option (List ℕ)) → Gives [] o o
gives-none None = tt
gives-none (Some b) = (b, refl, refl)

-- what is given behind what was given
gives-more : (o p q : Option (List ℕ)) (bytes piece : List ℕ) → Gives bytes o p → Gives piece p q → Gives (bytes ++ piece) o q
gives-more None p q bytes piece one two = tt
gives-more (Some had) p q bytes piece one two =
    let three : Gives piece (Some one.0) q = subst (λ (t : Option (List ℕ)). Gives piece t q) one.1 two in
    (three.0, three.1, one.2 ∙ ap (λ (t : List ℕ). bytes ++ t) three.2 ∙ sym (append_assoc bytes piece three.0))

pub read-none : (s : LinkSeen) (d : Decoder) (limit : ℕ) → StandsFor d limit [] → HasRead (used s s) d limit 0
read-none s d limit stands = record {
  bytes = [];
  left = gives-none s.left;
  rest = refl;
  stands = stands;
  many = omega arith;
  going = must-not-end limit (Heads 8) [] [] [] (stands-new limit) refl;
}

-- the piece that a read gave is the front of the room
pub of-room : (m e : LinkSeen) (n : ℕ) (room piece : List ℕ) → piece ≡ take n room → GaveOfLink (take n room) (used m e) → GaveOfLink piece (used m e)
of-room m e n room piece is gave = subst (λ (t : List ℕ). GaveOfLink t (used m e)) (sym is) gave

pub none-of-room : (m e : LinkSeen) (n : ℕ) (room : List ℕ) → n ≡ 0 → GaveOfLink (take n room) (used m e) → GaveOfLink [] (used m e)
none-of-room m e n room none gave = subst (λ (t : List ℕ). GaveOfLink t (used m e)) (ap (λ (k : ℕ). take k room) none) gave

pub len-of-room : (n : ℕ) (room piece : List ℕ) → piece ≡ take n room → n ≤ length room → length piece ≡ n
len-of-room n room piece is within = ap length is ∙ length-take-le n room within

-- a read more
pub read-more : (a m e : LinkSeen) (d f : Decoder) (limit count : ℕ) (piece : List ℕ) (r : HasRead (used a m) d limit count) → GaveOfLink piece (used m e) → 0 < length piece →
    StandsFor f limit (r.bytes ++ piece) → (MustEnd (r.bytes ++ piece) limit → ⊥) → HasRead (used a e) f limit (count + 1)
read-more a m e d f limit count piece r gave some stands going =
    let many : count ≤ length r.bytes = r.many in
    record {
      bytes = r.bytes ++ piece;
      left = gives-more a.left m.left e.left r.bytes piece r.left gave.left;
      rest = gave.rest ∙ ap (λ (t : LinkSeen). record t { left = e.left }) r.rest;
      stands = stands;
      many = omega (arith, length-append r.bytes piece, many, some);
      going = going;
    }

-- the count of faults is as it was
pub same-faults : (a m : LinkSeen) (d : Decoder) (limit count : ℕ) → HasRead (used a m) d limit count → m.faults ≡ a.faults
same-faults a m d limit count r = ap (λ (t : LinkSeen). t.faults) r.rest

pub same-sent : (a m : LinkSeen) (d : Decoder) (limit count : ℕ) → HasRead (used a m) d limit count → m.sent ≡ a.sent
same-sent a m d limit count r = ap (λ (t : LinkSeen). t.sent) r.rest

gave-faults : (m e : LinkSeen) (bytes : List ℕ) → GaveOfLink bytes (used m e) → e.faults ≡ m.faults
gave-faults m e bytes gave = ap (λ (t : LinkSeen). t.faults) gave.rest

-- a reply that the bytes have is no other than theirs
of-bytes : (limit : ℕ) (b : List ℕ) (r : Reply) (a e : LinkSeen) → Http b limit r → RepliesTo limit r (used a e) → IsReplyOf limit r (used a e)
of-bytes limit b (Body s c) a e h x = x
of-bytes limit b (Quoted s c) a e h x = x
of-bytes limit b Lost a e h x = absurd (no-lost limit b h)
of-bytes limit b Garbled a e h x = x
of-bytes limit b Unsent a e h x = absurd (no-unsent limit b h)
of-bytes limit b Oversize a e h x = x

-- the link's end, where nothing is left
at-end : (o p : Option (List ℕ)) (limit : ℕ) (bytes : List ℕ) (r : Reply) → Gives bytes o p → IsAtEnd p → Http bytes limit r → IfSome o (λ b. Http b limit r)
at-end None p limit bytes r one two h = tt
at-end (Some had) p limit bytes r one two h =
    let none : one.0 ≡ [] = subst IsAtEnd one.1 two in
    subst (λ (t : List ℕ). Http t limit r) (sym (one.2 ∙ ap (λ (t : List ℕ). bytes ++ t) none ∙ append-nil bytes)) h

-- whatever is left
whatever-left : (o p : Option (List ℕ)) (limit : ℕ) (bytes : List ℕ) (r : Reply) → Gives bytes o p → ((more : List ℕ) → Http (bytes ++ more) limit r) → IfSome o (λ b. Http b limit r)
whatever-left None p limit bytes r one h = tt
whatever-left (Some had) p limit bytes r one h = subst (λ (t : List ℕ). Http t limit r) (sym one.2) (h one.0)

pub reply-end : (a m e : LinkSeen) (d : Decoder) (limit count : ℕ) (reply : Reply) (r : HasRead (used a m) d limit count) → GaveOfLink [] (used m e) → IsAtEnd m.left →
    Http r.bytes limit reply → IsReplyOf limit reply (used a e)
reply-end a m e d limit count reply r gave end h =
    of-bytes limit r.bytes reply a e h (gave-faults m e [] gave ∙ same-faults a m d limit count r, at-end a.left m.left limit r.bytes reply r.left end h)

pub reply-done : (a m e : LinkSeen) (d : Decoder) (limit count : ℕ) (piece : List ℕ) (reply : Reply) (r : HasRead (used a m) d limit count) → GaveOfLink piece (used m e) →
    Http (r.bytes ++ piece) limit reply → IsSettled (r.bytes ++ piece) limit → IsReplyOf limit reply (used a e)
reply-done a m e d limit count piece reply r gave h settled =
    of-bytes limit (r.bytes ++ piece) reply a e h (
      gave-faults m e piece gave ∙ same-faults a m d limit count r,
      whatever-left a.left e.left limit (r.bytes ++ piece) reply (gives-more a.left m.left e.left r.bytes piece r.left gave.left) (λ more. (settled more reply).0 h),
    )

pub reply-last : (a m : LinkSeen) (d : Decoder) (limit count : ℕ) → HasRead (used a m) d limit count → limit ≤ most_body_bytes → 34359738368 ≤ count → IsReplyOf limit Garbled (used a m)
reply-last a m d limit count r small long =
    let many : count ≤ length r.bytes = r.many in
    (same-faults a m d limit count r, whatever-left a.left m.left limit r.bytes Garbled r.left (λ more. no-later limit r.bytes more small (omega (arith, many, long)) r.going))

pub reply-lost : (a m e : LinkSeen) (d : Decoder) (limit count : ℕ) → HasRead (used a m) d limit count → Broke (used m e) → Rose a.faults e.faults
reply-lost a m e d limit count r broke = subst (λ (n : ℕ). Rose n e.faults) (same-faults a m d limit count r) broke.counted

pub sent-lost : (a m e : LinkSeen) (d : Decoder) (limit count : ℕ) → HasRead (used a m) d limit count → Broke (used m e) → e.sent ≡ a.sent
sent-lost a m e d limit count r broke = ap (λ (t : LinkSeen). t.sent) broke.rest ∙ same-sent a m d limit count r

pub sent-read : (a m e : LinkSeen) (d : Decoder) (limit count : ℕ) (piece : List ℕ) → HasRead (used a m) d limit count → GaveOfLink piece (used m e) → e.sent ≡ a.sent
sent-read a m e d limit count piece r gave = ap (λ (t : LinkSeen). t.sent) gave.rest ∙ same-sent a m d limit count r
