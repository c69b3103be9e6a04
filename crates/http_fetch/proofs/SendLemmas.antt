-- What was sent over a link, piece by piece.
use Rattle.std.proofs.Common.{rules, ◌≡◌, ℕ, List, [], ◌++◌, take, drop, Option, Some, None, IfSome, Result, Ok, Err, false, refl, sym, ap, ◌∙◌, subst, append_assoc, append-nil}
use Rattle.std.proofs.lemmas.List.{take-append-drop}
use Rattle.outside.specs.Objects.{used, Rose}
use Rattle.outside.specs.Links.{LinkSeen, WasDialled, TookToSend, Broke}
use Rattle.std.specs.Result.{OnOk, is_err}
use Rattle.outside.specs.declared.requests.Request.{Request}
use Rattle.outside.specs.declared.replies.Reply.{Reply}
use Rattle.outside.specs.declared.replies.Reply.TheVariants.{Body, Quoted, Lost, Garbled, Unsent, Oversize}
use Rattle.http_fetch.specs.Requests.{request_text}
use Rattle.http_fetch.specs.Links.{HasSent, SentFront, Adds, SendsRequest, SendsNothing}

adds-none : (o : Option (List ℕ)) → IfSome o (λ had. o ≡ Some (had ++ []))
adds-none None = tt
adds-none (Some had) = ap (λ (t : List ℕ). Some t) (sym (append-nil had))

adds-more : (o p q : Option (List ℕ)) (front piece : List ℕ) → IfSome o (λ had. p ≡ Some (had ++ front)) → IfSome p (λ had. q ≡ Some (had ++ piece)) → IfSome o (λ had. q ≡ Some (had ++ (front ++ piece)))
adds-more None p q front piece one two = tt
adds-more (Some had) p q front piece one two =
    let three : q ≡ Some ((had ++ front) ++ piece) = subst (λ (t : Option (List ℕ)). IfSome t (λ had. q ≡ Some (had ++ piece))) one two in
    three ∙ ap (λ (t : List ℕ). Some t) (append_assoc had front piece)

pub sent-none : (text : List ℕ) (s : LinkSeen) → HasSent text text (used s s)
sent-none text s = record { front = []; all = refl; took = record { sent = adds-none s.sent; rest = refl } }

took-more : (a m e : LinkSeen) (front piece : List ℕ) → TookToSend front (used a m) → TookToSend piece (used m e) → TookToSend (front ++ piece) (used a e)
took-more a m e front piece x y = record {
  sent = adds-more a.sent m.sent e.sent front piece x.sent y.sent;
  rest = y.rest ∙ ap (λ (t : LinkSeen). record t { sent = e.sent }) x.rest;
}

pub sent-more : (text rest : List ℕ) (a m e : LinkSeen) (count : ℕ) → HasSent text rest (used a m) → TookToSend (take count rest) (used m e) → HasSent text (drop count rest) (used a e)
sent-more text rest a m e count x y = record {
  front = x.front ++ take count rest;
  all = x.all ∙ ap (λ (t : List ℕ). x.front ++ t) (sym (take-append-drop count rest)) ∙ sym (append_assoc x.front (take count rest) (drop count rest));
  took = took-more a m e x.front (take count rest) x.took y;
}

pub sent-all : (text rest : List ℕ) (a m : LinkSeen) → HasSent text rest (used a m) → rest ≡ [] → TookToSend text (used a m)
sent-all text rest a m x none = subst (λ (t : List ℕ). TookToSend t (used a m)) (sym (x.all ∙ ap (λ (t : List ℕ). x.front ++ t) none ∙ append-nil x.front)) x.took

pub sent-front : (text rest : List ℕ) (a m e : LinkSeen) → HasSent text rest (used a m) → Broke (used m e) → SentFront text (used a e)
sent-front text rest a m e x y = record {
  front = (x.front, rest, x.all, subst (λ (t : Option (List ℕ)). IfSome a.sent (λ had. t ≡ Some (had ++ x.front))) (sym (ap (λ (t : LinkSeen). t.sent) y.rest)) x.took.sent);
  counted = subst (λ (n : ℕ). Rose n e.faults) (ap (λ (t : LinkSeen). t.faults) x.took.rest) y.counted;
}

-- what holds at Ok, where there is no error
pub at-ok : {T E X : Type 0} (r : Result T E) → false ≡ is_err r → OnOk r X → X
at-ok (Ok v) e x = x
at-ok (Err y) e x = absurd (search (rules, e))

adds-text : (text : List ℕ) (a d s e : LinkSeen) → WasDialled (used a d) → TookToSend text (used d s) → SendsNothing (used s e) → Adds text (used a e)
adds-text text a d s e dialled took same =
    let one : IfSome d.sent (λ had. e.sent ≡ Some (had ++ text)) = subst (λ (t : Option (List ℕ)). IfSome d.sent (λ had. t ≡ Some (had ++ text))) (sym same) took.sent in
    subst (λ (t : Option (List ℕ)). IfSome t (λ had. e.sent ≡ Some (had ++ text))) (ap (λ (t : LinkSeen). t.sent) dialled) one

sends-all : (request : Request) (r : Reply) (a e : LinkSeen) → Adds (request_text request) (used a e) → SendsRequest request r (used a e)
sends-all request (Body s c) a e adds = adds
sends-all request (Quoted s c) a e adds = adds
sends-all request Lost a e adds = (request_text request, [], sym (append-nil (request_text request)), adds)
sends-all request Garbled a e adds = adds
sends-all request Unsent a e adds = adds
sends-all request Oversize a e adds = adds

-- the text of a request was sent on a link that was dialled, and nothing after it
pub sends : (request : Request) (text : List ℕ) (r : Reply) (a d s e : LinkSeen) → text ≡ request_text request → WasDialled (used a d) → TookToSend text (used d s) → SendsNothing (used s e) →
    SendsRequest request r (used a e)
sends request text r a d s e is dialled took same =
    sends-all request r a e (subst (λ (t : List ℕ). Adds t (used a e)) is (adds-text text a d s e dialled took same))
