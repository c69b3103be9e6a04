-- Exchanges one after another.
use Rattle.std.proofs.Common.{◌≡◌, inl, inr, ℕ, List, [], ◌∷◌, ◌++◌, refl, sym, ap, subst, ◌∙◌, append_assoc, append-nil}
use Rattle.std.specs.Prelude.{false}
use Rattle.std.specs.List.{flat_map}
use Rattle.httparse.specs.Grammar.{RequestHead}
use Rattle.httparse.proofs.GrammarLemmas.{ReadsRequest-append}
use Rattle.journal_text.specs.declared.events.Event.{Event}
use Rattle.request_heads.specs.Fronts.{HeadAt, NoHead}
use Rattle.status_server.specs.Connections.{Answered, AreFirst, Asks, Exchange, IsBegun, IsClosed, IsExchange, IsLast, ends, loads_of, outcome, reply_of}
use Rattle.status_server.specs.Reloads.{Site, basis}

-- a head at the front stays there, whatever follows
pub head-append : (text : List ℕ) (h : RequestHead) (rest more : List ℕ) → HeadAt text h rest → HeadAt (text ++ more) h (rest ++ more)
head-append text h rest more at = record { reads = ReadsRequest-append text h rest more at.reads; few = at.few; short = at.short }

flat-append : {A B : Type 0} (f : A → List B) (xs ys : List A) → flat_map f (xs ++ ys) ≡ flat_map f xs ++ flat_map f ys
flat-append f [] ys = refl
flat-append f (x ∷ xs) ys = ap (λ zs. f x ++ zs) (flat-append f xs ys) ∙ sym (append_assoc (f x) (flat_map f xs) (flat_map f ys))

asks-append : (es : List Event) (site : Site) (text : List ℕ) (xs : List Exchange) (rest more : List ℕ) → Asks (basis es site) text xs rest → Asks (basis es site) (text ++ more) xs (rest ++ more)
asks-append es site text [] rest more a = ap (λ t. t ++ more) a
asks-append es site text (x ∷ xs) rest more (next, at, on, is, a) = (next ++ more, head-append text x.head next more at, on, is, asks-append (es ++ x.loads) site next xs rest more a)

asks-then : (es : List Event) (site : Site) (text : List ℕ) (xs : List Exchange) (mid : List ℕ) (ys : List Exchange) (rest : List ℕ) →
    Asks (basis es site) text xs mid → Asks (basis (es ++ flat_map loads_of xs) site) mid ys rest → Asks (basis es site) text (xs ++ ys) rest
asks-then es site text [] mid ys rest a b =
    subst (λ t. Asks (basis es site) t ys rest) (sym a) (subst (λ (js : List Event). Asks (basis js site) mid ys rest) (append-nil es) b)
asks-then es site text (x ∷ xs) mid ys rest (next, at, on, is, a) b = (
  next,
  at,
  on,
  is,
  asks-then (es ++ x.loads) site next xs mid ys rest a
      (subst (λ (js : List Event). Asks (basis js site) mid ys rest) (sym (append_assoc es x.loads (flat_map loads_of xs))) b),
)

-- nothing was asked yet
pub answered-none : (es : List Event) (site : Site) (text : List ℕ) → Answered (basis es site) text text (outcome [] [])
answered-none es site text = record { exchanges = []; asks = refl; replies_are = refl; loads_are = refl }

pub answered-append : (es : List Event) (site : Site) (text replies rest more : List ℕ) (loads : List Event) → Answered (basis es site) text rest (outcome replies loads) → Answered (basis es site) (text ++ more) (rest ++ more) (outcome replies loads)
answered-append es site text replies rest more loads a = record {
  exchanges = a.exchanges;
  asks = asks-append es site text a.exchanges rest more a.asks;
  replies_are = a.replies_are;
  loads_are = a.loads_are;
}

pub answered-then : (es : List Event) (site : Site) (text one mid two rest : List ℕ) (ls ms : List Event) →
    Answered (basis es site) text mid (outcome one ls) → Answered (basis (es ++ ls) site) mid rest (outcome two ms) → Answered (basis es site) text rest (outcome (one ++ two) (ls ++ ms))
answered-then es site text one mid two rest ls ms a b = record {
  exchanges = a.exchanges ++ b.exchanges;
  asks = asks-then es site text a.exchanges mid b.exchanges rest a.asks
      (subst (λ (js : List Event). Asks (basis (es ++ js) site) mid b.exchanges rest) a.loads_are b.asks);
  replies_are = ap (λ t. t ++ two) a.replies_are ∙ ap (λ t. flat_map reply_of a.exchanges ++ t) b.replies_are ∙ sym (flat-append reply_of a.exchanges b.exchanges);
  loads_are = ap (λ t. t ++ ms) a.loads_are ∙ ap (λ t. flat_map loads_of a.exchanges ++ t) b.loads_are ∙ sym (flat-append loads_of a.exchanges b.exchanges);
}

-- a request more
pub answered-one : (es : List Event) (site : Site) (text rest reply : List ℕ) (loads : List Event) (x : Exchange) → HeadAt text x.head rest → ends x.head ≡ false → IsExchange (basis es site) x →
    reply ≡ x.reply → loads ≡ x.loads → Answered (basis es site) text rest (outcome reply loads)
answered-one es site text rest reply loads x at on is r l = record {
  exchanges = x ∷ [];
  asks = (rest, at, on, is, refl);
  replies_are = r ∙ sym (append-nil x.reply);
  loads_are = l ∙ sym (append-nil x.loads);
}

-- the end of a connection behind its first requests
pub closed-then : (es : List Event) (site : Site) (text one mid two : List ℕ) (ls ms : List Event) →
    Answered (basis es site) text mid (outcome one ls) → IsClosed (basis (es ++ ls) site) mid (outcome two ms) → IsClosed (basis es site) text (outcome (one ++ two) (ls ++ ms))
closed-then es site text one mid two ls ms a c = record {
  first = one ++ c.first;
  rest = c.rest;
  begun = ls ++ c.begun;
  answered = answered-then es site text one mid c.first c.rest ls c.begun a c.answered;
  last = c.last;
  ended = c.ended;
  closes = subst (λ (js : List Event). IsLast (basis js site) c.rest (outcome c.last c.ended)) (append_assoc es ls c.begun) c.closes;
  replies_are = ap (λ t. one ++ t) c.replies_are ∙ sym (append_assoc one c.first c.last);
  loads_are = ap (λ t. ls ++ t) c.loads_are ∙ sym (append_assoc ls c.begun c.ended);
}

pub closed-last : (es : List Event) (site : Site) (text replies : List ℕ) (loads : List Event) → IsLast (basis es site) text (outcome replies loads) → IsClosed (basis es site) text (outcome replies loads)
closed-last es site text replies loads l = record {
  first = [];
  rest = text;
  begun = [];
  answered = answered-none es site text;
  last = replies;
  ended = loads;
  closes = subst (λ (js : List Event). IsLast (basis js site) text (outcome replies loads)) (sym (append-nil es)) l;
  replies_are = refl;
  loads_are = refl;
}

-- a connection that ended is ended, whatever follows
last-append : (es : List Event) (site : Site) (text replies more : List ℕ) (loads : List Event) → IsLast (basis es site) text (outcome replies loads) → IsLast (basis es site) (text ++ more) (outcome replies loads)
last-append es site text replies more loads (inl l) = inl (record {
  exchange = l.exchange;
  next = l.next ++ more;
  head = head-append text l.exchange.head l.next more l.head;
  over = l.over;
  is = l.is;
  replies_are = l.replies_are;
  loads_are = l.loads_are;
})
last-append es site text replies more loads (inr n) = inr (record {
  none = λ after. subst NoHead (sym (append_assoc text more after)) (n.none (more ++ after));
  replies_are = n.replies_are;
  loads_are = n.loads_are;
})

pub closed-append : (es : List Event) (site : Site) (text replies more : List ℕ) (loads : List Event) → IsClosed (basis es site) text (outcome replies loads) → IsClosed (basis es site) (text ++ more) (outcome replies loads)
closed-append es site text replies more loads c = record {
  first = c.first;
  rest = c.rest ++ more;
  begun = c.begun;
  answered = answered-append es site text c.first c.rest more c.begun c.answered;
  last = c.last;
  ended = c.ended;
  closes = last-append (es ++ c.begun) site c.rest c.last more c.ended c.closes;
  replies_are = c.replies_are;
  loads_are = c.loads_are;
}

pub begun-then : (es : List Event) (site : Site) (text one mid two : List ℕ) (ls ms : List Event) →
    Answered (basis es site) text mid (outcome one ls) → IsBegun (basis (es ++ ls) site) mid (outcome two ms) → IsBegun (basis es site) text (outcome (one ++ two) (ls ++ ms))
begun-then es site text one mid two ls ms a b = record { rest = b.rest; answered = answered-then es site text one mid two b.rest ls ms a b.answered }

pub first-then : (es : List Event) (site : Site) (text one mid two : List ℕ) (ls ms : List Event) →
    Answered (basis es site) text mid (outcome one ls) → AreFirst (basis (es ++ ls) site) mid (outcome two ms) → AreFirst (basis es site) text (outcome (one ++ two) (ls ++ ms))
first-then es site text one mid two ls ms a (inl b) = inl (begun-then es site text one mid two ls ms a b)
first-then es site text one mid two ls ms a (inr c) = inr (closed-then es site text one mid two ls ms a c)
