-- What a connection is answered, request by request (RFC 9112, sections 2.2, 9.3 and 9.6: messages one after another, persistence and its end;
-- RFC 9110, section 15.5.1, for what isn't a request).
use Rattle.std.specs.Prelude.{◌≡◌, ◌⊎◌, ℕ, Bool, true, false, List, [], ◌∷◌, ◌++◌}
use Rattle.std.specs.List.{flat_map}
use Rattle.httparse.specs.Grammar.{RequestHead}
use Rattle.journal_text.specs.declared.events.Event.{Event}
use Rattle.request_heads.specs.Fronts.{HeadAt, IsTorn, NoHead}
use Rattle.request_heads.specs.Requests.{closes, page_of, query_of}
use Rattle.request_heads.specs.declared.pages.Page.{Page}
use Rattle.request_heads.specs.declared.pages.Page.TheVariants as pages
use Rattle.status_server.specs.Answers as answers
use Rattle.status_server.specs.Federates.{IsFederate}
use Rattle.status_server.specs.Reloads.{Basis, IsReload, basis}
use Rattle.status_server.specs.Replies.{reply}
use Rattle.status_server.specs.declared.replies.Status.TheVariants.{BadRequest}

-- a request, its reply, and the loads that it makes, of which there is one at most
pub record Exchange : Type 0 where
  pub head : RequestHead
  pub reply : List ℕ
  pub loads : List Event

abbrev pub reply_of : Exchange → List ℕ
reply_of x = x.reply

abbrev pub loads_of : Exchange → List Event
loads_of x = x.loads

-- what some requests come to: the bytes of their replies, and the loads that they make
pub record Outcome : Type 0 where
  pub replies : List ℕ
  pub loads : List Event

abbrev pub outcome : List ℕ → List Event → Outcome
outcome replies loads = record { replies = replies; loads = loads }

-- after a journal, a request for a page with this query is answered so, and makes these loads
abbrev pub IsAnswered : Basis → Page → List ℕ → Bool → Outcome → Type 0
IsAnswered b pages.Reload query closes o = IsReload b.journal b.site (answers.ends pages.Reload closes) o.replies o.loads
IsAnswered b pages.Federate query closes o = IsFederate b.journal query (answers.ends pages.Federate closes) o.replies × (o.loads ≡ [])
IsAnswered b page query closes o = (o.replies ≡ answers.answer b.journal page closes) × (o.loads ≡ [])

abbrev pub IsExchange : Basis → Exchange → Type 0
IsExchange b x = IsAnswered b (page_of x.head) (query_of x.head.target) (closes x.head) (outcome x.reply x.loads)

-- what is answered from where further loads were made
abbrev pub with_loads : Basis → List Event → Basis
with_loads b loads = basis (b.journal ++ loads) b.site

-- the connection ends behind the reply to a request
abbrev pub ends : RequestHead → Bool
ends h = answers.ends (page_of h) (closes h)

-- the text begins with the requests of these exchanges, behind none of which the connection ends, and goes on with rest
abbrev pub Asks : Basis → List ℕ → List Exchange → List ℕ → Type 0
Asks b text [] rest = text ≡ rest
Asks b text (x ∷ xs) rest =
    (next : List ℕ) × HeadAt text x.head next × (ends x.head ≡ false) × IsExchange b x × Asks (with_loads b x.loads) next xs rest

-- the first requests of a text are answered so, and make these loads; rest follows their heads
pub record Answered (b : Basis) (text rest : List ℕ) (o : Outcome) : Type 0 where
  pub exchanges : List Exchange
  pub asks : Asks b text exchanges rest
  pub replies_are : o.replies ≡ flat_map reply_of exchanges
  pub loads_are : o.loads ≡ flat_map loads_of exchanges

-- each request is answered so, and the text may go on: it ends before a head, or within one
pub record IsOpen (b : Basis) (text : List ℕ) (o : Outcome) : Type 0 where
  pub rest : List ℕ
  pub answered : Answered b text rest o
  pub torn : (rest ≡ []) ⊎ IsTorn rest

-- what ends a connection: a request in front, behind which it ends; or what isn't one, whatever follows
pub record IsLastExchange (b : Basis) (text : List ℕ) (o : Outcome) : Type 0 where
  pub exchange : Exchange
  pub next : List ℕ
  pub head : HeadAt text exchange.head next
  pub over : ends exchange.head ≡ true
  pub is : IsExchange b exchange
  pub replies_are : o.replies ≡ exchange.reply
  pub loads_are : o.loads ≡ exchange.loads

pub record IsNoRequest (text : List ℕ) (o : Outcome) : Type 0 where
  pub none : (more : List ℕ) → NoHead (text ++ more)
  pub replies_are : o.replies ≡ reply BadRequest true []
  pub loads_are : o.loads ≡ []

abbrev pub IsLast : Basis → List ℕ → Outcome → Type 0
IsLast b text o = IsLastExchange b text o ⊎ IsNoRequest text o

-- requests are answered so, and behind the last reply the connection ends
pub record IsClosed (b : Basis) (text : List ℕ) (o : Outcome) : Type 0 where
  pub first : List ℕ
  pub rest : List ℕ
  pub begun : List Event
  pub answered : Answered b text rest (outcome first begun)
  pub last : List ℕ
  pub ended : List Event
  pub closes : IsLast (with_loads b begun) rest (outcome last ended)
  pub replies_are : o.replies ≡ first ++ last
  pub loads_are : o.loads ≡ begun ++ ended

-- the replies to the bytes of a connection, and the loads that its requests make, whether it ends within them or with them
abbrev pub IsServed : Basis → List ℕ → Outcome → Type 0
IsServed b text o = IsOpen b text o ⊎ IsClosed b text o

-- the same of its first requests
pub record IsBegun (b : Basis) (text : List ℕ) (o : Outcome) : Type 0 where
  pub rest : List ℕ
  pub answered : Answered b text rest o

abbrev pub AreFirst : Basis → List ℕ → Outcome → Type 0
AreFirst b text o = IsBegun b text o ⊎ IsClosed b text o
