-- What stands at the front of a connection's bytes.
use Rattle.std.specs.Prelude.{◌≡◌, ℕ, ◌<◌, ◌≤◌, List, ◌++◌, length, drop}
use Rattle.httparse.specs.Grammar.{RequestHead, print_request, ReadsRequest, MayBecomeRequest}
use Rattle.request_heads.specs.declared.fronts.Front.{Front}
use Rattle.request_heads.specs.declared.fronts.Front.TheVariants.{Whole, Waiting, Never}
use Rattle.request_heads.specs.declared.fronts.Request.{Request}
use Rattle.request_heads.specs.Requests.{page_of, query_of, closes}

-- the text is the head h, and then rest
pub record HeadAt (text : List ℕ) (h : RequestHead) (rest : List ℕ) : Type 0 where
  pub reads : ReadsRequest text h rest
  pub few : length h.fields ≤ 64
  pub short : length (print_request h) ≤ 65536

-- no head is at the front
abbrev pub NoHead : List ℕ → Type 0
NoHead text = (h : RequestHead) (rest : List ℕ) → ¬ (HeadAt text h rest)

-- the text may still become a head, by what follows
pub record IsTorn (text : List ℕ) : Type 0 where
  pub none : NoHead text
  pub may : MayBecomeRequest text
  pub short : length text ≤ 65536

-- a head of this length is at the front, and asks for that
pub record HasRequest (text : List ℕ) (r : Request) (len : ℕ) : Type 0 where
  pub head : RequestHead
  pub reads : HeadAt text head (drop len text)
  pub len_is : len ≡ length (print_request head)
  pub page_is : r.page ≡ page_of head
  pub query_is : r.query.now ≡ query_of head.target
  pub closes_is : r.closes ≡ closes head
  pub some : 0 < len
  pub within : len ≤ length text

abbrev pub IsFront : List ℕ → Front → Type 0
IsFront text (Whole request len) = HasRequest text request len
IsFront text Waiting = IsTorn text
IsFront text Never = (more : List ℕ) → NoHead (text ++ more)
